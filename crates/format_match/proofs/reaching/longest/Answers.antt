use Rattle.std.proofs.Common.{sym, subst}
use Rattle.format_match.specs.Reaches.{IsLongest}
use Rattle.format_match.proofs.Widths.{pointer_longest}
use Rattle.format_match.proofs.reaching.longest.Goals as goal

pub returns-in-Pointer : goal.returns-in-Pointer
returns-in-Pointer c = subst (λ f. IsLongest f c.args.precision 18) (sym c.in-Pointer.is) (pointer_longest c.args.precision)
