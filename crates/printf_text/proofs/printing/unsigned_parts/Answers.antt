use Rattle.std.proofs.Common.{subst, sym}
use Rattle.printf_text.specs.Texts.{HasNoLeadingZero}
use Rattle.printf_text.proofs.Writing.{no_leading_zero}
use Rattle.printf_text.proofs.printing.unsigned_parts.Goals as goal

pub marked_zeros-requires : goal.marked_zeros-requires
marked_zeros-requires c = subst HasNoLeadingZero (sym c.requires) (no_leading_zero c.args.radix c.args.n)
