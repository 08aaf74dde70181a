use Rattle.std.proofs.Common.{refl, ◌∙◌}
use Rattle.c_means.specs.Rules.{all_same, plain_all}
use Rattle.c_checks.specs.Takings.{all_plain}
use Rattle.c_checks.proofs.Loops.{ends}
use Rattle.c_checks.proofs.takings.are_plain.Goals as goal

pub returns : goal.returns
returns c =
    c.none_left.ensures
    ∙ ends (λ ts. all_same (plain_all ts) (all_plain c.loop-ctype.rest.now)) c.args.types.now c.loop-ctype.ctype-index
    refl c.loop-ctype-test.false c.loop-ctype.invariant
