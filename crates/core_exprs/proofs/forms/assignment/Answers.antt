use Rattle.plain_data.proofs.Tried.{of_both}
use Rattle.core_exprs.proofs.forms.assignment.Goals as goal

pub returns-in-Some : goal.returns-in-Some
returns-in-Some c n p q =
    rw (c.in-Some.is) (of_both c.args.x c.args.y c.in_ok-parts.parts c.compound.result _ _ _ c.in_ok-parts.ensures
    (λ h i. c.compound.ensures n p q h i))

pub returns : goal.returns
returns c n p q =
    rw (c.in_default.is) (of_both c.args.x c.args.y c.in_ok-parts.parts c.simple.result _ _ _ c.in_ok-parts.ensures
    (λ h i. c.simple.ensures n p q h i))
