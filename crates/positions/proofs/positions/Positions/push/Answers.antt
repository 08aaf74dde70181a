use Rattle.std.proofs.Common.{◌≡◌, true, subst, sym}
use Rattle.positions.specs.Sets.{ascends, are_before}
use Rattle.positions.proofs.Order.{ascends_more}
use Rattle.positions.proofs.positions.Positions.push.Goals as goal

pub invariant_of-self-2 : goal.invariant_of-self-2
invariant_of-self-2 c =
    subst (λ l. ascends l ≡ true) (sym c.in_ok-push.ensures.items)
    (ascends_more c.self.inside.items.items c.args.position c.self.invariant (subst (λ l. are_before c.args.position l ≡ true) (sym c.self.view_is) c.requires))
