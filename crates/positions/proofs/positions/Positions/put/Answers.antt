use Rattle.std.proofs.Common.{◌≡◌, ◌∙◌, ◌<◌, ◌||◌, eqb, true, length, get_or, sym, ap, subst}
use Rattle.positions.specs.Sets.{has, ascends, IsIndexOf}
use Rattle.positions.proofs.Order.{put_has, put_ascends}
use Rattle.positions.proofs.positions.Positions.put.Goals as goal

pub invariant_of-self-2 : goal.invariant_of-self-2
invariant_of-self-2 c =
    let xs = c.self.inside.items.items in
    let i = c.index_of-index.result in
    let p = c.args.position in
    subst (λ l. ascends l ≡ true) (sym c.in_ok-insert.ensures.items)
    (put_ascends xs i p c.self.invariant (subst (λ l. IsIndexOf l p i) c.as_slice.ensures.value c.index_of-index.ensures)
    (subst (λ l. i < length l → get_or l i 0 ≡ p → ⊥) c.as_slice-2.ensures.value (c.stands_at.ensures.no c.if-stands_at.false)))

pub returns : goal.returns
returns c y =
    let xs = c.self.inside.items.items in
    ap (λ l. has l y) c.in_ok-insert.ensures.items ∙ put_has xs c.index_of-index.result c.args.position y
    ∙ ap (λ l. has l y || eqb c.args.position y) c.self.view_is
