use Rattle.std.proofs.Common.{◌<◌, ◌+◌, refl, subst, sym}
use Rattle.format_match.proofs.Markings.{AreBelow, below_none, below_more, below_all}
use Rattle.format_match.proofs.marking.all_marks.Goals as goal

pub positions-init : goal.positions-init
positions-init c = subst (λ l. AreBelow (λ y. y < c.args.len) 0 l) (sym c.new-marks.ensures.items) (below_none (λ y. y < c.args.len))

pub positions-preserved : goal.positions-preserved
positions-preserved c =
    let n = c.positions._position in
    subst (λ l. AreBelow (λ y. y < c.args.len) (n + 1) l) (sym c.in_ok-push.ensures.items)
    (below_more (λ y. y < c.args.len) n c.positions.marks.items _ (λ e. c.positions-test.true, λ p. refl) c.positions.invariant)

pub returns : goal.returns
returns c = below_all (λ y. y < c.args.len) c.args.len c.positions._position c.positions.marks.items c.positions-test.false c.positions.invariant (λ y h. h)
