use Rattle.std.proofs.Common.{◌≡◌, true, subst, sym}
use Rattle.positions.specs.Sets.{ascends, Merges}
use Rattle.positions.proofs.Order.{merges_more, least_behind, ascends_more}
use Rattle.positions.proofs.merging.merged.Goals as goal

pub merge-preserved : goal.merge-preserved
merge-preserved c =
    let xs = c.args.xs.now in
    let ys = c.args.ys.now in
    let out = c.merge.out.items in
    let next = c.in-Some.next in
    record {
      merges = subst (λ l. Merges xs ys l next.i next.j) (sym c.in_ok-push.ensures.items)
          (merges_more xs ys out c.merge.i c.merge.j next.least next.i next.j c.merge.invariant.merges c.in-Some.ensures);
      ordered = subst (λ l. ascends l ≡ true) (sym c.in_ok-push.ensures.items)
          (ascends_more out next.least c.merge.invariant.ordered
          (least_behind xs ys out c.merge.i c.merge.j next.least next.i next.j c.merge.invariant.merges c.in-Some.ensures));
    }
