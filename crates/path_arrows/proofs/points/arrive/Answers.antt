use Rattle.std.proofs.Common.{ℕ, Some}
use Rattle.std.proofs.lemmas.List.{take_all}
use Rattle.core_tree.specs.States.{arrive}
use Rattle.path_states.proofs.Paths.{item_of, more_of, goes_more}
use Rattle.path_arrows.specs.Arrows.{by_arrow}
use Rattle.path_arrows.specs.Points.{at_point, state_kind_at}
use Rattle.path_arrows.proofs.Stepped.{marks_none, marks_one, kind_behind, is_kind_behind}
use Rattle.path_arrows.proofs.points.arrive.Goals as goal

pub loop-state-init : goal.loop-state-init
loop-state-init c = λ room a are. rw c.new-all.ensures (marks_none room a (at_point c.args.point.now))

pub loop-state-preserved : goal.loop-state-preserved
loop-state-preserved c =
    λ room a are.
    let is = item_of a c.loop-state.state-index c.args.states.now c.state-item.result are c.loop-state-test.true c.state-item.is in
    rw (
      c.in_ok-push.ensures.ok,
      c.in_ok-next.ensures,
      c.in_ok-kind.ensures,
      c.new.ensures,
      more_of c.args.states.now c.loop-state.state-index c.state-item.result c.loop-state-test.true c.state-item.is,
    )
    (goes_more room a a a _ _ _ c.state-item.result (by_arrow (λ e d. Some (arrive (at_point c.args.point.now) d)))
    (c.loop-state.invariant room a are)
    (marks_one room a c.state-item.result (at_point c.args.point.now) (state_kind_at c.args.point.now c.state-item.result.kind) is
    (is_kind_behind a c.args.point.now c.state-item.result.kind is.kind) (kind_behind c.args.point.now c.state-item.result.kind)))

pub returns : goal.returns
returns c =
    λ room a are. rw (take_all c.loop-state.state-index c.args.states.now c.loop-state-test.false) at (c.loop-state.invariant room a are)
