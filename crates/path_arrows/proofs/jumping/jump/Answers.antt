use Rattle.std.proofs.Common.{ℕ, Some, refl}
use Rattle.std.proofs.lemmas.List.{take_all}
use Rattle.c_means.specs.declared.kind.Kind.{Kind}
use Rattle.core_tree.specs.States.{become}
use Rattle.path_states.specs.declared.kinds.StateKind.TheVariants.{Known}
use Rattle.path_states.proofs.Paths.{item_of, more_of, goes_more}
use Rattle.path_arrows.specs.Arrows.{by_arrow}
use Rattle.path_arrows.proofs.Stepped.{marks_none, marks_one}
use Rattle.path_arrows.proofs.jumping.jump.Goals as goal

pub loop-state-init : goal.loop-state-init
loop-state-init c = λ room a are. rw c.new-all.ensures (marks_none room a (λ (k : Kind). c.args.kind.now))

pub loop-state-preserved : goal.loop-state-preserved
loop-state-preserved c =
    λ room a are. rw (
      c.in_ok-push.ensures.ok,
      c.in_ok-next.ensures,
      c.in_ok-kind.ensures,
      c.new.ensures,
      more_of c.args.states.now c.loop-state.state-index c.state-item.result c.loop-state-test.true c.state-item.is,
    )
    (goes_more room a a a _ _ _ c.state-item.result (by_arrow (λ e d. Some (become c.args.kind.now d))) (c.loop-state.invariant room a are)
    (marks_one room a c.state-item.result (λ (k : Kind). c.args.kind.now) (Known c.args.kind.now)
    (item_of a c.loop-state.state-index c.args.states.now c.state-item.result are c.loop-state-test.true c.state-item.is) tt (λ v. refl)))

pub returns : goal.returns
returns c =
    λ room a are. rw (take_all c.loop-state.state-index c.args.states.now c.loop-state-test.false) at (c.loop-state.invariant room a are)
