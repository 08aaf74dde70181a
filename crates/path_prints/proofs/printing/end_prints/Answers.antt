use Rattle.std.proofs.lemmas.List.{take_all}
use Rattle.path_states.proofs.Growth.{state_grown, numbers_grown}
use Rattle.path_states.proofs.Paths.{item_of, more_of}
use Rattle.path_prints.proofs.PrintLemmas.{prints_each_more}
use Rattle.path_prints.proofs.printing.end_prints.Goals as goal

pub end_print-requires-clause-state : goal.end_print-requires-clause-state
end_print-requires-clause-state c =
    state_grown (c.loop-state.invariant.goes 0).grows c.state-item.result
    (item_of _ c.loop-state.state-index c.args.states.now c.state-item.result c.requires.states c.loop-state-test.true c.state-item.is)

pub end_print-requires-clause-seen : goal.end_print-requires-clause-seen
end_print-requires-clause-seen c = numbers_grown (c.loop-state.invariant.goes 0).grows c.args.seen.now c.requires.seen

pub loop-state-preserved : goal.loop-state-preserved
loop-state-preserved c =
    rw (
      c.in_ok-append.ensures.ok,
      more_of c.args.states.now c.loop-state.state-index c.state-item.result c.loop-state-test.true c.state-item.is,
    )
    (prints_each_more _ _ _ _ _ _ _ _ _ _ c.state-item.result c.loop-state.invariant c.in_ok-more.ensures)

pub returns : goal.returns
returns c =
    let printed = rw (take_all c.loop-state.state-index c.args.states.now c.loop-state-test.false) at c.loop-state.invariant in
    λ room. printed.goes room
