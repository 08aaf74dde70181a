use Rattle.std.proofs.Common.{take}
use Rattle.std.proofs.lemmas.List.{take_all}
use Rattle.term_bank.proofs.TermLemmas.{term_grown}
use Rattle.path_states.proofs.Growth.{state_grown}
use Rattle.path_states.proofs.Paths.{item_of, more_of}
use Rattle.run_formula.proofs.Entered.{guards_none, guards_more}
use Rattle.run_formula.proofs.entering.under_guard.Goals as goal

pub loop-state-init : goal.loop-state-init
loop-state-init c = rw c.new-all.ensures (guards_none c.args.bank.now c.args.guard)

pub connect-requires-clause-left : goal.connect-requires-clause-left
connect-requires-clause-left c = term_grown _ _ _ c.args.guard c.loop-state.invariant.grows c.requires.guard

pub connect-requires-clause-right : goal.connect-requires-clause-right
connect-requires-clause-right c =
    let item = item_of _ c.loop-state.state-index c.args.states.now c.state-item.result c.requires.states c.loop-state-test.true c.state-item.is in
    let here = state_grown c.loop-state.invariant.grows c.state-item.result item in
    here.guard

pub loop-state-preserved : goal.loop-state-preserved
loop-state-preserved c =
    let i = c.loop-state.state-index in
    let item = item_of _ i c.args.states.now c.state-item.result c.requires.states c.loop-state-test.true c.state-item.is in
    let here = state_grown c.loop-state.invariant.grows c.state-item.result item in
    rw (c.in_ok-push.ensures.ok, more_of c.args.states.now i c.state-item.result c.loop-state-test.true c.state-item.is)
    (guards_more _ _ _ c.args.guard c.in_ok-both.both (take i c.args.states.now) c.loop-state.all c.state-item.result c.in_ok-next.next
    c.loop-state.invariant here c.in_ok-both.ensures c.in_ok-next.ensures)

pub returns : goal.returns
returns c = rw (take_all c.loop-state.state-index c.args.states.now c.loop-state-test.false) at c.loop-state.invariant
