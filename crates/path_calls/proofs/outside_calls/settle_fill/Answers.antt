use Rattle.term_bank.proofs.TermLemmas.{term_grown}
use Rattle.path_states.proofs.Growth.{state_grown}
use Rattle.path_steps.proofs.Trials.{with_operand}
use Rattle.path_calls.proofs.OutsideTrials.{with_memory}
use Rattle.path_calls.proofs.outside_calls.settle_fill.Goals as goal

pub settle-requires-clause-state : goal.settle-requires-clause-state
settle-requires-clause-state c = state_grown c.in_ok-last.ensures.grows c.args.state.now c.requires.state

pub settle-requires-clause-next : goal.settle-requires-clause-next
settle-requires-clause-next c =
    rw (c.in_ok-push.ensures.ok, c.in_ok-next.ensures)
    (with_operand _ (record c.args.state.now { memory = c.args.fill.reply.memory }) c.args.state.now.operands c.in_ok-last.last
    (with_memory _ c.args.state.now c.args.fill.reply.memory (state_grown c.in_ok-last.ensures.grows c.args.state.now c.requires.state)
    (term_grown _ _ _ c.args.fill.reply.memory c.in_ok-last.ensures.grows c.requires.memory)) c.in_ok-last.ensures.number)

pub settle-requires-clause-first : goal.settle-requires-clause-first
settle-requires-clause-first c =
    record { term = term_grown _ _ _ c.args.fill.no_access c.in_ok-last.ensures.grows c.requires.access }

pub settle-requires-clause-second : goal.settle-requires-clause-second
settle-requires-clause-second c =
    record { term = term_grown _ _ _ c.args.fill.no_write c.in_ok-last.ensures.grows c.requires.write }

pub returns : goal.returns
returns c = record {
  middle = c.converted.new.bank;
  last = c.in_ok-last.last;
  numbered = c.in_ok-last.ensures;
  settles = rw (c.in_ok-push.ensures.ok, c.in_ok-next.ensures) at c.in_ok-walked.ensures;
}
