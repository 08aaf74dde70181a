use Rattle.term_bank.proofs.TermLemmas.{term_grown}
use Rattle.path_states.proofs.Growth.{numbers_grown}
use Rattle.path_prints.proofs.PrintLemmas.{ends_print}
use Rattle.path_prints.proofs.printing.end_print.Goals as goal

pub note_print-requires-clause-events : goal.note_print-requires-clause-events
note_print-requires-clause-events c = term_grown _ _ _ _ c.in_ok-last.ensures.grows c.requires.state.events

pub note_print-requires-clause-seen : goal.note_print-requires-clause-seen
note_print-requires-clause-seen c = numbers_grown c.in_ok-last.ensures.grows c.args.seen.now c.requires.seen

pub returns : goal.returns
returns c =
    λ room.
    rw (c.in_ok-states.ensures, c.in_ok-push.ensures.ok, c.in_ok-next.ensures)
    (ends_print room c.args.bank.now c.length_answer.new.bank c.note_print.new.bank c.args.state.now c.in_ok-events.events c.in_ok-last.last
    c.args.site.at c.args.site.answer c.args.from c.saturating_sub-length.result c.args.seen.now c.requires.state c.in_ok-last.ensures
    c.in_ok-events.ensures c.saturating_sub-length.ensures)
