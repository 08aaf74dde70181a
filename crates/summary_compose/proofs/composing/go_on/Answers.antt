use Rattle.term_bank.proofs.BankLemmas.{grows_on}
use Rattle.term_bank.proofs.TermLemmas.{term_grown}
use Rattle.summary_compose.proofs.Resumed.{continued}
use Rattle.summary_compose.proofs.composing.go_on.Goals as goal

pub call_event-requires : goal.call_event-requires
call_event-requires c = term_grown _ _ _ c.args.caller.now.events c.in_ok-guard.ensures.grows c.requires.caller.events

pub events_behind-requires-clause-second : goal.events_behind-requires-clause-second
events_behind-requires-clause-second c =
    term_grown _ _ _ c.args.end.now.events (grows_on c.in_ok-guard.ensures.grows c.in_ok-called.ensures.grows) c.requires.end.events

pub returns : goal.returns
returns c =
    rw c.in_ok-next.ensures
    (continued _ _ _ _ c.args.site c.args.caller.now c.args.end.now c.in_ok-guard.guard c.in_ok-called.called c.in_ok-events.events
    c.requires.caller c.requires.end c.in_ok-guard.ensures c.in_ok-called.ensures c.in_ok-events.ensures)
