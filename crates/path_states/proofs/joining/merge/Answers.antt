use Rattle.term_bank.specs.declared.sort.Sort.TheVariants.{Truth, Memory, Events}
use Rattle.term_bank.proofs.BankLemmas.{grows_on}
use Rattle.term_bank.proofs.TermLemmas.{term_grown}
use Rattle.path_states.proofs.Growth.{numbers_grown, maybe_grown}
use Rattle.path_states.proofs.Chosen.{merged}
use Rattle.path_states.proofs.joining.merge.Goals as goal

pub chosen_maybe-requires-clause-condition : goal.chosen_maybe-requires-clause-condition
chosen_maybe-requires-clause-condition c = term_grown _ _ Truth _ c.in_ok-guard.ensures.grows c.requires.first.guard

pub chosen_maybe-requires-clause-first : goal.chosen_maybe-requires-clause-first
chosen_maybe-requires-clause-first c = maybe_grown c.in_ok-guard.ensures.grows _ c.requires.first.value

pub chosen_maybe-requires-clause-second : goal.chosen_maybe-requires-clause-second
chosen_maybe-requires-clause-second c = maybe_grown c.in_ok-guard.ensures.grows _ c.requires.second.value

pub choose-requires-clause-condition : goal.choose-requires-clause-condition
choose-requires-clause-condition c =
    term_grown _ _ Truth _ (grows_on c.in_ok-guard.ensures.grows c.in_ok-value.ensures.grows) c.requires.first.guard

pub choose-requires-clause-yes : goal.choose-requires-clause-yes
choose-requires-clause-yes c =
    term_grown _ _ Memory _ (grows_on c.in_ok-guard.ensures.grows c.in_ok-value.ensures.grows) c.requires.first.memory

pub choose-requires-clause-no : goal.choose-requires-clause-no
choose-requires-clause-no c =
    term_grown _ _ Memory _ (grows_on c.in_ok-guard.ensures.grows c.in_ok-value.ensures.grows) c.requires.second.memory

pub chosen_all-requires-clause-condition : goal.chosen_all-requires-clause-condition
chosen_all-requires-clause-condition c =
    term_grown _ _ Truth _ (grows_on (grows_on c.in_ok-guard.ensures.grows c.in_ok-value.ensures.grows) c.in_ok-memory.ensures.grows)
    c.requires.first.guard

pub chosen_all-requires-clause-first : goal.chosen_all-requires-clause-first
chosen_all-requires-clause-first c =
    rw c.as_slice.ensures
    (numbers_grown (grows_on (grows_on c.in_ok-guard.ensures.grows c.in_ok-value.ensures.grows) c.in_ok-memory.ensures.grows)
    c.args.first.now.operands c.requires.first.operands)

pub chosen_all-requires-clause-second : goal.chosen_all-requires-clause-second
chosen_all-requires-clause-second c =
    rw c.as_slice-2.ensures
    (numbers_grown (grows_on (grows_on c.in_ok-guard.ensures.grows c.in_ok-value.ensures.grows) c.in_ok-memory.ensures.grows)
    c.args.second.now.operands c.requires.second.operands)

pub chosen_all-requires-clause-alike : goal.chosen_all-requires-clause-alike
chosen_all-requires-clause-alike c = rw (c.as_slice.ensures, c.as_slice-2.ensures) c.requires.alike.operands

pub choose-requires-2-clause-condition : goal.choose-requires-2-clause-condition
choose-requires-2-clause-condition c =
    term_grown _ _ Truth _
    (grows_on (grows_on (grows_on c.in_ok-guard.ensures.grows c.in_ok-value.ensures.grows) c.in_ok-memory.ensures.grows) c.in_ok-operands.ensures.grows)
    c.requires.first.guard

pub choose-requires-2-clause-yes : goal.choose-requires-2-clause-yes
choose-requires-2-clause-yes c =
    term_grown _ _ Events _
    (grows_on (grows_on (grows_on c.in_ok-guard.ensures.grows c.in_ok-value.ensures.grows) c.in_ok-memory.ensures.grows) c.in_ok-operands.ensures.grows)
    c.requires.first.events

pub choose-requires-2-clause-no : goal.choose-requires-2-clause-no
choose-requires-2-clause-no c =
    term_grown _ _ Events _
    (grows_on (grows_on (grows_on c.in_ok-guard.ensures.grows c.in_ok-value.ensures.grows) c.in_ok-memory.ensures.grows) c.in_ok-operands.ensures.grows)
    c.requires.second.events

pub returns : goal.returns
returns c =
    let operands = rw (c.as_slice.ensures, c.as_slice-2.ensures) at c.in_ok-operands.ensures in
    rw c.in_ok-kind.ensures
    (merged c.args.bank.now c.connect.new.self c.chosen_maybe.new.bank c.choose.new.self c.chosen_all.new.bank c.choose-2.new.self
    c.args.first.now c.args.second.now c.in_ok-guard.guard c.in_ok-value.value c.in_ok-memory.memory c.in_ok-operands.operands
    c.in_ok-events.events c.requires.alike c.requires.first.kind c.in_ok-guard.ensures.grows c.in_ok-guard.ensures.node c.in_ok-guard.ensures.value
    c.in_ok-value.ensures c.in_ok-memory.ensures.grows c.in_ok-memory.ensures.node c.in_ok-memory.ensures.value operands
    c.in_ok-events.ensures.grows c.in_ok-events.ensures.node c.in_ok-events.ensures.value)
