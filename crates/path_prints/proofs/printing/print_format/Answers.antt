use Rattle.std.proofs.Common.{refl, ap, drop, ◌∙◌}
use Rattle.term_bank.proofs.BankLemmas.{grows_on}
use Rattle.term_bank.proofs.TermLemmas.{term_grown}
use Rattle.path_states.proofs.Growth.{state_grown, numbers_grown}
use Rattle.path_prints.proofs.ArgumentLemmas.{numbers_behind}
use Rattle.path_prints.proofs.LogLemmas.{prints_format}
use Rattle.path_prints.proofs.printing.print_format.Goals as goal

pub see_all-requires-clause-memory : goal.see_all-requires-clause-memory
see_all-requires-clause-memory c =
    term_grown _ _ _ c.begin.new.state.memory c.in_ok-speak.ensures.grows c.in_ok-arguments.ensures.state.memory

pub say_all-requires-clause-states : goal.say_all-requires-clause-states
say_all-requires-clause-states c =
    rw c.in_ok-first.ensures
    (state_grown (grows_on c.in_ok-speak.ensures.grows c.in_ok-see_all.ensures.grows) c.begin.new.state c.in_ok-arguments.ensures.state, tt)

pub say_all-requires-clause-arguments : goal.say_all-requires-clause-arguments
say_all-requires-clause-arguments c =
    rw (c.behind-own.ensures, c.as_slice-2.ensures)
    (numbers_behind c.see_all.new.bank c.args.before c.speak.new.out
    (numbers_grown c.in_ok-see_all.ensures.grows c.speak.new.out c.in_ok-speak.ensures.numbers))

pub end_prints-requires-clause-seen : goal.end_prints-requires-clause-seen
end_prints-requires-clause-seen c =
    rw c.as_slice-3.ensures (numbers_grown c.in_ok-said.ensures.grows c.see_all.new.out c.in_ok-see_all.ensures.numbers)

pub returns : goal.returns
returns c =
    let begins = rw c.in_ok-now.ensures at c.in_ok-arguments.ensures in
    let speaks = rw (c.as_slice.ensures, c.new-spoken.ensures) at c.in_ok-speak.ensures in
    let sees = rw c.new-seen.ensures at c.in_ok-see_all.ensures in
    let says = rw c.in_ok-first.ensures at c.in_ok-said.ensures in
    let prints = rw (c.as_slice-4.ensures, c.as_slice-3.ensures) at c.in_ok-going.ensures in
    λ x along.
    rw c.new-ended.ensures
    (prints_format x c.args.room c.args.bank.now c.begin.new.bank c.speak.new.bank c.see_all.new.bank c.say_all.new.bank c.end_prints.new.bank
    c.args.log.now c.args.frame.now c.args.pieces.now c.args.before c.args.types.now c.args.watched.now c.args.site c.args.state.now
    c.begin.new.state c.in_ok-arguments.arguments c.speak.new.out c.behind-own.result.now c.see_all.new.out c.begin.new.state.position
    c.in_ok-said.said c.in_ok-going.going along begins speaks sees refl (c.behind-own.ensures ∙ ap (drop c.args.before) c.as_slice-2.ensures) says
    prints)
