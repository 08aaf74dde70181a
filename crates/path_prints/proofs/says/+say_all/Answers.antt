use Rattle.std.proofs.Common.{rules, sym}
use Rattle.path_states.proofs.Growth.{numbers_grown}
use Rattle.path_prints.proofs.ArgumentLemmas.{numbers_behind}
use Rattle.path_prints.proofs.SayLemmas.{says_more}
use Rattle.path_prints.proofs.says.+say_all.Goals as goal

pub say_all-requires : goal.say_all-requires
say_all-requires t c =
    let h = c.in_ok-next.ensures 0 in (
      search rules,
      (
        h.states,
        rw c.split_at.ensures.back
            (numbers_behind c.say_each.new.bank c.wanted-count.result c.args.arguments.now
            (numbers_grown h.grows c.args.arguments.now c.requires.arguments)),
      ),
    )

pub returns : goal.returns
returns t c =
    rw c.in-Some.ensures.cases.0
    (says_more c.args.bank.now c.say_each.new.bank c.say_all.new.bank c.args.log.now c.in-Some.piece.now c.in-Some.rest.now c.args.arguments.now
    c.split_at.result.0.now c.split_at.result.1.now c.wanted-count.result c.args.states c.in_ok-next.next c.in_ok-behind.behind c.wanted-count.ensures
    (sym c.if-not-takes_integers.ensures) c.if-count-arguments.false c.split_at.ensures.front c.split_at.ensures.back
    (rw c.as_slice.ensures at c.in_ok-next.ensures) c.in_ok-behind.ensures)
