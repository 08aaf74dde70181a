use Rattle.std.proofs.Common.{rules, refl}
use Rattle.path_prints.proofs.ArgumentLemmas.{numbers_put, numbers_rest, speaks_more}
use Rattle.path_prints.proofs.arguments.+speak.Goals as goal

pub speak-requires : goal.speak-requires
speak-requires t c =
    let g = c.in_ok-node.ensures.grows in (
      search rules,
      (
        numbers_rest c.args.bank.now c.in_width.new.bank c.args.arguments.now c.in-Some-split_first.others.now c.in-Some-split_first.number.now g
            c.in-Some-split_first.ensures.cases.0 c.requires.arguments,
        numbers_put c.args.bank.now c.in_width.new.bank c.args.out.now c.push.new.self _ g c.in_ok-push.ensures.ok c.requires.out
            (record { term = c.in_ok-node.ensures.term }),
      ),
    )

pub returns : goal.returns
returns t c =
    rw (c.in-Some.ensures.cases.0, c.in-Some-split_first.ensures.cases.0)
    (speaks_more c.args.bank.now c.in_width.new.bank c.speak.new.bank c.in-Some.word.now c.in-Some.more.now c.in-Some-split_first.number.now
    (record { node = c.in_ok-node.node; word = c.in-Some.word.now }) c.in-Some-split_first.others.now c.args.out.now c.speak.new.out c.requires.out
    c.in_ok-node.ensures refl (rw c.in_ok-push.ensures.ok at c.in_ok-speak.ensures))
