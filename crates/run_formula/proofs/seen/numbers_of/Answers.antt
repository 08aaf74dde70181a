use Rattle.run_formula.proofs.SeenLaws.{chain-falls, chain-more, chain-seen}
use Rattle.run_formula.proofs.seen.numbers_of.Goals as goal

pub numbers-smaller : goal.numbers-smaller
numbers-smaller c = chain-falls c.args.bank.now c.numbers.at c.in-Some.last c.keeps_bank.ensures c.in-Some.ensures

pub numbers-preserved : goal.numbers-preserved
numbers-preserved c =
    let i = c.numbers.invariant in
    rw c.in_ok-push.ensures.ok
    (record {
      all = chain-seen c.args.bank.now c.numbers.at c.in-Some.last c.numbers.all c.keeps_bank.ensures c.in-Some.ensures i.all;
      are = chain-more c.args.bank.now c.args.numbers c.numbers.at c.in-Some.last c.numbers.all c.in-Some.ensures i.are;
    })
