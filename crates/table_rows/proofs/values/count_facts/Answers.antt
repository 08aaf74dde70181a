use Rattle.std.proofs.Common.{arith}
use Rattle.table_rows.proofs.Asking.{asked-goes}
use Rattle.table_rows.proofs.values.count_facts.Goals as goal

pub facts-init : goal.facts-init
facts-init c = c.requires

pub count_fact-requires-clause-whole : goal.count_fact-requires-clause-whole
count_fact-requires-clause-whole c = c.facts.invariant.whole

pub count_fact-requires-clause-target : goal.count_fact-requires-clause-target
count_fact-requires-clause-target c =
    let n = c.in_ok-number.number in
    (c.facts.invariant.facts n (omega (arith, c.in_ok-number.ensures)) (omega (arith, c.in_ok-number.ensures, c.facts-test.true))).0

pub count_fact-requires-in-facts-clause-whole : goal.count_fact-requires-in-facts-clause-whole
count_fact-requires-in-facts-clause-whole c =
    (asked-goes c.args.facts.now c.args.watches.now c.facts.query c.count_fact.new.query c.count_fact.ensures c.facts.invariant).whole

pub count_fact-requires-in-facts-clause-target : goal.count_fact-requires-in-facts-clause-target
count_fact-requires-in-facts-clause-target c =
    let n = c.in_ok-number.number in
    ((asked-goes c.args.facts.now c.args.watches.now c.facts.query c.count_fact.new.query c.count_fact.ensures c.facts.invariant).facts n
    (omega (arith, c.in_ok-number.ensures)) (omega (arith, c.in_ok-number.ensures, c.facts-test.true))).1

pub facts-preserved : goal.facts-preserved
facts-preserved c =
    asked-goes c.args.facts.now c.args.watches.now c.count_fact.new.query c.count_fact-in-facts.new.query c.count_fact-in-facts.ensures
    (asked-goes c.args.facts.now c.args.watches.now c.facts.query c.count_fact.new.query c.count_fact.ensures c.facts.invariant)

pub returns-in_err-count_fact : goal.returns-in_err-count_fact
returns-in_err-count_fact c =
    asked-goes c.args.facts.now c.args.watches.now c.facts.query c.count_fact.new.query c.count_fact.ensures c.facts.invariant

pub returns-in_err-count_fact-2 : goal.returns-in_err-count_fact-2
returns-in_err-count_fact-2 c =
    asked-goes c.args.facts.now c.args.watches.now c.count_fact.new.query c.count_fact-in-facts.new.query c.count_fact-in-facts.ensures
    (asked-goes c.args.facts.now c.args.watches.now c.facts.query c.count_fact.new.query c.count_fact.ensures c.facts.invariant)
