use Rattle.cdcl.specs.Known.{known}
use Rattle.cdcl.proofs.Readings.{read-false, read-first, read-again, read-undecided}
use Rattle.proof_check.proofs.ReadingLemmas.{same-not_false}
use Rattle.cdcl.proofs.assigned.Assigned.read.Goals as goal
use Rattle.cdcl.proofs.assigned.Assigned.read.Goals.{then-not-holds+in-None, then-not-holds+in-Some+else-ne, else-not-holds}

pub loop-literal-preserved : goal.loop-literal-preserved
loop-literal-preserved c = elim c.if-not-holds.branch [
  | then-not-holds+in-None w ↦ rw w.candidate-is (read-first (known c.args.self.now.taken.items) c.args.clause.now c.loop-literal.literal-index c.literal-item.result c.negated.result c.holds.result c.holds-in-loop-literal.result c.loop-literal-test.true c.literal-item.is (rw w.in-None.is at c.loop-literal.invariant) c.if-holds.false c.holds.ensures w.if-not-holds.true c.holds-in-loop-literal.ensures c.negated.ensures)
  | then-not-holds+in-Some+else-ne w ↦ rw w.candidate-is (read-again (known c.args.self.now.taken.items) c.args.clause.now c.loop-literal.literal-index c.literal-item.result w.in-Some.first c.loop-literal-test.true c.literal-item.is (rw w.in-Some.is at c.loop-literal.invariant) (same-not_false w.in-Some.first c.literal-item.result w.ne.result w.ne.ensures w.if-ne.false))
  | else-not-holds w ↦ rw w.candidate-is (read-false (known c.args.self.now.taken.items) c.args.clause.now c.loop-literal.literal-index c.literal-item.result c.negated.result c.loop-literal.candidate c.holds-in-loop-literal.result c.loop-literal-test.true c.literal-item.is c.loop-literal.invariant w.if-not-holds.false c.holds-in-loop-literal.ensures c.negated.ensures)
]

pub returns-then-ne : goal.returns-then-ne
returns-then-ne c = read-undecided (known c.args.self.now.taken.items) c.args.clause.now c.loop-literal.literal-index c.loop-literal.candidate c.in-Some.first c.literal-item.result c.negated.result c.holds.result c.holds-in-loop-literal.result c.ne.result c.in-Some.is c.loop-literal.invariant c.loop-literal-test.true c.literal-item.is c.if-holds.false c.holds.ensures c.if-not-holds.true c.holds-in-loop-literal.ensures c.negated.ensures c.ne.ensures c.if-ne.true
