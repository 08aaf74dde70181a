use Rattle.std.proofs.Common.{sym, ◌∙◌}
use Rattle.proof_check.specs.Marked.{marked}
use Rattle.proof_check.proofs.ReadingLemmas.{read-two, read-first, read-again, read-false, read-open, read-within}
use Rattle.proof_check.proofs.marks.Marks.read.Goals as goal
use Rattle.proof_check.proofs.marks.Marks.read.Goals.{then-not-holds+in-None, then-not-holds+in-Some+else-ne, else-not-holds}

pub holds-requires : goal.holds-requires
holds-requires c = rw c.negated.ensures (read-within c.args.self.now.variables.items c.args.clause.now c.loop-literal.literal-index c.literal-item.result c.requires c.loop-literal-test.true c.literal-item.is)

pub returns-then-ne : goal.returns-then-ne
returns-then-ne c = read-two (marked c.args.self.now) c.args.clause.now c.loop-literal.literal-index c.literal-item.result c.in-Some.first c.negated.result c.holds.result c.ne.result c.loop-literal-test.true c.literal-item.is (rw c.in-Some.is at c.loop-literal.invariant.found) c.if-not-holds.true c.holds.ensures c.negated.ensures c.ne.ensures c.if-ne.true

pub loop-literal-preserved : goal.loop-literal-preserved
loop-literal-preserved c = elim c.if-not-holds.branch [
  | then-not-holds+in-None w ↦ rw w.candidate-is (record {
    found = read-first (marked c.args.self.now) c.args.clause.now c.loop-literal.literal-index c.literal-item.result c.negated.result c.holds.result c.loop-literal-test.true c.literal-item.is (rw w.in-None.is at c.loop-literal.invariant.found) w.if-not-holds.true c.holds.ensures c.negated.ensures;
    room = read-within c.args.self.now.variables.items c.args.clause.now c.loop-literal.literal-index c.literal-item.result c.requires c.loop-literal-test.true c.literal-item.is;
  })
  | then-not-holds+in-Some+else-ne w ↦ rw w.candidate-is (record {
    found = let s = rw w.in-Some.is at c.loop-literal.invariant.found in read-again (marked c.args.self.now) c.args.clause.now c.loop-literal.literal-index c.literal-item.result w.in-Some.first c.negated.result c.holds.result w.ne.result c.loop-literal-test.true c.literal-item.is s w.if-not-holds.true c.holds.ensures c.negated.ensures w.ne.ensures w.if-ne.false;
    room = rw w.in-Some.is at c.loop-literal.invariant.room;
  })
  | else-not-holds w ↦ rw w.candidate-is (record {
    found = read-false (marked c.args.self.now) c.args.clause.now c.loop-literal.literal-index c.literal-item.result c.negated.result c.loop-literal.candidate c.holds.result c.loop-literal-test.true c.literal-item.is c.loop-literal.invariant.found w.if-not-holds.false c.holds.ensures c.negated.ensures;
    room = c.loop-literal.invariant.room;
  })
]

pub returns-else-holds : goal.returns-else-holds
returns-else-holds c = read-open (marked c.args.self.now) c.args.clause.now c.loop-literal.literal-index c.loop-literal.candidate c.in-Some-candidate.first c.loop-literal-test.false c.in-Some-candidate.is c.loop-literal.invariant.found (sym c.holds-in-Some-candidate.ensures ∙ c.if-holds.false)
