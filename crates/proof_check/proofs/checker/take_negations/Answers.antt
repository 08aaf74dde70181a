use Rattle.std.proofs.Common.{◌∙◌}
use Rattle.proof_check.proofs.ReadingLemmas.{read-within}
use Rattle.proof_check.proofs.StepLemmas.{negations-more}
use Rattle.proof_check.proofs.checker.take_negations.Goals as goal

pub take-requires : goal.take-requires
take-requires c = rw (c.negated.ensures, c.loop-literal.invariant.room) (read-within c.args.marks.now.variables.items c.args.clause.now c.loop-literal.literal-index c.literal-item.result c.requires c.loop-literal-test.true c.literal-item.is)

pub loop-literal-preserved : goal.loop-literal-preserved
loop-literal-preserved c = record {
  marks = c.take.ensures.marks ∙ rw (c.negated.ensures, c.loop-literal.invariant.marks) (negations-more c.args.clause.now c.loop-literal.literal-index c.literal-item.result c.loop-literal-test.true c.literal-item.is);
  room = c.take.ensures.room ∙ c.loop-literal.invariant.room;
}
