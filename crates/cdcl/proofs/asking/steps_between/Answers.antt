use Rattle.std.proofs.Common.{arith}
use Rattle.cdcl.proofs.Spending.{between-more}
use Rattle.cdcl.proofs.asking.steps_between.Goals as goal

pub loop-index-preserved : goal.loop-index-preserved
loop-index-preserved c = record {
  copied = between-more c.args.steps.now c.loop-index.copy c.push.new.self c.args.start c.loop-index.index c.step.result (omega (arith, c.loop-index.auto.index)) c.step.ensures c.loop-index.invariant.copied c.in_ok-push.ensures.ok;
  within = omega (arith, c.loop-index-test.true);
}
