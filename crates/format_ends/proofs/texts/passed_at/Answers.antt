use Rattle.std.proofs.Common.{arith}
use Rattle.format_ends.proofs.Order.{passed_some}
use Rattle.format_ends.proofs.texts.passed_at.Goals as goal

pub returns-then-before-passed : goal.returns-then-before-passed
returns-then-before-passed c =
    passed_some c.args.before.now c.passed.passed c.args.stop c.requires.ordered c.passed-test.true c.passed.invariant.below (omega arith)
