use Rattle.std.proofs.Common.{arith}
use Rattle.cdcl.proofs.Assuming.{fits-more, fits-whole}
use Rattle.cdcl.proofs.beginning.room_for.Goals as goal

pub loop-literal-preserved : goal.loop-literal-preserved
loop-literal-preserved c = record {
  small = omega (arith, c.max-room.ensures, c.variable.ensures.below);
  least = omega (arith, c.max-room.ensures);
  fits = fits-more c.loop-literal.room c.max-room.result c.args.literals.now c.loop-literal.literal-index c.literal-item.result c.loop-literal-test.true c.literal-item.is (omega (arith, c.max-room.ensures)) (omega (arith, c.variable.ensures.value, c.variable.ensures.from_one)) (omega (arith, c.max-room.ensures, c.variable.ensures.value)) c.loop-literal.invariant.fits;
}

pub returns-clause-fits : goal.returns-clause-fits
returns-clause-fits c = fits-whole c.loop-literal.room c.args.literals.now c.loop-literal.literal-index c.loop-literal-test.false c.loop-literal.invariant.fits
