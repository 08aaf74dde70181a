use Rattle.std.proofs.Common.{vec_len, arith}
use Rattle.cdcl.proofs.Marking.{fits-read, mark-more}
use Rattle.cdcl.proofs.analysis.mark.Goals as goal

pub index_mut-requires : goal.index_mut-requires
index_mut-requires c = fits-read (vec_len c.args.seen.now) (vec_len c.loop-literal.seen) c.args.clause.now c.loop-literal.literal-index c.variable.result c.literal-item.result c.requires c.loop-literal.invariant.room c.loop-literal-test.true c.literal-item.is c.variable.ensures.value

pub loop-literal-preserved : goal.loop-literal-preserved
loop-literal-preserved c = record {
  room = c.loop-literal.invariant.room;
  marks = mark-more c.loop-literal.seen.items c.args.seen.now.items c.args.clause.now c.loop-literal.literal-index c.variable.result c.literal-item.result c.loop-literal-test.true c.literal-item.is c.variable.ensures.value
      (omega (arith, c.loop-literal.seen.ok.0, fits-read (vec_len c.args.seen.now) (vec_len c.loop-literal.seen) c.args.clause.now c.loop-literal.literal-index c.variable.result c.literal-item.result c.requires c.loop-literal.invariant.room c.loop-literal-test.true c.literal-item.is c.variable.ensures.value))
      c.loop-literal.invariant.marks;
}
