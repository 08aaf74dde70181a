use Rattle.std.proofs.Common.{arith}
use Rattle.std.proofs.lemmas.Option.{slice_get_within}
use Rattle.cdcl.proofs.Assuming.{room-more}
use Rattle.cdcl.proofs.beginning.room_from.Goals as goal

pub loop-index-preserved : goal.loop-index-preserved
loop-index-preserved c =
    let i = c.loop-index.invariant in
    let e = c.room_for-room.ensures in
    record {
      small = e.small;
      least = omega (arith, e.least, i.least);
      fits = room-more c.args.clauses.now c.args.start c.loop-index.index c.loop-index.room c.room_for-room.result c.clause.result.now c.clause.ensures e.least e.fits i.fits;
    }

pub returns-clause-fits : goal.returns-clause-fits
returns-clause-fits c = λ i k from at.
    let h = slice_get_within c.args.clauses.now i k at in
    c.loop-index.invariant.fits i k from (omega (arith, h, c.loop-index-test.false, c.len-index-end.ensures)) at
