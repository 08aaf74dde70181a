use Rattle.std.proofs.Common.{◌∙◌, take}
use Rattle.cdcl.specs.Tallies.{occurs}
use Rattle.cdcl.proofs.TallyLemmas.{counted-clause}
use Rattle.cdcl.proofs.tally.Tally.count_conflict.Goals as goal

pub loop-id-preserved : goal.loop-id-preserved
loop-id-preserved c = record {
  counted = counted-clause c.args.self.now.marks.items c.count_named.new.self c.args.clauses.now c.args.ids.now c.loop-id.id-index _ c.loop-id-test.true
      (c.count_named.ensures.counted (occurs c.args.clauses.now (take c.loop-id.id-index c.args.ids.now)) c.args.self.now.marks.items c.loop-id.invariant.counted);
  counts = c.count_named.ensures.counts;
  ranked = c.count_named.ensures.ranked;
  unset = c.count_named.ensures.unset ∙ c.loop-id.invariant.unset;
}
