use Rattle.std.proofs.Common.{◌≡◌, take}
use Rattle.cdcl.specs.Ranks.{IsRanked}
use Rattle.cdcl.specs.Tallies.{occurs, IsTally, HasCounted}
use Rattle.cdcl.proofs.tally.Tally.count_conflict.Given as goal

abbrev pub invariant-loop-id : goal.invariant-loop-id
invariant-loop-id l = record {
  counted : HasCounted (occurs l.clauses (take l.id-index l.ids)) l.fn.self.marks.items l.self;
  counts : IsTally l.self;
  ranked : IsRanked l.ranking;
  unset : l.ranking.unset.items ≡ l.fn.ranking.unset.items;
}
