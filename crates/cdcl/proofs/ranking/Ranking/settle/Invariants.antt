use Rattle.std.proofs.Common.{◌≡◌, ◌<◌, vec_len}
use Rattle.cdcl.specs.Ranks.{IsRankedBut}
use Rattle.cdcl.proofs.ranking.Ranking.settle.Given as goal

abbrev pub invariant-nodes : goal.invariant-nodes
invariant-nodes l = record {
  but : IsRankedBut l.node l.self;
  within : l.node < vec_len l.self.firsts;
  unset : l.self.unset ≡ l.fn.self.unset;
  activities : l.self.activities ≡ l.fn.self.activities;
}

abbrev pub decreases-nodes : goal.decreases-nodes
decreases-nodes l = l.node
