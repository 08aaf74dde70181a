use Rattle.std.proofs.Common.{◌≡◌, ◌<◌, ◌≤◌, ℕ, vec_len}
use Rattle.cdcl.specs.Ranks.{IsRight, HasSizes}
use Rattle.cdcl.proofs.ranking.Ranking.settle_all.Given as goal

abbrev pub invariant-nodes : goal.invariant-nodes
invariant-nodes l = record {
  sizes : HasSizes l.self;
  right : (i : ℕ) → 1 ≤ i → i < vec_len l.self.firsts → l.node ≤ i → IsRight l.self i;
  unset : l.self.unset ≡ l.fn.self.unset;
  within : l.node ≤ vec_len l.self.firsts;
}

abbrev pub decreases-nodes : goal.decreases-nodes
decreases-nodes l = l.node
