use Rattle.std.proofs.Common.{◌≡◌, ◌||◌, ℕ, Bool, List, take}
use Rattle.cdcl.specs.Trails.{names}
use Rattle.cdcl.specs.Ranks.{IsRanked}
use Rattle.cdcl.specs.Tallies.{IsTally, HasCounted}
use Rattle.cdcl.proofs.tally.Tally.count_all.Given as goal

abbrev pub invariant-loop-literal : goal.invariant-loop-literal
invariant-loop-literal l = record {
  counted : (seen : ℕ → Bool) (old : List ℕ) → HasCounted seen old l.fn.self → HasCounted (λ v. seen v || names v (take l.literal-index l.clause)) old l.self;
  counts : IsTally l.self;
  ranked : IsRanked l.ranking;
  unset : l.ranking.unset.items ≡ l.fn.ranking.unset.items;
}
