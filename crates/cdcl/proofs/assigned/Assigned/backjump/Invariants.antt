use Rattle.std.proofs.Common.{◌≡◌, vec_len, length}
use Rattle.cdcl.specs.declared.clauses.Clauses.{Clauses}
use Rattle.cdcl.specs.Trails.{IsTrailOf}
use Rattle.cdcl.proofs.Placements.{IsCutting}
use Rattle.cdcl.proofs.assigned.Assigned.backjump.Given as goal

abbrev pub invariant-entries : goal.invariant-entries
invariant-entries l = record {
  trail : (clauses : Clauses) → IsTrailOf clauses l.fn.self → IsTrailOf clauses l.self;
  cut : IsCutting l.fn.level l.fn.self.entries.items l.self.entries.items;
  room : vec_len l.self.levels ≡ vec_len l.fn.self.levels;
}

abbrev pub decreases-entries : goal.decreases-entries
decreases-entries l = length l.self.entries.items
