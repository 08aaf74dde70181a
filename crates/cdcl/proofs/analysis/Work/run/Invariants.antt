use Rattle.std.proofs.Common.{◌≡◌, ◌≤◌, ℕ, List, vec_len, length, reverse}
use Rattle.cdcl.specs.Sources.{named}
use Rattle.cdcl.specs.Trails.{AllReasoned}
use Rattle.cdcl.specs.Jumps.{IsStage}
use Rattle.cdcl.specs.Derives.{Derives, NamesWithin, WorkWithin}
use Rattle.cdcl.proofs.analysis.Work.run.Given as goal

abbrev pub invariant-entries : goal.invariant-entries
invariant-entries l = record {
  room : vec_len l.self.seen ≡ vec_len l.trail.levels;
  within : l.index ≤ length l.trail.entries.items;
  kept : l.from ≡ 0 → AllReasoned l.trail.entries.items → l.self.kept.items ≡ l.fn.self.kept.items;
  occurs : (vars : List ℕ) → NamesWithin vars (named l.from l.clauses) → WorkWithin vars l.fn.self.seen.items l.fn.self.kept.items → WorkWithin vars l.self.seen.items l.self.kept.items;
  stage : l.from ≡ 1 → 2 ≤ l.trail.level → IsStage l.trail.entries.items l.trail.level (length l.trail.entries.items) l.fn.self.seen.items l.fn.self.kept.items l.fn.self.level → IsStage l.trail.entries.items l.trail.level l.index l.self.seen.items l.self.kept.items l.self.level;
  derives : Derives (named l.from l.clauses) l.trail.entries.items l.index l.self.seen.items l.self.kept.items (reverse l.self.hints.items);
}

abbrev pub decreases-entries : goal.decreases-entries
decreases-entries l = l.index
