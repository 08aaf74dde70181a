use Rattle.std.proofs.Common.{ℕ, ◌≤◌, length}
use Rattle.sl_io.specs.Counts.{RoseBy}
use Rattle.sl_io.proofs.files.read_within.Given as goal

-- what was read so far is within the limit, and was counted
pub record IsCounted (before now held limit : ℕ) : Type 0 where
  pub room : held ≤ limit
  pub later : before ≤ now
  pub counted : RoseBy held before now

abbrev pub invariant-chunks : goal.invariant-chunks
invariant-chunks g l = IsCounted l.fn.taken l.taken (length l.bytes) l.limit
