use Rattle.std.proofs.Common.{◌≡◌, ◌<◌, ℕ, length, get_or}
use Rattle.format_ends.specs.Reached.{text_start}
use Rattle.format_ends.proofs.texts.starts_of.Given as goal

abbrev pub invariant-positions : goal.invariant-positions
invariant-positions l = record {
  long : length l.starts.items ≡ l.at;
  start : l.start ≡ text_start l.log l.at;
  are : (n : ℕ) → n < l.at → get_or l.starts.items n 0 ≡ text_start l.log n;
}
