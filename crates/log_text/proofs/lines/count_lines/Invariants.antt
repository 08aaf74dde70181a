use Rattle.std.proofs.Common.{◌≡◌, ◌+◌, ◌≤◌, ◌-◌, length, drop}
use Rattle.log_text.specs.Lines.{line_count}
use Rattle.log_text.proofs.lines.count_lines.Given as goal

abbrev pub invariant-lines : goal.invariant-lines
invariant-lines l = (l.count + line_count (drop l.at l.log) ≡ line_count l.log) × (l.at ≤ length l.log) × (l.count ≤ l.at)

abbrev pub decreases-lines : goal.decreases-lines
decreases-lines l = length l.log - l.at
