use Rattle.std.proofs.Common.{◌≡◌, ◌++◌, ◌≤◌, ◌-◌, length, drop}
use Rattle.log_text.specs.Lines.{lines_of, starts_from, line_starts}
use Rattle.log_text.proofs.lines.line_starts.Given as goal

abbrev pub invariant-lines : goal.invariant-lines
invariant-lines l = (l.starts ++ starts_from l.at (lines_of (drop l.at l.log)) ≡ line_starts l.log) × (l.at ≤ length l.log)

abbrev pub decreases-lines : goal.decreases-lines
decreases-lines l = length l.log - l.at
