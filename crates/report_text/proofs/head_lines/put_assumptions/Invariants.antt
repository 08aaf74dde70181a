use Rattle.std.proofs.Common.{◌≡◌, ◌++◌, drop}
use Rattle.std.specs.List.{flat_map}
use Rattle.report_text.specs.HeadLines.{assume_line}
use Rattle.report_text.proofs.head_lines.put_assumptions.Given as goal

abbrev pub invariant-loop-assumption : goal.invariant-loop-assumption
invariant-loop-assumption l = l.text ++ flat_map assume_line (drop l.assumption-index l.assumptions) ≡ l.fn.text ++ flat_map assume_line l.assumptions
