use Rattle.std.proofs.Common.{◌≡◌, false, take}
use Rattle.std.specs.List.{list_any}
use Rattle.sherlog.specs.Answers.{is_unknown}
use Rattle.sherlog.proofs.reporting.any_unknown.Given as goal

abbrev pub invariant-loop-verdict : goal.invariant-loop-verdict
invariant-loop-verdict l = list_any is_unknown (take l.verdict-index l.verdicts) ≡ false
