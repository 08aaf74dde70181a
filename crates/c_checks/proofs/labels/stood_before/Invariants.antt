use Rattle.std.proofs.Common.{◌≡◌, drop}
use Rattle.c_means.specs.Statements.{stood_before}
use Rattle.c_checks.proofs.labels.stood_before.Given as goal

abbrev pub invariant-loop-label : goal.invariant-loop-label
invariant-loop-label l = stood_before l.at l.name (drop l.label-index l.labels) ≡ stood_before l.at l.name l.labels
