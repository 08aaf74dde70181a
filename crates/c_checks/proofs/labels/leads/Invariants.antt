use Rattle.std.proofs.Common.{◌≡◌, drop}
use Rattle.c_means.specs.Statements.{leads}
use Rattle.c_checks.proofs.labels.leads.Given as goal

abbrev pub invariant-loop-label : goal.invariant-loop-label
invariant-loop-label l = leads l.at l.name (drop l.label-index l.labels) ≡ leads l.at l.name l.labels
