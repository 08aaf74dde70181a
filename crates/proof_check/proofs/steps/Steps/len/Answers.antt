use Rattle.std.proofs.Common.{sym, ap, ◌∙◌, length}
use Rattle.proof_check.proofs.StepLists.{length-steps_of}
use Rattle.proof_check.proofs.steps.Steps.len.Goals as goal

pub returns : goal.returns
returns c = c.len.ensures ∙ sym (length-steps_of c.self.inside.clauses c.self.inside.hints c.self.invariant) ∙ ap (λ steps. length steps) c.self.view_is
