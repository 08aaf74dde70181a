use Rattle.std.proofs.Common.{sym, ap, ◌∙◌, map}
use Rattle.std.specs.List.{flat_map}
use Rattle.proof_check.specs.Steps.{clause_of}
use Rattle.proof_check.proofs.StepLists.{clauses-steps_of}
use Rattle.proof_check.proofs.steps.Steps.literals.Goals as goal

pub returns : goal.returns
returns c = c.items.ensures ∙ ap (λ cs. flat_map (λ clause. clause) cs) (sym (clauses-steps_of c.self.inside.clauses c.self.inside.hints c.self.invariant) ∙ ap (λ steps. map clause_of steps) c.self.view_is)
