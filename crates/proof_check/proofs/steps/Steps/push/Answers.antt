use Rattle.std.proofs.Common.{◌≡◌, ap, ◌∙◌, ◌++◌, ◌∷◌, []}
use Rattle.std.proofs.lemmas.Result.{on_ok_weaker}
use Rattle.proof_check.specs.Steps.{steps_of}
use Rattle.proof_check.proofs.StepLists.{steps_of-push}
use Rattle.proof_check.proofs.steps.Steps.push.Goals as goal

pub returns-else-is_err-clause-ok : goal.returns-else-is_err-clause-ok
returns-else-is_err-clause-ok c =
    let clauses = c.self.inside.clauses in
    let hints = c.self.inside.hints in
    let grown : c.push.new.self ≡ clauses ++ c.step.inside.clause.now ∷ [] = c.in_ok-push.ensures.ok in
    on_ok_weaker c.push-pushed.result
    (λ (more : c.push-pushed.new.self ≡ hints ++ c.step.inside.hints.now ∷ []). ap (λ cs. steps_of cs c.push-pushed.new.self) grown ∙ ap (λ hs. steps_of (clauses ++ c.step.inside.clause.now ∷ []) hs) more ∙ steps_of-push clauses hints c.step.inside.clause.now c.step.inside.hints.now c.self.invariant ∙ ap (λ steps. steps ++ record { clause = c.step.inside.clause.now; hints = c.step.inside.hints.now } ∷ []) c.self.view_is ∙ ap (λ step. c.args.self.now ++ step ∷ []) c.step.view_is)
    c.push-pushed.ensures.ok
