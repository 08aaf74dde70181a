use Rattle.std.proofs.Common.{◌≡◌, sym, ◌∙◌}
use Rattle.proof_check.specs.Refutations.{checked}
use Rattle.proof_check.proofs.FaultLemmas.{checked-refutation, refutation-checked}
use Rattle.proof_check.proofs.Soundness.{checked-sound}
use Rattle.proof_check.proofs.checker.Checker.check.Goals as goal

pub returns-clause-accepts : goal.returns-clause-accepts
returns-clause-accepts c =
    let exact : c.verdict_of.result ≡ checked c.args.formula.now c.args.refutation.now = rw (c.first_fault_of-fault.ensures.fault, c.is_empty_at_end.ensures, c.steps-steps.ensures) at c.verdict_of.ensures in
    (λ e. checked-refutation c.args.formula.now c.args.refutation.now (sym exact ∙ e), λ r. exact ∙ refutation-checked c.args.formula.now c.args.refutation.now r)

pub returns-clause-sound : goal.returns-clause-sound
returns-clause-sound c =
    let exact : c.verdict_of.result ≡ checked c.args.formula.now c.args.refutation.now = rw (c.first_fault_of-fault.ensures.fault, c.is_empty_at_end.ensures, c.steps-steps.ensures) at c.verdict_of.ensures in
    checked-sound c.args.formula.now c.args.refutation.now c.verdict_of.result exact
