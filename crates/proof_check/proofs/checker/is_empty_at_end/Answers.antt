use Rattle.std.proofs.Common.{◌≡◌, ◌+◌, ◌-◌, arith, sym, ap, ◌∙◌, length}
use Rattle.proof_check.specs.Steps.{clause_of}
use Rattle.proof_check.specs.Refutations.{is_empty}
use Rattle.proof_check.proofs.FaultLemmas.{ends_empty-last, is_empty-length}
use Rattle.proof_check.proofs.checker.is_empty_at_end.Goals as goal

pub returns : goal.returns
returns c =
    let some : length c.args.steps.now ≡ c.len-len.result - 1 + 1 = omega arith in
    c.is_empty.ensures ∙ is_empty-length c.step-2.inside.clause.now ∙ ap (λ s. is_empty (clause_of s)) c.step-2.view_is ∙ sym (ends_empty-last c.args.steps.now (c.len-len.result - 1) c.step.result c.step.ensures some)
