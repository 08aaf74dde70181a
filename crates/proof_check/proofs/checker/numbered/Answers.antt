use Rattle.std.proofs.Common.{◌-◌, arith, sym, ap, ◌∙◌, Some}
use Rattle.proof_check.specs.Steps.{clause_of}
use Rattle.proof_check.proofs.ClauseLemmas.{clause_at-step, clause_at-past}
use Rattle.proof_check.proofs.checker.numbered.Goals as goal

pub returns-then-index-earlier : goal.returns-then-index-earlier
returns-then-index-earlier c =
    ap (λ s. Some (clause_of s)) c.step-then-index-earlier.view_is ∙ sym (clause_at-step c.args.formula.now c.args.steps.now c.args.earlier c.args.number (c.args.number - 1 - c.len-2.result) c.step.result (omega arith) c.if-index-earlier.true c.step.ensures)

pub returns : goal.returns
returns c = sym (clause_at-past c.args.formula.now c.args.steps.now c.args.earlier c.args.number (omega arith))
