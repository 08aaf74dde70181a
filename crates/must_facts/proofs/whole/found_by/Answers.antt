use Rattle.std.proofs.Common.{ap, ◌∙◌, append-nil}
use Rattle.must_facts.proofs.whole.found_by.Goals as goal

pub claim_formula-requires-clause-whole : goal.claim_formula-requires-clause-whole
claim_formula-requires-clause-whole c = c.in_ok-diagnosis.ensures.goes.whole c.requires.query.is.whole

pub returns-clause-found : goal.returns-clause-found
returns-clause-found c = record {
  diagnosis = c.in_ok-diagnosis.ensures.diagnosis;
  run = c.in_ok-run.ensures.formula ∙ append-nil c.claim_formula.new.self.solver.clauses
      ∙ ap (λ r. r.solver.clauses) (c.in_ok-run.ensures.keeps ∙ c.in_ok-diagnosis.ensures.goes.same);
}
