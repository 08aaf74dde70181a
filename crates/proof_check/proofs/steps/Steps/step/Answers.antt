use Rattle.std.proofs.Common.{arith, ap, sym, ◌∙◌, length}
use Rattle.std.specs.List.{slice_get}
use Rattle.proof_check.proofs.StepLists.{length-steps_of, step-at}
use Rattle.proof_check.proofs.steps.Steps.step.Goals as goal

pub row-requires : goal.row-requires
row-requires c =
    let same = ap (λ steps. length steps) c.self.view_is in
    omega (arith, same, length-steps_of c.self.inside.clauses c.self.inside.hints c.self.invariant)

pub row-requires-2 : goal.row-requires-2
row-requires-2 c =
    let same = ap (λ steps. length steps) c.self.view_is in
    omega (arith, same, length-steps_of c.self.inside.clauses c.self.inside.hints c.self.invariant)

pub returns : goal.returns
returns c = ap (λ steps. slice_get steps c.args.index) (sym c.self.view_is) ∙ step-at c.self.inside.clauses c.self.inside.hints c.args.index c.row.result.now c.row-2.result.now c.row.ensures c.row-2.ensures
