use Rattle.std.proofs.Common.{sym, ap, ◌∙◌, ◌++◌, map, take}
use Rattle.std.specs.Option.{option_copied}
use Rattle.proof_check.specs.Marked.{marked}
use Rattle.proof_check.specs.Steps.{clause_of}
use Rattle.proof_check.proofs.StepLemmas.{clause-within, implied-within}
use Rattle.proof_check.proofs.RoomLemmas.{covers-earlier}
use Rattle.proof_check.proofs.checker.propagate.Goals as goal

pub read-requires : goal.read-requires
read-requires c =
    let room = c.args.marks.now.variables.items in
    let clauses = c.args.formula.now ++ map clause_of (take c.args.earlier c.args.steps.now) in
    rw c.loop-hint.invariant.room (clause-within room clauses _ c.in-Some.clause.now (covers-earlier room c.args.formula.now c.args.steps.now c.args.earlier c.requires.covered) (sym c.numbered.ensures ∙ ap (λ o. option_copied o) c.in-Some.is))

pub take-requires : goal.take-requires
take-requires c =
    let room = c.args.marks.now.variables.items in
    let clauses = c.args.formula.now ++ map clause_of (take c.args.earlier c.args.steps.now) in
    rw c.loop-hint.invariant.room (implied-within room (marked c.loop-hint.marks) c.in-Some.clause.now c.in-Implied.literal
    (clause-within room clauses _ c.in-Some.clause.now (covers-earlier room c.args.formula.now c.args.steps.now c.args.earlier c.requires.covered) (sym c.numbered.ensures ∙ ap (λ o. option_copied o) c.in-Some.is))
    (sym c.read.ensures ∙ c.in-Implied.is))
