use Rattle.std.proofs.Common.{sym, ap, subst}
use Rattle.proof_check.specs.Steps.{clause_of}
use Rattle.proof_check.specs.Room.{Within}
use Rattle.proof_check.proofs.RoomLemmas.{covers-step}
use Rattle.proof_check.proofs.checker.check_step.Goals as goal

pub take_negations-requires : goal.take_negations-requires
take_negations-requires c =
    let room = c.args.marks.now.variables.items in
    subst (Within room) (sym (ap clause_of c.step.view_is)) (covers-step room c.args.formula.now c.args.steps.now c.args.index c.step-step.result c.requires.covered c.step-step.ensures)

pub propagate-requires-clause-covered : goal.propagate-requires-clause-covered
propagate-requires-clause-covered c = rw c.take_negations.ensures.room c.requires.covered
