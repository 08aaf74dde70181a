use Rattle.std.proofs.Common.{arith, ◌∙◌, sym}
use Rattle.proof_check.proofs.FaultLemmas.{fault-step}
use Rattle.proof_check.proofs.checker.first_fault_of.Goals as goal

pub check_step-requires-clause-covered : goal.check_step-requires-clause-covered
check_step-requires-clause-covered c = rw c.loop-index.invariant.room c.requires

pub returns-in-BadHint-clause-fault : goal.returns-in-BadHint-clause-fault
returns-in-BadHint-clause-fault c =
    let step = fault-step c.args.formula.now c.args.steps.now c.loop-index.index c.check_step.result (omega arith) c.check_step.ensures.outcome in
    sym (rw c.in-BadHint.is at step) ∙ c.loop-index.invariant.rest

pub returns-in-NoConflict-clause-fault : goal.returns-in-NoConflict-clause-fault
returns-in-NoConflict-clause-fault c =
    let step = fault-step c.args.formula.now c.args.steps.now c.loop-index.index c.check_step.result (omega arith) c.check_step.ensures.outcome in
    sym (rw c.in-NoConflict.is at step) ∙ c.loop-index.invariant.rest

pub loop-index-preserved : goal.loop-index-preserved
loop-index-preserved c =
    let step = fault-step c.args.formula.now c.args.steps.now c.loop-index.index c.check_step.result (omega arith) c.check_step.ensures.outcome in
    record {
      room = c.check_step.ensures.room ∙ c.loop-index.invariant.room;
      rest = sym (rw c.in-Conflict.is at step) ∙ c.loop-index.invariant.rest;
    }
