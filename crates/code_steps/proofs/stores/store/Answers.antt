use Rattle.std.proofs.Common.{sym, ◌∙◌}
use Rattle.c_machine.specs.Worth.{worth}
use Rattle.code_steps.proofs.Storing.{put_ok}
use Rattle.code_steps.proofs.stores.store.Goals as goal

pub returns-clause-stores : goal.returns-clause-stores
returns-clause-stores c =
    put_ok _ _ c.args.to c.args.address (worth c.args.value) c.put-outcome.result _ _ c.slot_of-slot.ensures
    (sym c.is_err.ensures.value ∙ c.if-is_err.false) c.put-outcome.ensures.runs
