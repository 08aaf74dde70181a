use Rattle.c_memory.proofs.Cells.{on_ok}
use Rattle.c_machine.specs.States.{state}
use Rattle.code_steps.proofs.Laying.{laid_part}
use Rattle.code_steps.proofs.stores.lay_first.Goals as goal

pub returns-clause-lays : goal.returns-clause-lays
returns-clause-lays c =
    on_ok c.lay_bytes.result
    (λ laid. laid_part c.args.address c.args.size c.args.text.now _ (state c.args.m.now) _ c.requires
    c.split_at.ensures.front laid)
    c.lay_bytes.ensures.lays
