use Rattle.std.proofs.Common.{arith}
use Rattle.c_memory.proofs.Cells.{on_ok}
use Rattle.c_machine.specs.States.{state}
use Rattle.code_steps.proofs.Laying.{laid_whole}
use Rattle.code_steps.proofs.stores.lay_whole.Goals as goal

pub returns-clause-lays : goal.returns-clause-lays
returns-clause-lays c =
    on_ok c.zero.result
    (λ zeroed. laid_whole c.args.address c.args.size _ _ c.args.text.now (state c.args.m.now) _ _ c.requires
    (omega (arith, c.in_ok-behind.ensures)) (omega arith) c.in_ok-lay_bytes.ensures.lays zeroed)
    c.zero.ensures.zeroes
