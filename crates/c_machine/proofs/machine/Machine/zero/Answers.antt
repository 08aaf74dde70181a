use Rattle.std.proofs.Common.{ap}
use Rattle.c_means.specs.Parts.{with_store}
use Rattle.c_memory.proofs.Cells.{on_ok}
use Rattle.c_machine.specs.States.{state}
use Rattle.c_machine.proofs.machine.Machine.zero.Goals as goal

pub returns-clause-zeroes : goal.returns-clause-zeroes
unfolding state
returns-clause-zeroes c = on_ok c.zero.result (λ done. ap (λ s. with_store s (state c.args.self.now)) done) c.zero.ensures
