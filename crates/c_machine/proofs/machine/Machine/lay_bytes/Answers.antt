use Rattle.std.proofs.Common.{ap}
use Rattle.c_means.specs.Parts.{with_store}
use Rattle.c_memory.proofs.Cells.{on_ok}
use Rattle.c_machine.specs.States.{state}
use Rattle.c_machine.proofs.machine.Machine.lay_bytes.Goals as goal

pub returns-clause-lays : goal.returns-clause-lays
unfolding state
returns-clause-lays c = on_ok c.lay.result (λ done. ap (λ s. with_store s (state c.args.self.now)) done) c.lay.ensures
