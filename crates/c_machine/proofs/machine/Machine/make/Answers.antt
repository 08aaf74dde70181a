use Rattle.std.proofs.Common.{ap}
use Rattle.c_means.specs.Parts.{with_store}
use Rattle.c_memory.specs.Memories.{initial_bytes}
use Rattle.c_memory.proofs.Cells.{on_ok}
use Rattle.c_machine.specs.States.{state}
use Rattle.c_machine.proofs.machine.Machine.make.Goals as goal

pub returns-clause-makes : goal.returns-clause-makes
unfolding state
returns-clause-makes c =
    on_ok c.make.result (λ made. ap (λ s. with_store s (state c.args.self.now)) made)
    (c.make.ensures (initial_bytes c.args.self.now.world))
