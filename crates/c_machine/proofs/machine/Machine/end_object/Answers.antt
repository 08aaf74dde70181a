use Rattle.std.proofs.Common.{ap}
use Rattle.c_means.specs.Parts.{with_store}
use Rattle.c_memory.specs.Memories.{initial_bytes}
use Rattle.c_machine.specs.States.{state}
use Rattle.c_machine.proofs.machine.Machine.end_object.Goals as goal

pub returns-clause-ends : goal.returns-clause-ends
unfolding state
returns-clause-ends c =
    ap (λ s. with_store s (state c.args.self.now)) (c.end.ensures (initial_bytes c.args.self.now.world))
