use Rattle.c_memory.specs.Memories.{initial_bytes}
use Rattle.c_machine.specs.States.{state}
use Rattle.c_machine.proofs.machine.Machine.can_access.Goals as goal

pub returns : goal.returns
unfolding state
returns c = c.can_access.ensures.exact (initial_bytes c.args.self.now.world)
