use Rattle.c_memory.specs.Memories.{initial_bytes}
use Rattle.c_machine.specs.States.{state}
use Rattle.c_machine.proofs.machine.Machine.can_free.Goals as goal

pub returns : goal.returns
unfolding state
returns c = c.can_free.ensures (initial_bytes c.args.self.now.world)
