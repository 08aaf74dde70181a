use Rattle.c_memory.specs.Memories.{initial_bytes}
use Rattle.c_machine.specs.States.{state}
use Rattle.c_machine.proofs.machine.Machine.can_change.Goals as goal

pub returns-else-rooted : goal.returns-else-rooted
unfolding state
returns-else-rooted c = rw c.if-rooted.false (c.can_write.ensures (initial_bytes c.args.self.now.world))
