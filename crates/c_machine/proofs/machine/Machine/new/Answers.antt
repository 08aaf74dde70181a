use Rattle.std.proofs.Common.{refl}
use Rattle.c_memory.specs.Memories.{initial_bytes}
use Rattle.c_machine.specs.States.{state}
use Rattle.c_machine.proofs.machine.Machine.new.Goals as goal

pub returns-clause-state : goal.returns-clause-state
unfolding state
returns-clause-state c =
    rw (c.new-2.ensures, c.new-3.ensures, c.new-4.ensures, c.new.ensures (initial_bytes c.args.world)) refl
