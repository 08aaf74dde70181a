use Rattle.std.proofs.Common.{sym, ◌≡◌, true}
use Rattle.c_means.specs.Objects.{is_read}
use Rattle.c_memory.specs.Memories.{initial_bytes}
use Rattle.c_machine.specs.States.{state}
use Rattle.c_machine.proofs.machine.Machine.can_load.Goals as goal

pub returns-then-is_read : goal.returns-then-is_read
unfolding state
returns-then-is_read c =
    let read : is_read c.args.class ≡ true = sym c.if-is_read.ensures in
    rw (c.if-rooted.false, read) (c.can_access.ensures.exact (initial_bytes c.args.self.now.world))
