use Rattle.std.proofs.Common.{ap, pos}
use Rattle.c_memory.specs.Memories.{store_of, initial_bytes}
use Rattle.c_machine.specs.States.{state}
use Rattle.c_machine.proofs.Spelling.{read_held}
use Rattle.c_machine.proofs.machine.Machine.bytes_at.Goals as goal

pub returns : goal.returns
unfolding state
returns c =
    ap pos (read_held (store_of (initial_bytes c.args.self.now.world) c.args.self.now.memory.cells).bytes c.args.address
    c.args.count c.in_ok-bytes.field-0 c.in_ok-bytes.ensures)
