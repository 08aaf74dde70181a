use Rattle.std.proofs.Common.{◌∙◌}
use Rattle.c_memory.specs.Memories.{initial_bytes}
use Rattle.c_memory.proofs.Cells.{read_cell, read_none}
use Rattle.c_memory.proofs.memory.Memory.load.Goals as goal

pub returns-in-Some : goal.returns-in-Some
returns-in-Some c =
    c.read.ensures
    ∙ read_cell (initial_bytes c.args.world.now) c.args.self.now.cells c.in-Some.cell.now c.args.address c.args.width
    (cc (c.in-Some.ensures.value)) c.requires.room

pub returns-in-None : goal.returns-in-None
returns-in-None c =
    c.read-in-None.ensures
    ∙ read_none (initial_bytes c.args.world.now) c.args.self.now.cells c.new.result c.args.address c.args.width
    (cc (c.in-None.ensures.value)) c.new.ensures.bytes c.requires.room
