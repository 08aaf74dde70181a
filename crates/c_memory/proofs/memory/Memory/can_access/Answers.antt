use Rattle.c_memory.specs.Memories.{store_of}
use Rattle.c_memory.proofs.Cells.{access_some}
use Rattle.c_memory.proofs.memory.Memory.can_access.Goals as goal

pub returns-else-length-eq0 : goal.returns-else-length-eq0
returns-else-length-eq0 c = record {
  exact = λ world.
      access_some (store_of world c.args.self.now.cells) c.args.address c.args.length c.is_live.result
      c.if-length-eq0.false (c.is_live.ensures.exact world);
  room = c.is_live.ensures.room;
}
