use Rattle.std.proofs.Common.{refl}
use Rattle.c_memory.proofs.memory.Memory.in_one_object.Goals as goal

pub returns-then-is_live-2 : goal.returns-then-is_live-2
returns-then-is_live-2 c = λ world. rw (← c.if-is_live.ensures.exact world, ← c.if-is_live-2.ensures.exact world) refl

pub returns-else-is_live-2 : goal.returns-else-is_live-2
returns-else-is_live-2 c =
    λ world.
    rw (← c.if-is_live.ensures.exact world, ← c.if-is_live-2.ensures.exact world) c.if-is_live-2.false

pub returns-else-is_live : goal.returns-else-is_live
returns-else-is_live c = λ world. rw (← c.if-is_live.ensures.exact world) c.if-is_live.false
