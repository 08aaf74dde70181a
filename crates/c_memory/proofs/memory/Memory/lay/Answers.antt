use Rattle.std.proofs.Common.{length, slice_index}
use Rattle.c_store.specs.Store.{object_of}
use Rattle.c_memory.specs.Memories.{initial_bytes, store_of}
use Rattle.c_memory.proofs.Cells.{lent_lays_in, there_is, on_ok}
use Rattle.c_memory.proofs.memory.Memory.lay.Goals as goal

pub returns-in-Some : goal.returns-in-Some
returns-in-Some c =
    let world = initial_bytes c.args.world.now in
    on_ok c.lay.result
    (λ lays.
    lent_lays_in world (store_of world c.args.self.now.cells) c.hold.new.self.cells
    (c.get_mut.follows.lender c.lay.new.self) c.in-Some.cell.now c.lay.new.self
    c.args.address (length c.args.bytes.now) (slice_index c.args.bytes.now) (c.in_ok-hold.ensures.same world) (cc (c.in-Some.ensures.value))
    (c.get_mut.follows.holds c.lay.new.self) c.requires.room lays)
    c.lay.ensures

pub returns-in-None : goal.returns-in-None
returns-in-None c =
    there_is c.hold.new.self.cells (object_of c.args.address) (cc (c.in-None.ensures.value)) c.in_ok-hold.ensures.there
