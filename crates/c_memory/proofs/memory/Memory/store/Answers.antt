use Rattle.c_store.specs.Store.{byte_of}
use Rattle.c_store.specs.Store.{object_of}
use Rattle.c_memory.specs.Memories.{initial_bytes, store_of}
use Rattle.c_memory.proofs.Cells.{lent_lays_in, there_is, on_ok}
use Rattle.c_memory.proofs.memory.Memory.store.Goals as goal

pub returns-in-Some : goal.returns-in-Some
returns-in-Some c =
    let world = initial_bytes c.args.world.now in
    on_ok c.write.result
    (λ lays.
    lent_lays_in world (store_of world c.args.self.now.cells) c.hold.new.self.cells
    (c.get_mut.follows.lender c.write.new.self) c.in-Some.cell.now c.write.new.self
    c.args.address c.args.width (byte_of c.args.value) (c.in_ok-hold.ensures.same world) (cc (c.in-Some.ensures.value))
    (c.get_mut.follows.holds c.write.new.self) c.requires.room lays)
    c.write.ensures

pub returns-in-None : goal.returns-in-None
returns-in-None c =
    there_is c.hold.new.self.cells (object_of c.args.address) (cc (c.in-None.ensures.value)) c.in_ok-hold.ensures.there
