use Rattle.std.proofs.Common.{refl, Some}
use Rattle.c_memory.specs.Memories.{store_of}
use Rattle.c_memory.proofs.Cells.{lent_object}
use Rattle.c_memory.proofs.memory.Memory.make.Goals as goal

pub returns-in-Some : goal.returns-in-Some
returns-in-Some c =
    let made = record c.in-Some.cell.now { object = Some c.args.object } in
    λ world.
    lent_object world (store_of world c.args.self.now.cells) c.hold.new.self.cells (c.get_mut.follows.lender made)
    c.in-Some.cell.now made c.args.number (Some c.args.object) (c.in_ok-hold.ensures.same world)
    (cc (c.in-Some.ensures.value)) refl (c.get_mut.follows.holds made)
