use Rattle.std.proofs.Common.{refl, ap}
use Rattle.core_tree.specs.Callees.{callee_room}
use Rattle.path_rooms.proofs.CodeCounts.{counted_as}
use Rattle.path_rooms.proofs.counts.callee_room.Goals as goal

pub returns-in-Log : goal.returns-in-Log
returns-in-Log g c =
    counted_as c.both.result _ _ (ap (λ k. callee_room k (g.C.Calls.around c.args.scene.now).measures) c.in-Log.is)
    (c.both.ensures 4 _ refl (rw c.as_slice.ensures at c.pointers.ensures))
