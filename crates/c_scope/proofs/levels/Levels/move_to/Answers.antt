use Rattle.std.proofs.Common.{arith}
use Rattle.c_scope.proofs.Usual.{usual_moved}
use Rattle.c_scope.proofs.levels.Levels.move_to.Goals as goal

pub invariant_of-self-then-is_over_file : goal.invariant_of-self-then-is_over_file
invariant_of-self-then-is_over_file c =
    rw c.take-in_file.ensures.value
    (usual_moved c.self.inside.in_file c.self.inside.levels.items c.index_mut-level.result.now c.move_to.new.self c.self.inside.known c.undo_all.new.self
    (omega arith) c.index_mut-level.ensures.value c.in_ok-move_to.ensures.left (rw c.names.ensures at c.undo_all.ensures) c.self.invariant)
