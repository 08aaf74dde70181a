use Rattle.c_scope.proofs.Usual.{usual_left}
use Rattle.c_scope.proofs.levels.Levels.leave.Goals as goal

pub invariant_of-self : goal.invariant_of-self
invariant_of-self c =
    usual_left c.in-Some.level c.is_empty.result c.self.inside.in_file c.left-self-inside.result c.self.inside.levels.items c.pop.new.self.items
    c.self.inside.known c.undo_all.new.self c.left-self-inside.ensures (rw c.deref.ensures.value at c.is_empty.ensures)
    (rw c.names.ensures at c.undo_all.ensures) c.in-Some.ensures.items c.self.invariant
