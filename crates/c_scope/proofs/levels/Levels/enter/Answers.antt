use Rattle.std.proofs.Common.{sym}
use Rattle.c_scope.proofs.Usual.{usual_entered}
use Rattle.c_scope.proofs.levels.Levels.enter.Goals as goal

pub invariant_of-self-2 : goal.invariant_of-self-2
invariant_of-self-2 c =
    usual_entered c.args.level c.is_over_file.result c.is_empty.result c.take-in_file.result c.entered-in_file.result c.self.inside.levels.items
    c.push.new.self.items c.self.inside.known c.note_all.new.self c.entered-in_file.ensures (sym c.is_over_file.ensures)
    (rw c.deref.ensures.value at c.is_empty.ensures).0 (rw c.names.ensures at c.in_ok-note_all.ensures) c.in_ok-push.ensures.items
    (rw c.take-in_file.ensures.value c.self.invariant)
