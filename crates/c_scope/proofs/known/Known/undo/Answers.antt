use Rattle.c_scope.proofs.Knowing.{undone}
use Rattle.c_scope.proofs.known.Known.undo.Goals as goal

pub returns-in-Some : goal.returns-in-Some
returns-in-Some c outer knows =
    undone c.args.declared.now outer c.args.self.now (record { kinds = c.restore.new.self; hidden = c.pop.new.self }) c.in-Some.hidden
    knows c.in-Some.ensures.items (rw c.name.ensures at c.restore.ensures)
