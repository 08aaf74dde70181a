use Rattle.c_scope.proofs.Knowing.{noted}
use Rattle.c_scope.proofs.known.Known.note.Goals as goal

pub returns : goal.returns
returns c outer knows =
    noted c.args.declared.now outer c.args.self.now (record { kinds = c.put.new.self; hidden = c.push.new.self }) c.in_ok-hidden.hidden
    knows
    (rw c.name.ensures at c.in_ok-hidden.ensures.old)
    (rw (c.name.ensures, c.is_type.ensures) at c.in_ok-hidden.ensures.changes)
    c.in_ok-push.ensures.items
