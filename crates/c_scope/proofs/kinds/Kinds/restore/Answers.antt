use Rattle.std.proofs.Common.{None}
use Rattle.c_scope.proofs.KindMap.{at_other_bytes}
use Rattle.c_scope.proofs.kinds.Kinds.restore.Goals as goal

pub returns-in-None : goal.returns-in-None
returns-in-None c known =
    rw c.in-None.is (at_other_bytes c.args.name.now c.args.self.now.by_name c.remove.new.self None c.remove.ensures.updates)
