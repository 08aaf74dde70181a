use Rattle.std.proofs.Common.{Some}
use Rattle.c_scope.proofs.KindMap.{at_other_bytes}
use Rattle.c_scope.proofs.kinds.Kinds.put.Goals as goal

pub returns-in-Ok-clause-changes : goal.returns-in-Ok-clause-changes
returns-in-Ok-clause-changes c =
    rw (← c.in_ok-key.ensures.items)
    (at_other_bytes c.in_ok-key.key.items c.args.self.now.by_name c.insert.new.self (Some c.args.is_type) c.in-Ok.ensures.updates)
