use Rattle.std.proofs.Common.{Some}
use Rattle.c_scope.proofs.KindMap.{at_other_bytes}
use Rattle.c_scope.proofs.kinds.Kinds.set.Goals as goal

pub returns-in-Some : goal.returns-in-Some
returns-in-Some c known =
    at_other_bytes c.args.name.now c.args.self.now.by_name (c.get_mut.follows.lender c.args.is_type) (Some c.args.is_type)
    ((c.get_mut.follows.holds c.args.is_type).3 known)
