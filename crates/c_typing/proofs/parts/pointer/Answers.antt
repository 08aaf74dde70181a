use Rattle.plain_data.proofs.Tried.{of_try}
use Rattle.c_typing.proofs.parts.pointer.Goals as goal

pub returns : goal.returns
returns c s =
    of_try c.args.inner c.branch-formed.result c.in_ok-formed.formed _ c.branch-formed.ensures c.in_ok-formed.is
    (c.in_ok-add_pointer.ensures s)
