use Rattle.plain_data.proofs.Tried.{of_ok}
use Rattle.c_typing.proofs.parts.array.Goals as goal

pub returns : goal.returns
returns c before s =
    of_ok c.args.inner c.in_ok-parts.parts.0 _ c.in_ok-parts.ensures.0
    (of_ok c.args.length c.in_ok-parts.parts.1 _ c.in_ok-parts.ensures.1 (c.in_ok-add_array.ensures before s))
