use Rattle.path_forms.proofs.CallLemmas.{joined_by}
use Rattle.path_forms.proofs.called.joined.Goals as goal

pub join-requires : goal.join-requires
join-requires c = rw c.as_slice.ensures c.requires.going

pub returns : goal.returns
returns c =
    let joined = rw c.as_slice.ensures at c.in_ok-going.ensures in
    joined_by _ _ c.args.walked _ joined
