use Rattle.path_forms.proofs.SideLemmas.{turned}
use Rattle.path_forms.proofs.sides.turn.Goals as goal

pub join-requires : goal.join-requires
join-requires c = rw c.as_slice.ensures c.requires.yes.going

pub returns : goal.returns
returns c =
    let joined = rw c.as_slice.ensures at c.in_ok-going.ensures in
    turned _ _ c.args.sides _ c.requires.no joined
