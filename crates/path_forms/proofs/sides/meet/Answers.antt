use Rattle.path_states.proofs.Growth.{states_joined}
use Rattle.path_forms.proofs.SideLemmas.{met}
use Rattle.path_forms.proofs.sides.meet.Goals as goal

pub join-requires : goal.join-requires
join-requires c =
    rw (c.as_slice.ensures, c.in_ok-append-3.ensures.ok) (states_joined _ c.args.sides.yes.going c.args.sides.no.going c.requires.yes.going c.requires.no.going)

pub returns : goal.returns
returns c =
    let joined = rw (c.as_slice.ensures, c.in_ok-append-3.ensures.ok) at c.in_ok-going.ensures in
    rw (c.in_ok-append-2.ensures.ok, c.in_ok-append.ensures.ok) (met _ _ c.args.sides _ joined)
