use Rattle.std.proofs.Common.{ℕ}
use Rattle.path_states.proofs.Growth.{states_joined}
use Rattle.path_arrows.proofs.sifting.rejoin.Goals as goal

pub join-requires : goal.join-requires
join-requires c =
    rw (c.as_slice.ensures, c.in_ok-append.ensures.ok) (states_joined _ c.args.first c.args.second c.requires.first c.requires.second)

pub returns : goal.returns
returns c = rw (c.as_slice.ensures, c.in_ok-append.ensures.ok) at c.in_ok-joined.ensures
