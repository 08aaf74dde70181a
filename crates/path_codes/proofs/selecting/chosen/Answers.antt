use Rattle.std.proofs.Common.{refl}
use Rattle.path_states.proofs.Events.{branch_happened}
use Rattle.path_codes.proofs.selecting.chosen.Goals as goal

pub returns : goal.returns
returns c =
    rw (c.in_ok-next.ensures, c.new.ensures) (record { is = refl; happened = branch_happened _ _ _ _ _ _ _ c.in_ok-events.ensures })
