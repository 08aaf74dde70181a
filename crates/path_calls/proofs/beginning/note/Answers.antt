use Rattle.std.proofs.Common.{refl}
use Rattle.path_states.proofs.Events.{call_happened}
use Rattle.path_calls.proofs.beginning.note.Goals as goal

pub returns : goal.returns
returns c = record { is = refl; happened = call_happened _ _ _ _ _ _ c.in_ok-events.ensures }
