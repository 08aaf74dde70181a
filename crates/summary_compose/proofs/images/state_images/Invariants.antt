use Rattle.std.proofs.Common.{◌≡◌, take, map}
use Rattle.term_bank.specs.Images.{image_at}
use Rattle.summary_compose.specs.Renaming.{other_state}
use Rattle.summary_compose.proofs.images.state_images.Given as goal

abbrev pub invariant-loop-state : goal.invariant-loop-state
invariant-loop-state l = l.all ≡ map (other_state (image_at l.initial.images)) (take l.state-index l.states)
