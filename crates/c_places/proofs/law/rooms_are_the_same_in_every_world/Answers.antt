use Rattle.c_places.proofs.Sources.{is_the_same_in_every_world}
use Rattle.c_places.proofs.law.rooms_are_the_same_in_every_world.Goals as goal

-- src/law.rt:20:1
pub returns : goal.returns
returns c = record { same = is_the_same_in_every_world }
