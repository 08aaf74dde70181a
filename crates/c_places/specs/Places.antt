-- How often a place stands among those that a run meets; that none stands twice; and that each is one of the room.
use Rattle.std.specs.Prelude.{◌≡◌, ℕ, ◌+◌, ◌≤◌, cond, nat_eq, List, [], ◌∷◌}
use Rattle.plain_data.specs.declared.bounds.Bounds.{Bounds}
use Rattle.plain_data.specs.Worlds.{WorldTables}
use Rattle.c_language.specs.declared.unit.External.{External}
use Rattle.c_means.specs.declared.profile.Profile.{Profile}
use Rattle.c_means.specs.Runs.{room_of, unrolled_size}
use Rattle.c_means.specs.Units.{machine_in, source_met, source_room, source_size}

abbrev pub once : ℕ → ℕ → ℕ
once place met = cond (nat_eq place met) 1 0

-- how often a place is met
abbrev pub times : ℕ → List ℕ → ℕ
times place [] = 0
times place (met ∷ more) = once place met + times place more

-- each place is met once at most
abbrev pub AreDistinct : List ℕ → Type 0
AreDistinct places = (place : ℕ) → times place places ≤ 1

-- each place is one of so many, from 1 on
abbrev pub AreWithin : ℕ → List ℕ → Type 0
AreWithin room [] = Unit {0}
AreWithin room (place ∷ more) = (1 ≤ place) × (place ≤ room) × AreWithin room more

-- Whatever the source is, in every world and for all bounds: its run meets no place twice, and none but those of its
-- room.
pub record MeetsItsPlacesOnce (xs : List External) (profile : Profile) (w : WorldTables) (b : Bounds) : Type 0 where
  pub distinct : AreDistinct (source_met xs profile w b)
  pub within : AreWithin (source_room xs profile b) (source_met xs profile w b)

-- The room and the size of its machine are those of the source, in every world.
pub record IsTheSameInEveryWorld (xs : List External) (profile : Profile) (w : WorldTables) (b : Bounds) :
    Type 0 where
  pub room : room_of (machine_in xs profile w b) ≡ source_room xs profile b
  pub size : unrolled_size (machine_in xs profile w b) ≡ source_size xs profile b
