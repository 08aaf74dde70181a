-- The run of every source meets no place twice, and none but those of its room.
use Rattle.std.proofs.Common.{◌≡◌, ◌≤◌, ◌<◌, ℕ, suc, ◌+◌, Bool, true, false, cond, List, [], ◌∷◌, refl, arith, le_refl}
use Rattle.std.specs.Prelude.{nat_lt, nat_eq}
use Rattle.plain_data.specs.declared.bounds.Bounds.{Bounds}
use Rattle.plain_data.specs.Worlds.{WorldTables}
use Rattle.c_language.specs.declared.unit.External.{External}
use Rattle.c_means.specs.declared.profile.Profile.{Profile}
use Rattle.c_means.specs.Prelude.{externals}
use Rattle.c_means.specs.Runs.{Machine, met_of, room_of}
use Rattle.c_means.specs.Parts.{World, Limits}
use Rattle.c_means.specs.Units.{machine_in, machine_of, world_of, limits_of, silent, source_met, source_room, source_size}
use Rattle.c_places.specs.Places.{once, times, AreDistinct, AreWithin, MeetsItsPlacesOnce}
use Rattle.c_places.specs.Places.{IsTheSameInEveryWorld}
use Rattle.c_places.proofs.Worlds.{room_in_world, size_in_world}
use Rattle.std.proofs.Common.{sym, subst}
use Rattle.c_places.proofs.Calls.{Counts}
use Rattle.c_places.proofs.Levels.{MachineKeeps}
use Rattle.c_places.proofs.Needs.{EachOuter}
use Rattle.c_places.proofs.Programs.{program_keeps, each_function, each_from}
use Rattle.c_places.proofs.Runs.{whole_within}

-- ---- the weight that is 1 behind a place

abbrev weight : ℕ → ℕ → ℕ
weight p q = cond (nat_lt p q) 1 0

is_below : (n b : ℕ) → nat_lt n b ≡ true → n < b
is_below n b = grind arith

isnt_below : (n b : ℕ) → nat_lt n b ≡ false → b ≤ n
isnt_below n b = grind arith

is_same : (n b : ℕ) → nat_eq n b ≡ true → n ≡ b
is_same n b = grind arith

rises_by : (p a b : ℕ) (x y : Bool) → nat_lt p a ≡ x → nat_lt p b ≡ y → a ≤ b → cond x 1 0 ≤ cond y 1 0
rises_by p a b true true ex ey h = omega arith
rises_by p a b true false ex ey h = absurd (omega (arith, is_below p a ex, isnt_below p b ey, h))
rises_by p a b false true ex ey h = omega arith
rises_by p a b false false ex ey h = omega arith

steps_by : (p q : ℕ) (x y z : Bool) → nat_lt p q ≡ x → nat_eq p q ≡ y → nat_lt p (suc q) ≡ z →
    cond x 1 0 + cond y 1 0 ≤ cond z 1 0
steps_by p q true true z ex ey ez = absurd (omega (arith, is_below p q ex, is_same p q ey))
steps_by p q true false true ex ey ez = omega arith
steps_by p q true false false ex ey ez = absurd (omega (arith, is_below p q ex, isnt_below p (suc q) ez))
steps_by p q false true true ex ey ez = omega arith
steps_by p q false true false ex ey ez = absurd (omega (arith, is_same p q ey, isnt_below p (suc q) ez))
steps_by p q false false true ex ey ez = omega arith
steps_by p q false false false ex ey ez = omega arith

counts : (p : ℕ) → Counts (weight p) p
counts p = record {
  rises = record { more = λ a b h. rises_by p a b (nat_lt p a) (nat_lt p b) refl refl h };
  step = λ q. steps_by p q (nat_lt p q) (nat_eq p q) (nat_lt p (suc q)) refl refl refl;
}

most : (p q : ℕ) → weight p q ≤ 1
most p q = by_order (nat_lt p q)
  where
    by_order : (b : Bool) → cond b 1 0 ≤ 1
    by_order true = omega arith
    by_order false = omega arith

-- ---- what the weight says of a list of places

distinct_by : (places : List ℕ) (room : ℕ) →
    ((p : ℕ) → times p places + weight p 1 ≤ weight p (suc room)) → AreDistinct places
distinct_by places room h p = omega (arith, h p, most p (suc room))

is_itself : (p : ℕ) → nat_eq p p ≡ true
is_itself p = grind arith

itself : (p : ℕ) → 1 ≤ once p p
itself p = rw (is_itself p) (le_refl 1)

-- a place that is met stands between
between : (p room n : ℕ) (x y : Bool) → nat_lt p 1 ≡ x → nat_lt p (suc room) ≡ y → suc n + cond x 1 0 ≤ cond y 1 0 →
    (1 ≤ p) × (p ≤ room)
between p room n true true ex ey h = absurd (omega (arith, h))
between p room n true false ex ey h = absurd (omega (arith, h))
between p room n false true ex ey h =
    let less = is_below p (suc room) ey in (isnt_below p 1 ex, omega (arith, less))
between p room n false false ex ey h = absurd (omega (arith, h))

within_by : (places : List ℕ) (room : ℕ) →
    ((p : ℕ) → times p places + weight p 1 ≤ weight p (suc room)) → AreWithin room places
within_by [] room h = tt
within_by (p ∷ ps) room h =
    let b = between p room (times p ps) (nat_lt p 1) (nat_lt p (suc room)) refl refl
    (omega (arith, h p, itself p)) in
    (b.0, b.1, within_by ps room (λ q. omega (arith, h q)))

-- ---- machines and sources

pub distinct : (m : Machine) → EachOuter m.program.outers → MachineKeeps m → AreDistinct (met_of m)
distinct m h hm = distinct_by (met_of m) (room_of m) (λ p. whole_within (weight p) p (counts p) m h hm)

pub within : (m : Machine) → EachOuter m.program.outers → MachineKeeps m → AreWithin (room_of m) (met_of m)
within m h hm = within_by (met_of m) (room_of m) (λ p. whole_within (weight p) p (counts p) m h hm)

source_keeps : (xs : List External) (profile : Profile) (world : World) (limits : Limits) (depth : ℕ) →
    MachineKeeps (machine_of xs profile world limits depth)
source_keeps xs profile world limits depth = record { functions = each_function xs; prelude = each_from externals }

-- the machine of a source over the world that gives 0
abbrev quiet : List External → Profile → Bounds → Machine
quiet xs profile b = machine_of xs profile silent (limits_of b) b.depth

pub is_the_same_in_every_world : (xs : List External) (profile : Profile) (w : WorldTables) (b : Bounds) →
    IsTheSameInEveryWorld xs profile w b
unfolding source_room source_size
is_the_same_in_every_world xs profile w b =
    let h = source_keeps xs profile silent (limits_of b) b.depth in
    record {
      room = sym (room_in_world (quiet xs profile b) (world_of w) h);
      size = sym (size_in_world (quiet xs profile b) (world_of w) h);
    }

pub meets_its_places_once : (xs : List External) (profile : Profile) (w : WorldTables) (b : Bounds) →
    MeetsItsPlacesOnce xs profile w b
unfolding source_met
meets_its_places_once xs profile w b =
    let m = machine_in xs profile w b in
    let h = source_keeps xs profile (world_of w) (limits_of b) b.depth in
    record {
      distinct = distinct m (program_keeps xs) h;
      within = subst (λ n. AreWithin n (met_of m)) (is_the_same_in_every_world xs profile w b).room
          (within m (program_keeps xs) h);
    }
