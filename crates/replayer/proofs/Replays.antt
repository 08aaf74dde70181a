-- The run of the core of an accepted source is the run of the source, and so are its room and its size.
use Rattle.std.proofs.Common.{◌≡◌, ℕ, List, Some, min, sym, ap, ◌∙◌}
use Rattle.plain_data.specs.declared.bounds.Bounds.{Bounds}
use Rattle.plain_data.specs.declared.run.Run.{Run}
use Rattle.plain_data.specs.Worlds.{WorldTables}
use Rattle.c_places.specs.Places.{MeetsItsPlacesOnce}
use Rattle.c_places.proofs.Sources.{meets_its_places_once}
use Rattle.c_means.specs.Units.{limits_of, silent, source_room, source_run, source_size, world_of}
use Rattle.core_tree.specs.Programs.{machine, room_of, run_of, unrolled_size}
use Rattle.core_tree.specs.States.{plain}
use Rattle.accepted.specs.declared.program.Accepted.{Accepted}

some_same : (x y : Run) → Some x ≡ Some y → x ≡ y
some_same x y e = cc

pub replays : (p : Accepted) (w : WorldTables) (b : Bounds) (r : Run)
    → run_of p.core (world_of w) (limits_of b) b.depth ≡ Some r → r ≡ source_run p.externals p.profile w b
replays p w b r ran = some_same r (source_run p.externals p.profile w b) (sym ran ∙ p.has_its_runs.run w b)

pub takes : (p : Accepted) (b : Bounds) (n : ℕ)
    → n ≡ room_of (machine plain p.core silent (limits_of b) b.depth) → n ≡ source_room p.externals p.profile b
takes p b n is = is ∙ p.has_its_runs.room b

pub unrolls : (p : Accepted) (b : Bounds) (cap n : ℕ)
    → n ≡ min (unrolled_size (machine plain p.core silent (limits_of b) b.depth)) cap
    → n ≡ min (source_size p.externals p.profile b) cap
unrolls p b cap n is = is ∙ ap (λ m. min m cap) (p.has_its_runs.size b)

pub meets_each_once : (p : Accepted) (w : WorldTables) (b : Bounds) → MeetsItsPlacesOnce p.externals p.profile w b
meets_each_once p w b = meets_its_places_once p.externals p.profile w b
