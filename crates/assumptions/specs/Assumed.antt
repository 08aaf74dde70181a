-- What a program's runs rest on that its source doesn't define (C99 6.5.2.2, 6.9): the functions outside that functions
-- which are reached call, and the objects that are needed and have no definition.
use Rattle.std.specs.Prelude.{ℕ, Bool, false, cond, ◌&&◌, ◌||◌, nat_eq, List, [], ◌∷◌, ◌++◌, fold, map, option_map}
use Rattle.std.specs.Ordering.{nat_cmp}
use Rattle.std.specs.Cmp.Lexicographic.{slice_cmp}
use Rattle.std.specs.BTreeSet.{insert_key}
use Rattle.c_language.specs.declared.unit.External.{External}
use Rattle.c_language.specs.Scopes.{Name}
use Rattle.c_means.specs.Parts.{Level, Site}
use Rattle.c_means.specs.declared.profile.FillFunction.{FillFunction}
use Rattle.c_means.specs.declared.profile.Profile.{Profile}
use Rattle.c_means.specs.Items.{Lasting}
use Rattle.c_means.specs.Programs.{Function, needs_of, reached}
use Rattle.c_means.specs.Rules.{Rules, LogCall, IdentityCall, BodyCall, LibraryCall, PreludeCall, OutsideCall}
use Rattle.c_means.specs.Rules.{fill_of, is_among}
use Rattle.c_means.specs.Runs.{Machine, bare, rule_of}
use Rattle.c_means.specs.Units.{least, machine_of, silent}
use Rattle.diagnoses.specs.declared.assumption.Assumption.{Assumption}
use Rattle.diagnoses.specs.declared.assumption.Assumption.TheVariants as assumption
use Rattle.diagnoses.specs.declared.assumption.Filling.{Filling}

-- ---- functions outside

abbrev pub name_if_outside : Name → Rules Function → List Name
name_if_outside name (LogCall text) = []
name_if_outside name (IdentityCall i) = []
name_if_outside name (BodyCall f) = []
name_if_outside name (LibraryCall f) = []
name_if_outside name (PreludeCall f) = []
name_if_outside name OutsideCall = name ∷ []

-- of calls, evaluated or not, the callees of those that follow the rule of functions outside
abbrev pub outside_calls : Machine → List (Level → Site) → List Name
outside_calls m [] = []
outside_calls m (f ∷ fs) =
    let g = f (bare m m.limits.turns) in name_if_outside g.callee.name (rule_of m g) ++ outside_calls m fs

abbrev pub called_outside : Machine → List Function → List Name
called_outside m [] = []
called_outside m (f ∷ fs) = outside_calls m f.body.calls ++ called_outside m fs

-- ---- objects without a definition, among those that live throughout the run

abbrev pub is_defined : ℕ → List Lasting → Bool
is_defined at [] = false
is_defined at (x ∷ xs) = (x.is_defined && nat_eq at x.entry.at) || is_defined at xs

abbrev pub undefined_in : List Lasting → List Lasting → List Name
undefined_in all [] = []
undefined_in all (x ∷ xs) =
    cond (is_defined x.entry.at all) [] (x.entry.name ∷ []) ++ undefined_in all xs

-- ---- what is assumed

-- names in ascending order of their bytes, each once
abbrev pub by_name : List Name → List Name
by_name names = fold (insert_key (slice_cmp nat_cmp)) [] names

abbrev pub filling : FillFunction → Filling
filling f = record { buffer = f.buffer; length = f.length }

-- what is known of a function outside: which buffer it fills, and whether it answers no null pointer
abbrev pub outside : Profile → Name → Assumption
outside p name = assumption.Outside name (option_map filling (fill_of p name)) (is_among name p.never_null)

abbrev pub object : Name → Assumption
object name = assumption.Object name

abbrev pub outside_names : Machine → List Name
outside_names m = by_name (called_outside m (reached m.profile m.program))

abbrev pub undefined_names : Machine → List Name
undefined_names m = let xs = (needs_of m.profile m.program).lasting in by_name (undefined_in xs xs)

-- in any world and bounds: none of this depends on them
abbrev pub program_in : List External → Profile → Machine
program_in xs p = machine_of xs p silent least 1

unfoldable pub assumptions_of : List External → Profile → List Assumption
assumptions_of xs p =
    let m = program_in xs p in
    map (outside p) (outside_names m) ++ map object (undefined_names m)
