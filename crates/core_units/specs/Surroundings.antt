-- What is known of the whole source where its external declarations are made, as code has it.
use Rattle.std.specs.Prelude.{◌≡◌, ℕ, Bool, true, false, not, cond, List, [], ◌∷◌, length, option_map, Option}
use Rattle.c_language.specs.declared.unit.External.{External}
use Rattle.c_language.specs.Scopes.{Name}
use Rattle.c_means.specs.declared.profile.Profile.{Profile}
use Rattle.c_means.specs.Programs.{Function, Outer, functions_of, function_named, has_function}
use Rattle.c_means.specs.Runs as whole
use Rattle.core_callees.specs.declared.numbered.FunctionNumber.{FunctionNumber}
use Rattle.core_callees.specs.Numbered as table
use Rattle.c_language.specs.declared.scope.Entry.{Entry}
use Rattle.c_means.specs.Items.{Lasting}
use Rattle.core_tree.specs.declared.program.Function.{Function as CoreFunction}
use Rattle.core_tree.specs.declared.program.LastingSetting.{LastingSetting}
use Rattle.core_functions.specs.declared.definitions.Definition.{Definition}
use Rattle.core_units.specs.declared.plan.Plan.{Plan}
use Rattle.core_units.specs.declared.walk.Around.{Around}
use Rattle.core_units.specs.declared.unit.All.{All}
use Rattle.core_units.specs.declared.walk.Made.{Made}
use Rattle.core_units.specs.Numbers.{next_number}
use Rattle.core_programs.specs.Marked.{AllAre, reached_among}
use Rattle.core_units.specs.Plans.{program_in, reached_in, words_in, numbers_in, plan_of, watched_if, reached_if}
use Rattle.core_units.specs.Units.{AreAll}
use Rattle.core_units.specs.Walked.{AreSet, IsCoreFunction, IsWalkOf}

-- the places of what lives throughout the run, by offset; the functions with a body, by name; and how many of them are
-- reached
pub record IsAround (xs : List External) (profile : Profile) (offsets : List ℕ) (functions : List FunctionNumber)
    (first : ℕ) : Type 0 where
  pub places : whole.places_of (program_in xs profile).program ≡ whole.place_in offsets
  pub functions_are : (name : Name) → table.numbers_in functions name
      ≡ option_map (λ h. (numbers_in xs profile).source name)
      (function_named (functions_of (program_in xs profile).program) name)
  pub first_is : first ≡ length (reached_among (reached_in xs profile) (functions_of (program_in xs profile).program))

-- what is made of these
abbrev pub AreMadeOf : List External → Profile → List Outer → Made → Type 0
AreMadeOf xs profile os x =
    IsWalkOf (program_in xs profile) (numbers_in xs profile) (words_in xs profile) (reached_in xs profile) os x.functions
    x.others x.settings

-- the functions of a program by name, with their numbers, where these are the next
abbrev pub numbered_from : List Function → ℕ → ℕ → List Function → List FunctionNumber
numbered_from found n m [] = []
numbered_from found n m (f ∷ fs) =
    record { name = f.name; number = cond (has_function f found) n m }
    ∷ numbered_from found (next_number (has_function f found) n) (next_number (not (has_function f found)) m) fs

-- what is made of a function, which is reached or not
abbrev pub made_by : Bool → Definition → Made
made_by true d = record { functions = d.function ∷ []; others = []; settings = d.settings }
made_by false d = record { functions = []; others = d.function ∷ []; settings = [] }

-- ---- the same of what code knows of a source

abbrev pub externals_of : Around → List External
externals_of x = x.source.now.externals.now

abbrev pub profile_of : Around → Profile
profile_of x = x.source.now.profile.now

abbrev pub machine_of : Around → whole.Machine
machine_of x = program_in (externals_of x) (profile_of x)

abbrev pub outers_of : Around → List Outer
outers_of x = (machine_of x).program.outers

abbrev pub IsAroundOf : Around → Type 0
IsAroundOf x = IsAround (externals_of x) (profile_of x) x.places.now x.functions.now x.prelude

abbrev pub AreMadeIn : Around → List Outer → Made → Type 0
AreMadeIn x os y = AreMadeOf (externals_of x) (profile_of x) os y

abbrev pub AreSetIn : Around → List LastingSetting → List Lasting → Type 0
AreSetIn x ss ls = AreSet (machine_of x) ss ls

abbrev pub watched_in : Around → Option Function → Option (List Entry)
watched_in x f = watched_if (machine_of x).program f

abbrev pub plan_in : Around → Outer → Plan
plan_in x o =
    plan_of (machine_of x).program (words_in (externals_of x) (profile_of x))
    (reached_in (externals_of x) (profile_of x)) o

abbrev pub reached_by : Around → Option Function → Bool
reached_by x f = reached_if (reached_in (externals_of x) (profile_of x)) f

-- these are cores of functions of the prelude
abbrev pub AreLibrary : Around → List Function → List CoreFunction → Type 0
AreLibrary x fs cs = AllAre (IsCoreFunction (machine_of x) (numbers_in (externals_of x) (profile_of x)) true) fs cs

-- all that is made of the source
abbrev pub AreAllIn : Around → All → Type 0
AreAllIn x y = AreAll (externals_of x) (profile_of x) y.functions y.settings
