-- What it is to be the core of a whole source: in every world and bounds it is the core of the program.
use Rattle.std.specs.Prelude.{◌≡◌, ℕ, Bool, true, List, ◌++◌, length, Option, Some, None}
use Rattle.c_language.specs.declared.unit.External.{External}
use Rattle.c_means.specs.Parts as c
use Rattle.c_means.specs.declared.profile.Profile.{Profile}
use Rattle.c_means.specs.Prelude.{prelude_functions}
use Rattle.c_means.specs.Programs.{Function, needs_of, main'}
use Rattle.c_means.specs.Runs as whole
use Rattle.c_means.specs.Units.{machine_of}
use Rattle.core_tree.specs.declared.program.Core.{Core}
use Rattle.core_tree.specs.declared.program.Function.{Function as CoreFunction}
use Rattle.core_tree.specs.declared.program.LastingSetting.{LastingSetting}
use Rattle.core_prefix.specs.Runs.{RunsAs}
use Rattle.core_programs.specs.Numberings.{numbering_of}
use Rattle.core_programs.specs.Programs.{HasArguments, IsCoreOf, met_by, objects_of}
use Rattle.core_units.specs.declared.unit.Parts.{Parts}
use Rattle.core_units.specs.Plans.{program_in, reached_in, words_in, numbers_in}
use Rattle.core_units.specs.Walked.{IsCoreFunction, IsWalkOf}
use Rattle.core_programs.specs.Marked.{AllAre, told_core, told_source}

abbrev pub IsUnitCore : List External → Profile → Core → Type 0
IsUnitCore xs profile p =
    (world : c.World) (limits : c.Limits) (depth : ℕ)
    → IsCoreOf (numbering_of (program_in xs profile) (numbers_in xs profile)) (machine_of xs profile world limits depth) p

-- its functions, those of the prelude behind the ones that are reached, and the others behind these; and what is set
pub record AreAll (xs : List External) (profile : Profile) (functions : List CoreFunction)
    (settings : List LastingSetting) : Type 0 where
  pub sources : List CoreFunction
  pub library : List CoreFunction
  pub others : List CoreFunction
  pub all : functions ≡ sources ++ (library ++ others)
  pub walk : IsWalkOf (program_in xs profile) (numbers_in xs profile) (words_in xs profile) (reached_in xs profile)
      (program_in xs profile).program.outers sources others settings
  pub prelude : AllAre (IsCoreFunction (program_in xs profile) (numbers_in xs profile) true) prelude_functions library

-- The core of a source in parts: its functions, what is met, made and set before `main` is called, and the number of
-- `main`.
pub record IsAssembled (xs : List External) (profile : Profile) (p : Core) : Type 0 where
  pub all : AreAll xs profile p.functions p.settings
  pub met : p.met ≡ met_by (program_in xs profile) (needs_of profile (program_in xs profile).program)
  pub objects : p.objects ≡ objects_of (program_in xs profile) (needs_of profile (program_in xs profile).program)
  pub places : p.places ≡ length (whole.offsets_of (program_in xs profile).program)
  pub function : Function
  pub is_main : whole.main_of (program_in xs profile) ≡ Some function
  pub number : (numbers_in xs profile).source main' ≡ p.main
  pub arguments : HasArguments p.has_arguments function.parameters

-- the functions, what is set, and the number of `main`
pub record AreParts (xs : List External) (profile : Profile) (x : Parts) : Type 0 where
  pub all : AreAll xs profile x.functions x.settings
  pub function : Function
  pub is_main : whole.main_of (program_in xs profile) ≡ Some function
  pub number : (numbers_in xs profile).source main' ≡ x.main

-- there are parts exactly where there is a `main`
abbrev pub MaybeParts : List External → Profile → Option Parts → Type 0
MaybeParts xs profile None = whole.main_of (program_in xs profile) ≡ None
MaybeParts xs profile (Some x) = AreParts xs profile x

-- it runs as a core of the whole source does, and has the functions of the source that are reached, with what stands at
-- their tokens
pub record IsCoreOfUnit (xs : List External) (profile : Profile) (p : Core) : Type 0 where
  pub whole_core : Core
  pub is : IsUnitCore xs profile whole_core
  pub runs : RunsAs p whole_core
  pub functions : told_core p ≡ told_source xs profile

-- there is a core exactly where there is a `main`
abbrev pub MaybeCore : List External → Profile → Option Core → Type 0
MaybeCore xs profile None = whole.main_of (program_in xs profile) ≡ None
MaybeCore xs profile (Some p) = IsCoreOfUnit xs profile p
