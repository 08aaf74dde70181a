-- A source with its profile: its program, which functions are reached and which words are needed, how its functions are
-- numbered; and what is to be made of an external declaration.
use Rattle.std.specs.Prelude.{Bool, false, List, Option, Some, None}
use Rattle.c_language.specs.declared.unit.External.{External}
use Rattle.c_language.specs.declared.scope.Entry.{Entry}
use Rattle.c_means.specs.declared.profile.Profile.{Profile}
use Rattle.c_means.specs.Names.{Word}
use Rattle.c_means.specs.Prelude.{prelude_functions}
use Rattle.c_means.specs.Programs.{Function, Outer, Program, program_of, has_function, reached, needed_words, is_needed}
use Rattle.c_means.specs.Programs.{watched_lasting}
use Rattle.c_means.specs.Runs as whole
use Rattle.c_means.specs.Units.{machine_of, silent, least}
use Rattle.core_programs.specs.Numberings.{Numbers}
use Rattle.core_units.specs.declared.plan.Plan.{Plan}
use Rattle.core_units.specs.Numbers.{numbers_of}

-- no core depends on the world and the bounds
abbrev pub program_in : List External → Profile → whole.Machine
program_in xs profile = machine_of xs profile silent least 1

abbrev pub reached_in : List External → Profile → List Function
reached_in xs profile = reached profile (program_of xs)

abbrev pub words_in : List External → Profile → List Word
words_in xs profile = needed_words profile (program_of xs)

abbrev pub numbers_in : List External → Profile → Numbers
numbers_in xs profile = numbers_of (reached_in xs profile) (program_of xs) prelude_functions

-- the variables that live throughout the run that a function names
abbrev pub watched_if : Program → Option Function → Option (List Entry)
watched_if p None = None
watched_if p (Some f) = Some (watched_lasting p.scope f)

abbrev pub reached_if : List Function → Option Function → Bool
reached_if found None = false
reached_if found (Some f) = has_function f found

abbrev pub plan_of : Program → List Word → List Function → Outer → Plan
plan_of p ws found x = record {
  is_needed = is_needed ws x;
  is_reached = reached_if found x.function;
  watched = watched_if p x.function;
}
