-- What is known of the calls of a function, as code has it, and what it is to know a program's.
use Rattle.std.specs.Prelude.{◌≡◌, ℕ, ◌+◌, List, map, reverse, Some, option_map}
use Rattle.c_language.specs.declared.scope.Entry.{Entry}
use Rattle.c_language.specs.Scopes.{Name}
use Rattle.c_means.specs.declared.profile.Profile.{Profile}
use Rattle.c_means.specs.Prelude.{prelude_functions}
use Rattle.c_means.specs.Programs.{Function, functions_of, function_named, watched_lasting}
use Rattle.c_means.specs.Runs as whole
use Rattle.core_programs.specs.Numberings.{Numbers}
use Rattle.core_callees.specs.declared.bodies.PreludeFunction.{PreludeFunction}
use Rattle.core_callees.specs.declared.calling.Calling.{Calling}
use Rattle.core_callees.specs.declared.numbered.FunctionNumber.{FunctionNumber}
use Rattle.core_callees.specs.Bodies.{named, number_from, position, prelude_in}
use Rattle.core_callees.specs.Known.{Known}
use Rattle.core_callees.specs.Numbered.{numbers_in}

-- by the offsets of what lives throughout the run, the functions of the source, the number of the first function of the
-- prelude, and the variables that the function names
abbrev pub known : Profile → List ℕ → List FunctionNumber → ℕ → List Entry → Known
known profile offsets functions first watched = record {
  profile = profile;
  place = whole.place_in offsets;
  source = numbers_in functions;
  prelude = λ t name. number_from first (prelude_in t name);
  watched = watched;
}

abbrev pub known_by : Calling → Known
known_by x = known x.profile.now x.places.now x.functions.now x.prelude x.watched.now

-- a function of a program, as the table has it
abbrev pub numbered : Numbers → Function → FunctionNumber
numbered ns f = record { name = f.name; number = ns.source f.name }

-- the table of a program's functions, of which the first of a name counts
abbrev pub table_of : Numbers → List Function → List FunctionNumber
table_of ns fs = reverse (map (numbered ns) fs)

-- what is known of the calls of this function of a program, whose functions have these numbers
pub record Knows (m : whole.Machine) (ns : Numbers) (f : Function) (profile : Profile) (offsets : List ℕ)
    (functions : List FunctionNumber) (first : ℕ) (watched : List Entry) : Type 0
  where
    pub prelude_is : m.prelude ≡ prelude_functions
    pub profile_is : m.profile ≡ profile
    pub places_are : whole.places_of m.program ≡ whole.place_in offsets
    pub functions_are : (name : Name) → numbers_in functions name
        ≡ option_map (λ h. ns.source name) (function_named (functions_of m.program) name)
    pub prelude_numbers : (name : Name) (g : PreludeFunction) → named name ≡ Some g → first + position g ≡ ns.prelude name
    pub watched_are : watched_lasting m.program.scope f ≡ watched
