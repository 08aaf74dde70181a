-- A whole source: what is reached, needed and made, over summaries, and as `c_means` says it.
use Rattle.std.specs.Prelude.{List, [], ◌∷◌, ◌++◌, map, reverse, Option, Some, None}
use Rattle.c_means.specs.declared.profile.Profile.{Profile}
use Rattle.c_means.specs.Names.{Word}
use Rattle.c_means.specs.Programs.{Needs, Program, needed_words, needs_of, ordinaries, program_of, reached}
use Rattle.c_means.specs.Runs.{Machine, offsets_of, place_in}
use Rattle.c_means.specs.Units.{least, machine_of, silent}
use Rattle.core_programs.specs.Offsets.{offsets_in}
use Rattle.c_item_notes.specs.Levels.{Judged}
use Rattle.c_names.specs.declared.summaries.Names.{Names}
use Rattle.c_names.specs.Needs as names
use Rattle.c_reach.specs.declared.summaries.FunctionNotes.{FunctionNotes}
use Rattle.c_reach.specs.Summaries.{function_notes}
use Rattle.c_reach.specs.Reaching as reaching
use Rattle.c_program_notes.specs.declared.outers.OuterNotes.{OuterNotes}
use Rattle.c_program_notes.specs.declared.outers.ProgramNotes.{ProgramNotes}
use Rattle.c_program_notes.specs.declared.whole.Overview.{Overview}
use Rattle.c_program_notes.specs.declared.whole.Preparation.{Preparation}
use Rattle.c_program_notes.specs.Needed.{all_needs, needs_notes, no_needs}
use Rattle.c_program_notes.specs.Placed.{needed_list, objects, program_list}
use Rattle.c_program_notes.specs.Summaries.{program_notes}

-- ---- over summaries

abbrev pub function_if : Option FunctionNotes → List FunctionNotes
function_if None = []
function_if (Some f) = f ∷ []

abbrev pub functions_in : List OuterNotes → List FunctionNotes
functions_in [] = []
functions_in (x ∷ xs) = function_if x.function ++ functions_in xs

unfoldable pub reached_in : Profile → List OuterNotes → List FunctionNotes
reached_in p xs = reaching.reached p (reverse (functions_in xs)) (functions_in xs)

abbrev pub used_in : FunctionNotes → List Word
used_in f = f.names.uses ++ ordinaries (f.name ∷ f.body.links)

abbrev pub used_by : List FunctionNotes → List Word
used_by [] = []
used_by (f ∷ fs) = used_in f ++ used_by fs

abbrev pub names_of : List OuterNotes → List Names
names_of [] = []
names_of (x ∷ xs) = x.names ∷ names_of xs

unfoldable pub words_in : List FunctionNotes → List OuterNotes → List Word
words_in found xs = names.needed_words (names_of xs) (used_by found)

unfoldable pub over : Profile → ProgramNotes → Overview
over p x =
    let found = reached_in p x.outers in
    let words = words_in found x.outers in
    record {
      program = x;
      reached = found;
      words = words;
      needs = all_needs words found x.outers no_needs;
      places = offsets_in (reverse (program_list x));
    }

unfoldable pub prepared : Overview → Preparation
prepared x = record {
  met = map (place_in x.places) (offsets_in (reverse (needed_list x.program.scope x.needs)));
  objects = objects (place_in x.places) x.program.scope x.needs;
}

-- ---- as `c_means` says it

abbrev pub overview_of : Judged → Program → Overview
overview_of j p = record {
  program = program_notes j p;
  reached = map (function_notes j) (reached j.profile p);
  words = needed_words j.profile p;
  needs = needs_notes (needs_of j.profile p);
  places = offsets_of p;
}

unfoldable pub overview : Judged → Overview
overview j = overview_of j (program_of j.externals)

-- in any world and bounds: what is asked of it here depends on neither
unfoldable pub machine : Judged → Machine
machine j = machine_of j.externals j.profile silent least 1

unfoldable pub needs_in : Judged → Needs
needs_in j = needs_of j.profile (program_of j.externals)
