-- The plans and the numbers of functions, over what was noted of the source.
use Rattle.std.specs.Prelude.{ℕ, Bool, false, not, cond, nat_eq, List, [], ◌∷◌, ◌++◌, Option, Some, None}
use Rattle.std.specs.Str.{bytes_eq}
use Rattle.c_language.specs.declared.scope.Entry.{Entry}
use Rattle.c_means.specs.Programs.{declares_some, main'}
use Rattle.c_reach.specs.declared.summaries.FunctionNotes.{FunctionNotes}
use Rattle.c_reach.specs.Reaching.{has_at}
use Rattle.c_program_notes.specs.declared.outers.OuterNotes.{OuterNotes}
use Rattle.c_program_notes.specs.declared.whole.Overview.{Overview}
use Rattle.c_program_notes.specs.Watched.{watched_lasting}
use Rattle.core_callees.specs.declared.numbered.FunctionNumber.{FunctionNumber}
use Rattle.core_units.specs.declared.plan.Plan.{Plan}
use Rattle.core_units.specs.Numbers.{next_number}

abbrev pub watched_noted : Overview → Option FunctionNotes → Option (List Entry)
watched_noted x None = None
watched_noted x (Some f) = Some (watched_lasting x.program.scope f)

abbrev pub reached_noted : Overview → Option FunctionNotes → Bool
reached_noted x None = false
reached_noted x (Some f) = has_at f.at x.reached

abbrev pub plan_noted : Overview → OuterNotes → Plan
plan_noted x o = record {
  is_needed = declares_some o.names.declares x.words;
  is_reached = reached_noted x o.function;
  watched = watched_noted x o.function;
}

-- ---- numbers

abbrev pub number_noted : List FunctionNotes → ℕ → ℕ → FunctionNotes → FunctionNumber
number_noted found n m f = record { name = f.name; number = cond (has_at f.at found) n m }

abbrev pub numbers_if : List FunctionNotes → ℕ → ℕ → Option FunctionNotes → List FunctionNumber
numbers_if found n m None = []
numbers_if found n m (Some f) = number_noted found n m f ∷ []

-- how many are reached behind so many, and how many aren't
abbrev pub number_behind : List FunctionNotes → ℕ → Option FunctionNotes → ℕ
number_behind found n None = n
number_behind found n (Some f) = next_number (has_at f.at found) n

abbrev pub other_behind : List FunctionNotes → ℕ → Option FunctionNotes → ℕ
other_behind found m None = m
other_behind found m (Some f) = next_number (not (has_at f.at found)) m

-- the functions of external declarations, where these are the next numbers
abbrev pub numbers_noted : List FunctionNotes → ℕ → ℕ → List OuterNotes → List FunctionNumber
numbers_noted found n m [] = []
numbers_noted found n m (o ∷ os) =
    numbers_if found n m o.function
    ++ numbers_noted found (number_behind found n o.function) (other_behind found m o.function) os

abbrev pub count_noted : List FunctionNotes → ℕ → List OuterNotes → ℕ
count_noted found n [] = n
count_noted found n (o ∷ os) = count_noted found (number_behind found n o.function) os

-- ---- `main`: whether the first function of the name takes two parameters

abbrev pub is_named_main : Option FunctionNotes → Bool
is_named_main None = false
is_named_main (Some f) = bytes_eq f.name main'

abbrev pub takes_two : Option FunctionNotes → Option Bool
takes_two None = None
takes_two (Some f) = Some (nat_eq f.parameters 2)

abbrev pub main_takes_two : List OuterNotes → Option Bool
main_takes_two [] = None
main_takes_two (o ∷ os) = cond (is_named_main o.function) (takes_two o.function) (main_takes_two os)
