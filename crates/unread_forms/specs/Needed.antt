-- What a source needs: the external declarations of what the functions that are reached use, and those functions.
use Rattle.std.specs.Prelude.{Bool, false, cond, ◌||◌, List, [], ◌∷◌, Option, Some, None}
use Rattle.c_language.specs.declared.unit.External.{External}
use Rattle.c_means.specs.declared.profile.Profile.{Profile}
use Rattle.c_means.specs.Names.{Word}
use Rattle.c_means.specs.Programs.{Function, Outer, declares_some, has_function, is_needed, needed_words, program_of, reached}
use Rattle.c_reach.specs.declared.summaries.FunctionNotes.{FunctionNotes}
use Rattle.c_reach.specs.Reaching.{has_at}
use Rattle.c_program_notes.specs.declared.outers.OuterNotes.{OuterNotes}

-- whether an external declaration defines one of these functions
abbrev pub defines_one : List Function → Option Function → Bool
defines_one found None = false
defines_one found (Some f) = has_function f found

-- whether it is needed, where these words are and these functions are reached
abbrev pub is_kept : List Word → List Function → Outer → Bool
is_kept ws found x = is_needed ws x || defines_one found x.function

abbrev pub kept_among : List Word → List Function → List Outer → List External → List External
kept_among ws found [] xs = []
kept_among ws found (o ∷ os) [] = []
kept_among ws found (o ∷ os) (x ∷ xs) = cond (is_kept ws found o) (x ∷ kept_among ws found os xs) (kept_among ws found os xs)

-- the external declarations that are needed, in order
unfoldable pub kept : List External → Profile → List External
kept xs profile =
    let p = program_of xs in kept_among (needed_words profile p) (reached profile p) p.outers xs

-- ---- over summaries

abbrev pub defines_noted : List FunctionNotes → Option FunctionNotes → Bool
defines_noted found None = false
defines_noted found (Some f) = has_at f.at found

abbrev pub keeps : List Word → List FunctionNotes → OuterNotes → Bool
keeps ws found o = declares_some o.names.declares ws || defines_noted found o.function

abbrev pub kept_noted : List Word → List FunctionNotes → List OuterNotes → List External → List External
kept_noted ws found [] xs = []
kept_noted ws found (o ∷ os) [] = []
kept_noted ws found (o ∷ os) (x ∷ xs) = cond (keeps ws found o) (x ∷ kept_noted ws found os xs) (kept_noted ws found os xs)
