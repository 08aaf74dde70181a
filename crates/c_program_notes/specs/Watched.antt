-- The watched variables of a function that live throughout the run, over its summary.
use Rattle.std.specs.Prelude.{ℕ, cond, List, [], ◌∷◌, Some}
use Rattle.c_language.specs.declared.scope.Entry.{Entry}
use Rattle.c_language.specs.Scopes.{Scope}
use Rattle.c_means.specs.Programs.{in_file, is_bound, watches}
use Rattle.c_item_notes.specs.declared.items.LastingNote.{LastingNote}
use Rattle.c_reach.specs.declared.summaries.FunctionNotes.{FunctionNotes}

abbrev pub in_blocks : List LastingNote → List ℕ → List Entry → List Entry
in_blocks [] ats es = es
in_blocks (x ∷ xs) ats es =
    cond (is_bound x.at ats) (watches (Some x.entry) (in_blocks xs ats es)) (in_blocks xs ats es)

abbrev pub watched_lasting : Scope → FunctionNotes → List Entry
watched_lasting s f = in_blocks f.body.lasting f.names.bound (in_file s f.names.uses)
