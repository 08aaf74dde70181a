-- The watched variables of a function over its summary are those that `c_means` says.
use Rattle.std.proofs.Common.{◌≡◌, ℕ, cond, List, [], ◌∷◌, Some, refl, ap}
use Rattle.c_language.specs.declared.scope.Entry.{Entry}
use Rattle.c_language.specs.Scopes.{Scope}
use Rattle.c_means.specs.Items.{Lasting}
use Rattle.c_means.specs.Programs.{Function, in_file, is_bound, watches}
use Rattle.c_means.specs.Programs as programs
use Rattle.c_item_notes.specs.ItemTellings.{lasting_notes}
use Rattle.c_item_notes.specs.Levels.{Judged}
use Rattle.c_reach.specs.Summaries.{function_notes}
use Rattle.c_program_notes.specs.Watched as spec

in_blocks_are : (xs : List Lasting) (ats : List ℕ) (es : List Entry) →
    spec.in_blocks (lasting_notes xs) ats es ≡ programs.in_blocks xs ats es
in_blocks_are [] ats es = refl
in_blocks_are (x ∷ xs) ats es =
    ap (λ (rest : List Entry). cond (is_bound x.at ats) (watches (Some x.entry) rest) rest) (in_blocks_are xs ats es)

pub watched_are : (j : Judged) (s : Scope) (f : Function) →
    spec.watched_lasting s (function_notes j f) ≡ programs.watched_lasting s f
watched_are j s f = in_blocks_are f.body.lasting f.names.bound (in_file s f.names.uses)
