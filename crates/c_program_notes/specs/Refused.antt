-- Which rule a source breaks first, over summaries, and as `c_means` says it.
use Rattle.std.specs.Prelude.{ℕ, Bool, false, cond, nat_eq, not, ◌&&◌, List, [], ◌∷◌, Option, Some, None}
use Rattle.c_language.specs.declared.tables.Tables.{Tables}
use Rattle.c_language.specs.declared.scope.Entry.{Entry}
use Rattle.c_language.specs.Scopes.{Scope, entry_in}
use Rattle.c_language.specs.Typing as typing
use Rattle.c_means.specs.declared.breach.Breach.{Breach}
use Rattle.c_means.specs.declared.breach.BrokenRule.{BrokenRule}
use Rattle.c_means.specs.declared.breach.BrokenRule.TheVariants as broken
use Rattle.c_means.specs.Checks.{breaches_of, has_main as has_main_in, is_known, mismatch, unread_breaches}
use Rattle.c_means.specs.Items.{breach_if}
use Rattle.c_means.specs.Names.{Word}
use Rattle.c_means.specs.Programs.{declares_some, main'}
use Rattle.c_means.specs.Runs.{Machine}
use Rattle.c_checks.specs.Refusals.{least_of, lesser}
use Rattle.c_notes.specs.declared.calls.CallNote.{CallNote}
use Rattle.c_item_notes.specs.declared.items.ItemNotes.{ItemNotes}
use Rattle.c_item_notes.specs.declared.items.LastingNote.{LastingNote}
use Rattle.c_reach.specs.declared.summaries.FunctionNotes.{FunctionNotes}
use Rattle.c_reach.specs.Reaching.{named_in}
use Rattle.c_program_notes.specs.declared.outers.OuterNotes.{OuterNotes}
use Rattle.c_program_notes.specs.declared.accepting.Refusal.{Refusal}
use Rattle.c_program_notes.specs.declared.accepting.Refusal.TheVariants as refusal_
use Rattle.c_program_notes.specs.declared.whole.Overview.{Overview}

abbrev pub incomplete : BrokenRule
incomplete = broken.Typing typing.incomplete

-- ---- calls; `fs` are the functions of the source in reversed order

abbrev pub counted_call : CallNote → ℕ → Option FunctionNotes → Option Breach
counted_call c n None = c.breach
counted_call c n (Some f) = least_of (breach_if (not (nat_eq f.parameters n)) c.at mismatch)

abbrev pub call_by : List FunctionNotes → CallNote → Option ℕ → Option Breach
call_by fs c None = c.breach
call_by fs c (Some n) = counted_call c n (named_in fs c.name)

abbrev pub call_least : List FunctionNotes → CallNote → Option Breach
call_least fs c = call_by fs c c.arguments

abbrev pub calls_least : List FunctionNotes → List CallNote → Option Breach
calls_least fs [] = None
calls_least fs (c ∷ cs) = lesser (call_least fs c) (calls_least fs cs)

abbrev pub item_least : List FunctionNotes → ItemNotes → Option Breach
item_least fs n = lesser n.breach (calls_least fs n.calls)

-- ---- functions

abbrev pub function_least : List FunctionNotes → FunctionNotes → Option Breach
function_least fs f = lesser (least_of (unread_breaches f.unread)) (item_least fs f.body)

abbrev pub functions_least : List FunctionNotes → List FunctionNotes → Option Breach
functions_least fs [] = None
functions_least fs (g ∷ gs) = lesser (function_least fs g) (functions_least fs gs)

-- ---- declarations

abbrev pub final_least : Tables → LastingNote → Option Entry → Option Breach
final_least tables x None = None
final_least tables x (Some e) =
    least_of (breach_if (x.is_defined && nat_eq e.at x.entry.at && not (is_known tables e.means)) x.at incomplete)

abbrev pub note_least : Scope → LastingNote → Option Breach
note_least s x = final_least s.tables x (entry_in s.file x.entry.name)

abbrev pub lasting_least : Scope → List LastingNote → Option Breach
lasting_least s [] = None
lasting_least s (x ∷ xs) = lesser (note_least s x) (lasting_least s xs)

-- where it is needed
abbrev pub outer_least : List FunctionNotes → Scope → List Word → OuterNotes → Option Breach
outer_least fs s ws x =
    cond (declares_some x.names.declares ws) (lesser (item_least fs x.item) (lasting_least s x.item.lasting)) None

abbrev pub outers_least : List FunctionNotes → Scope → List Word → List OuterNotes → Option Breach
outers_least fs s ws [] = None
outers_least fs s ws (x ∷ xs) = lesser (outer_least fs s ws x) (outers_least fs s ws xs)

-- ---- the whole source

unfoldable pub whole_least : List FunctionNotes → Overview → Option Breach
whole_least fs x =
    lesser (outers_least fs x.program.scope x.words x.program.outers) (functions_least fs x.reached)

abbrev pub is_main : Option FunctionNotes → Bool
is_main None = false
is_main (Some f) = f.is_main

abbrev pub has_main : List FunctionNotes → Bool
has_main fs = is_main (named_in fs main')

abbrev pub broken_by : Option Breach → Option Refusal
broken_by None = None
broken_by (Some b) = Some (refusal_.Broken b)

unfoldable pub refusal_by : List FunctionNotes → Overview → Option Refusal
refusal_by fs x = cond (has_main fs) (broken_by (whole_least fs x)) (Some refusal_.NoMain)

-- that there is no `main` comes first, and of the broken rules the least
unfoldable pub refusal_of : Machine → Option Refusal
refusal_of m = cond (has_main_in m) (broken_by (least_of (breaches_of m))) (Some refusal_.NoMain)
