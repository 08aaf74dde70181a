-- What lives throughout the run, over summaries: one external declaration behind the other.
use Rattle.std.specs.Prelude.{ℕ, Bool, cond, List, [], ◌∷◌, ◌++◌, Option, Some, None, unwrap_or}
use Rattle.c_language.specs.Scopes.{Name}
use Rattle.c_means.specs.Names.{Literal, Word}
use Rattle.c_means.specs.Programs.{Text, declares_some, texts_of}
use Rattle.c_means.specs.Programs as programs
use Rattle.c_item_notes.specs.declared.items.ItemNotes.{ItemNotes}
use Rattle.c_item_notes.specs.declared.items.LastingNote.{LastingNote}
use Rattle.c_item_notes.specs.ItemTellings.{lasting_notes}
use Rattle.c_names.specs.declared.summaries.Names.{Names}
use Rattle.c_reach.specs.declared.summaries.FunctionNotes.{FunctionNotes}
use Rattle.c_reach.specs.Reaching.{has_at}
use Rattle.c_program_notes.specs.declared.needing.Needs.{Needs}
use Rattle.c_program_notes.specs.declared.outers.OuterNotes.{OuterNotes}

-- of what `c_means` says
abbrev pub needs_notes : programs.Needs → Needs
needs_notes x = record { links = x.links; lasting = lasting_notes x.lasting; texts = x.texts }

abbrev pub no_needs : Needs
no_needs = record { links = []; lasting = []; texts = [] }

abbrev pub text_of : Name → Literal → Text
text_of name x = record { at = x.at; bytes = unwrap_or x.text name }

-- ---- one behind the other

abbrev pub with_links : List Name → Needs → Needs
with_links names x = record x { links = x.links ++ names }

abbrev pub with_lasting : List LastingNote → Needs → Needs
with_lasting notes x = record x { lasting = x.lasting ++ notes }

abbrev pub with_texts : Name → List Literal → Needs → Needs
with_texts name literals x = record x { texts = x.texts ++ texts_of name literals }

abbrev pub with_item : ItemNotes → Name → Names → Needs → Needs
with_item n name names x = with_texts name names.literals (with_lasting n.lasting (with_links n.links x))

abbrev pub with_function : FunctionNotes → Needs → Needs
with_function f x = with_item f.body f.name f.names (with_links (f.name ∷ []) x)

abbrev pub and_declared : List Word → OuterNotes → Needs → Needs
and_declared ws o x = cond (declares_some o.names.declares ws) (with_item o.item [] o.names x) x

abbrev pub and_reached : List FunctionNotes → Option FunctionNotes → Needs → Needs
and_reached found None x = x
and_reached found (Some f) x = cond (has_at f.at found) (with_function f x) x

abbrev pub and_outer : List Word → List FunctionNotes → OuterNotes → Needs → Needs
and_outer ws found o x = and_reached found o.function (and_declared ws o x)

abbrev pub all_needs : List Word → List FunctionNotes → List OuterNotes → Needs → Needs
all_needs ws found [] x = x
all_needs ws found (o ∷ os) x = all_needs ws found os (and_outer ws found o x)
