-- What code keeps of the expressions of an initializer (C99 6.7.8).
use Rattle.std.specs.Prelude.{not, ◌&&◌, List, [], ◌∷◌, ◌++◌, None, is_some}
use Rattle.c_language.specs.declared.shown.Told.{Told}
use Rattle.c_language.specs.Scopes.{Scope}
use Rattle.c_language.specs.Typing.{no_constant, told_of}
use Rattle.c_means.specs.declared.breach.Breach.{Breach}
use Rattle.c_means.specs.declared.breach.BrokenRule.TheVariants as broken
use Rattle.c_means.specs.Items.{breach_if}
use Rattle.c_means.specs.Initials.{Element, Evaluates, Indexes, Initial}
use Rattle.c_checks.specs.Refusals.{lesser, least_of}
use Rattle.c_notes.specs.declared.notes.ExprNotes.{ExprNotes}
use Rattle.c_notes.specs.CallsTold.{told_calls}
use Rattle.c_notes.specs.Tellings.{is_static}
use Rattle.c_item_notes.specs.declared.initials.InitialNotes.{InitialNotes}
use Rattle.c_item_notes.specs.Levels.{Judged, Heard, level_in, heard}

abbrev pub no_notes : InitialNotes
no_notes = record { calls = []; called = []; constant = None }

-- of what an initializer does
abbrev pub initial_notes : Judged → Initial → InitialNotes
initial_notes j x = record {
  calls = told_calls j.profile (level_in j) x.calls;
  called = x.called;
  constant = least_of x.constant;
}

-- ---- expression by expression

-- what a static object may not be initialised with
abbrev pub not_static : Told → ExprNotes → List Breach
not_static t n = breach_if (is_some t.shown && not (is_static n)) t.at (broken.Typing no_constant)

abbrev pub and_value : Told → ExprNotes → InitialNotes → InitialNotes
and_value t n z = record {
  calls = z.calls ++ n.calls;
  called = z.called ++ n.called;
  constant = lesser z.constant (least_of (not_static t n));
}

pub record Seen : Type 0 where
  pub notes : InitialNotes
  pub after : Scope

abbrev pub seen_in : InitialNotes → Scope → Seen
seen_in n s = record { notes = n; after = s }

abbrev pub and_heard : Heard → InitialNotes → Seen
and_heard h z = seen_in (and_value (told_of h.typed) h.notes z) h.typed.after

-- each in the scope that those before it leave; the index of a designator isn't evaluated
abbrev pub see : Judged → List Element → Seen → Seen
see j [] z = z
see j (Evaluates e ∷ es) z = see j es (and_heard (heard j (e z.after)) z.notes)
see j (Indexes e ∷ es) z = see j es (seen_in z.notes (e z.after).part.typed.after)
