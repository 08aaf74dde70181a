-- What code keeps of what `c_means` says of a statement or declaration as an item, apart from what it does.
use Rattle.std.specs.Prelude.{ℕ, Bool, true, not, ◌||◌, List, [], ◌∷◌, ◌++◌, Option, Some, None, is_some}
use Rattle.c_language.specs.declared.expr.StorageClass.{StorageClass}
use Rattle.c_language.specs.declared.ctype.CType.{CType}
use Rattle.c_language.specs.declared.tables.Tables.{Tables}
use Rattle.c_language.specs.declared.scope.Duration.TheVariants as duration
use Rattle.c_language.specs.declared.scope.Entry.{Entry}
use Rattle.c_language.specs.declared.scope.Means.{Means}
use Rattle.c_language.specs.declared.scope.Means.TheVariants as means
use Rattle.c_language.specs.Scopes.{Scope}
use Rattle.c_language.specs.Declares.{Formed}
use Rattle.c_language.specs.Declarations.{Declared, is_extern}
use Rattle.c_language.specs.Units.{initialises}
use Rattle.c_declarations.specs.Beginnings.{Begins, filled_by, object_of}
use Rattle.c_declarations.specs.Views.{declares_as}
use Rattle.c_means.specs.Values.{bytes_of}
use Rattle.c_means.specs.declared.breach.Breach.{Breach}
use Rattle.c_means.specs.Items.{Item, Lasting, typing, with_breaches}
use Rattle.c_means.specs.Initials.{Initially, initialising_if, said_if}
use Rattle.c_means.specs.Statements.{Declaring, declared_entry, declared_item, link, name_offset}
use Rattle.c_checks.specs.Refusals.{lesser, least_of}
use Rattle.c_notes.specs.CallsTold.{told_calls}
use Rattle.c_item_notes.specs.declared.initials.InitialNotes.{InitialNotes}
use Rattle.c_item_notes.specs.declared.items.ItemNotes.{ItemNotes}
use Rattle.c_item_notes.specs.declared.items.LastingNote.{LastingNote}
use Rattle.c_item_notes.specs.Levels.{Judged, level_in}

abbrev pub lasting_note : Lasting → LastingNote
lasting_note x = record { at = x.at; entry = x.entry; size = x.size; is_defined = x.is_defined }

abbrev pub lasting_notes : List Lasting → List LastingNote
lasting_notes [] = []
lasting_notes (x ∷ xs) = lasting_note x ∷ lasting_notes xs

abbrev pub item_notes : Judged → Item → ItemNotes
item_notes j x = record {
  breach = least_of x.breaches;
  cases = x.cases;
  calls = told_calls j.profile (level_in j) x.calls;
  called = x.called;
  lasting = lasting_notes x.lasting;
  links = x.links;
}

-- with the scope behind it
pub record Summed : Type 0 where
  pub notes : ItemNotes
  pub after : Scope

abbrev pub summed_in : ItemNotes → Scope → Summed
summed_in x s = record { notes = x; after = s }

abbrev pub summed : Judged → Item → Summed
summed j x = summed_in (item_notes j x) x.after

-- ---- together

abbrev pub nothing_noted : ItemNotes
nothing_noted = record { breach = None; cases = []; calls = []; called = []; lasting = []; links = [] }

abbrev pub both : ItemNotes → ItemNotes → ItemNotes
both x y = record {
  breach = lesser x.breach y.breach;
  cases = x.cases ++ y.cases;
  calls = x.calls ++ y.calls;
  called = x.called ++ y.called;
  lasting = x.lasting ++ y.lasting;
  links = x.links ++ y.links;
}

abbrev pub breaking : Option Breach → ItemNotes → ItemNotes
breaking b x = record x { breach = lesser b x.breach }

-- ---- declarations

-- of a declared name, by what it means
abbrev pub means_notes : ℕ → Tables → Entry → Means → Bool → InitialNotes → ItemNotes
means_notes at ts e (means.Object t duration.Automatic l) defined n =
    record nothing_noted { calls = n.calls; called = n.called }
means_notes at ts e (means.Object t duration.Static l) defined n = record nothing_noted {
  breach = n.constant;
  calls = n.calls;
  lasting = record { at = at; entry = e; size = bytes_of ts (Some t); is_defined = defined } ∷ [];
  links = link e.name l;
}
means_notes at ts e (means.Function t l) defined n = record nothing_noted { links = e.name ∷ [] }
means_notes at ts e (means.Typedef t) defined n = nothing_noted
means_notes at ts e (means.Constant z) defined n = nothing_noted
means_notes at ts e means.Faulty defined n = nothing_noted

abbrev pub entry_notes : ℕ → Tables → Option Entry → Bool → InitialNotes → ItemNotes
entry_notes at ts None defined n = nothing_noted
entry_notes at ts (Some e) defined n = means_notes at ts e e.means defined n

abbrev pub declared_notes : ℕ → Bool → Declared → InitialNotes → Summed
declared_notes at defined w n =
    summed_in (breaking (least_of (typing w.faults)) (entry_notes at w.after.tables w.entry defined n)) w.after

-- a declarator with its initializer, behind specifiers of this storage class and type
abbrev pub item_as : Option StorageClass → Option CType → Formed → Option Initially → Item
item_as storage t f i =
    declared_item (name_offset f.name) (not (is_extern storage) || is_some i) i (declares_as storage t f None)
    (declares_as storage t f (said_if i))

-- from what is in force in front of its initializer
abbrev pub begun_item : ℕ → Begins → Initially → Item
begun_item at b i =
    let w = filled_by b (initialises i.says) in
    with_breaches (typing w.faults)
    (declared_entry at w.entry true (initialising_if (Some i) (object_of b.named) b.after) w.after)

-- declarators from left to right
abbrev pub and_item : Judged → Summed → Item → Summed
and_item j z x = summed_in (both z.notes (item_notes j x)) x.after

abbrev pub items_from : Judged → Option StorageClass → Option CType → Summed → List Declaring → Summed
items_from j storage t z [] = z
items_from j storage t z (x ∷ xs) =
    items_from j storage t (and_item j z (item_as storage t (x.declarator z.after) x.initial)) xs
