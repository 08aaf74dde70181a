-- The offsets of what lives throughout the run, in the order of the source, and the objects that are made of it.
use Rattle.std.specs.Prelude.{ℕ, suc, Bool, true, false, cond, nat_eq, not, List, [], ◌∷◌, ◌++◌, map, Option, Some, None}
use Rattle.c_store.specs.declared.object.ObjectKind.TheVariants as object
use Rattle.c_language.specs.declared.tables.Tables.{Tables}
use Rattle.c_language.specs.declared.scope.Entry.{Entry}
use Rattle.c_language.specs.declared.scope.Linked.{Linked}
use Rattle.c_language.specs.Scopes.{Name, Scope, entry_in, linked_as}
use Rattle.c_means.specs.Names.{Literal}
use Rattle.c_means.specs.Programs.{Text}
use Rattle.c_means.specs.Runs.{size_of_means}
use Rattle.core_tree.specs.declared.program.LastingObject.{LastingObject}
use Rattle.core_programs.specs.Programs.{contents_if, link_objects, only_if, text_object}
use Rattle.c_item_notes.specs.declared.items.ItemNotes.{ItemNotes}
use Rattle.c_item_notes.specs.declared.items.LastingNote.{LastingNote}
use Rattle.c_names.specs.declared.summaries.Names.{Names}
use Rattle.c_reach.specs.declared.summaries.FunctionNotes.{FunctionNotes}
use Rattle.c_program_notes.specs.declared.needing.Needs.{Needs}
use Rattle.c_program_notes.specs.declared.outers.OuterNotes.{OuterNotes}
use Rattle.c_program_notes.specs.declared.outers.ProgramNotes.{ProgramNotes}

-- ---- offsets

abbrev pub lasting_list : List LastingNote → List ℕ
lasting_list [] = []
lasting_list (x ∷ xs) = x.entry.at ∷ lasting_list xs

abbrev pub literal_list : List Literal → List ℕ
literal_list [] = []
literal_list (x ∷ xs) = x.at ∷ literal_list xs

abbrev pub linked_list : List Linked → List ℕ
linked_list [] = []
linked_list (x ∷ xs) = x.at ∷ linked_list xs

abbrev pub text_list : List Text → List ℕ
text_list [] = []
text_list (x ∷ xs) = x.at ∷ text_list xs

abbrev pub linked_at : Option Linked → List ℕ
linked_at None = []
linked_at (Some x) = x.at ∷ []

abbrev pub name_list : Scope → List Name → List ℕ
name_list s [] = []
name_list s (name ∷ names) = linked_at (linked_as s name) ++ name_list s names

abbrev pub part_list : ItemNotes → Names → List ℕ
part_list n names = lasting_list n.lasting ++ literal_list names.literals

abbrev pub function_list : Option FunctionNotes → List ℕ
function_list None = []
function_list (Some f) = part_list f.body f.names

abbrev pub outer_list : OuterNotes → List ℕ
outer_list x = part_list x.item x.names ++ function_list x.function

abbrev pub outers_list : List OuterNotes → List ℕ
outers_list [] = []
outers_list (x ∷ xs) = outer_list x ++ outers_list xs

-- of all that lives throughout the run, needed or not
abbrev pub program_list : ProgramNotes → List ℕ
program_list p = outers_list p.outers ++ linked_list p.scope.linked

-- of what is made before `main` is called
abbrev pub needed_list : Scope → Needs → List ℕ
needed_list s x = name_list s x.links ++ (lasting_list x.lasting ++ text_list x.texts)

-- ---- sizes at the end of the file

abbrev pub size_at_end : Tables → LastingNote → Option Entry → ℕ
size_at_end tables x None = x.size
size_at_end tables x (Some e) =
    cond (nat_eq e.at x.entry.at) (size_of_means x.is_defined tables e.means x.size) x.size

abbrev pub final_size : Scope → LastingNote → ℕ
final_size s x = size_at_end s.tables x (entry_in s.file x.entry.name)

-- ---- objects, by the places of offsets

abbrev pub object_of : (ℕ → ℕ) → Scope → LastingNote → LastingObject
object_of place s x = record {
  place = place x.entry.at;
  kind = object.Static;
  size = final_size s x;
  contents = contents_if x.is_defined;
}

abbrev pub declared_objects : (ℕ → ℕ) → Scope → List LastingNote → List LastingObject
declared_objects place s [] = []
declared_objects place s (x ∷ xs) = only_if (not x.is_defined) (object_of place s x) (declared_objects place s xs)

abbrev pub defined_objects : (ℕ → ℕ) → Scope → List LastingNote → List LastingObject
defined_objects place s [] = []
defined_objects place s (x ∷ xs) = only_if x.is_defined (object_of place s x) (defined_objects place s xs)

abbrev pub objects : (ℕ → ℕ) → Scope → Needs → List LastingObject
objects place s x =
    link_objects place s x.links
    ++ (map (text_object place) x.texts ++ (declared_objects place s x.lasting ++ defined_objects place s x.lasting))
