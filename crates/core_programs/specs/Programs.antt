-- What it is to be the core of a whole program: its functions, what is made before `main` is called, and `main`.
use Rattle.std.specs.Prelude.{◌≡◌, ℕ, suc, Bool, true, false, List, [], ◌∷◌, ◌++◌, length, map, not, Option, Some, None}
use Rattle.c_store.specs.declared.object.ObjectKind.TheVariants as object
use Rattle.c_language.specs.declared.scope.Entry.{Entry}
use Rattle.c_language.specs.declared.scope.Linked.{Linked}
use Rattle.c_language.specs.Scopes.{Name, Scope, entry_in, linked_as}
use Rattle.c_means.specs.Parts.{State, Env}
use Rattle.c_means.specs.Parts as c
use Rattle.c_means.specs.Items.{Lasting}
use Rattle.c_means.specs.Items as runs
use Rattle.c_means.specs.Programs.{Function, Text, Needs, needs_of}
use Rattle.c_means.specs.Rules.{identity_index}
use Rattle.c_means.specs.Runs as whole
use Rattle.core_tree.specs.declared.program.Contents.{Contents}
use Rattle.core_tree.specs.declared.program.Contents.TheVariants as contents
use Rattle.core_tree.specs.declared.program.Core.{Core}
use Rattle.core_tree.specs.declared.program.LastingObject.{LastingObject}
use Rattle.core_tree.specs.declared.program.LastingSetting.{LastingSetting}
use Rattle.core_tree.specs.States.{Output, plain, Level, running}
use Rattle.core_tree.specs.Programs.{Body, Machine, machine, turns_in}
use Rattle.core_tree.specs.Programs as core
use Rattle.elaborate.specs.Means.{as_done, Numbering, Like, IsBodyOf, IsMachineOf}
use Rattle.core_programs.specs.Quiet.{IsLast}

-- ---- what is made before `main` is called, in order

abbrev pub function_object : ℕ → LastingObject
function_object place = record { place = place; kind = object.Static; size = 0; contents = contents.World }

abbrev pub maybe_function : (ℕ → ℕ) → Option Linked → List LastingObject → List LastingObject
maybe_function place None xs = xs
maybe_function place (Some x) xs = function_object (place x.at) ∷ xs

-- of names with linkage: a function is an object of size 0, and so begins an object, until it is made itself
abbrev pub link_objects : (ℕ → ℕ) → Scope → List Name → List LastingObject
link_objects place s [] = []
link_objects place s (name ∷ names) = maybe_function place (linked_as s name) (link_objects place s names)

-- of string literals (C99 6.4.5p5)
abbrev pub text_object : (ℕ → ℕ) → Text → LastingObject
text_object place x = record {
  place = place x.at;
  kind = object.Literal;
  size = suc (length x.bytes);
  contents = contents.Text x.bytes;
}

-- an object that is defined begins with zeros; what is only declared has the bytes that the world gives
abbrev pub contents_if : Bool → Contents
contents_if true = contents.Zero
contents_if false = contents.World

abbrev pub object_of : whole.Machine → Lasting → LastingObject
object_of m x = record {
  place = whole.places_of m.program x.entry.at;
  kind = object.Static;
  size = whole.final_size m.program x (entry_in m.program.scope.file x.entry.name);
  contents = contents_if x.is_defined;
}

abbrev pub only_if : {A : Type 0} → Bool → A → List A → List A
only_if true x xs = x ∷ xs
only_if false x xs = xs

abbrev pub declared_objects : whole.Machine → List Lasting → List LastingObject
declared_objects m [] = []
declared_objects m (x ∷ xs) = only_if (not x.is_defined) (object_of m x) (declared_objects m xs)

abbrev pub defined_objects : whole.Machine → List Lasting → List LastingObject
defined_objects m [] = []
defined_objects m (x ∷ xs) = only_if x.is_defined (object_of m x) (defined_objects m xs)

abbrev pub objects_of : whole.Machine → Needs → List LastingObject
objects_of m x =
    let place = whole.places_of m.program in
    link_objects place m.program.scope x.links
    ++ (map (text_object place) x.texts ++ (declared_objects m x.lasting ++ defined_objects m x.lasting))

-- the places that are met then
abbrev pub met_by : whole.Machine → Needs → List ℕ
met_by m x =
    map (whole.places_of m.program) (whole.name_offsets m.program.scope x.links
    (whole.lasting_offsets x.lasting (whole.text_offsets x.texts [])))

-- ---- initializers

-- where no function runs, a call is one too many, whatever function it calls
abbrev pub no_calls : (ℕ → ℕ) → (Name → Option ℕ) → Numbering
no_calls place identity = record { place = place; identity = identity; body = λ g. Some 0; rule = λ g. None }

-- in a function that calls none
abbrev pub without_calls : (ℕ → ℕ) → (Name → Option ℕ) → Numbering
without_calls place identity = record { place = place; identity = identity; body = λ g. None; rule = λ g. None }

-- what these set where no function runs is what the initializer of an object does, which prints nothing
pub record AreSettings (numbering : Numbering) (xs : List LastingSetting) (x : Lasting) : Type 0 where
  pub set : (l : c.Level) (k : Level Output) → IsLast l k → Like numbering l k → (d : State)
      → running (core.sets_all xs k) (as_done d) ≡ Some (as_done (runs.running (x.set l) d))
  pub prints : (l : c.Level) (k : Level Output) → IsLast l k → (d : State)
      → (runs.running (x.set l) d).printed ≡ d.printed

abbrev pub AllSettings : Numbering → List (List LastingSetting) → List Lasting → Type 0
AllSettings numbering [] [] = Unit {0}
AllSettings numbering (xs ∷ xss) (y ∷ ys) = AreSettings numbering xs y × AllSettings numbering xss ys
AllSettings numbering _ _ = ⊥

-- in initializers of what lives throughout the run
abbrev pub bare_numbering : whole.Machine → Numbering
bare_numbering m = no_calls (whole.places_of m.program) (identity_index m.profile)

abbrev pub joined : List (List LastingSetting) → List LastingSetting
joined [] = []
joined (xs ∷ xss) = xs ++ joined xss

pub record IsStartOf (m : whole.Machine) (p : Core) (x : Needs) : Type 0 where
  pub met : p.met ≡ met_by m x
  pub objects : p.objects ≡ objects_of m x
  pub settings : List (List LastingSetting)
  pub are_set : p.settings ≡ joined settings
  pub set : AllSettings (bare_numbering m) settings x.lasting

-- ---- `main`

abbrev pub HasArguments : Bool → List Entry → Type 0
HasArguments true (e ∷ f ∷ []) = Unit {0}
HasArguments true _ = ⊥
HasArguments false (e ∷ f ∷ []) = ⊥
HasArguments false _ = Unit {0}

-- its number is that of the core of its body
pub record IsMainOf (numbering : Function → Numbering) (m : whole.Machine) (p : Core) (k : Machine Output) :
    Type 0 where
  pub function : Function
  pub is_main : whole.main_of m ≡ Some function
  pub body : Body Output
  pub found : k.body p.main ≡ Some body
  pub item : runs.Item
  pub is_body : IsBodyOf (numbering function) body function item
  pub turns : turns_in k.limits body.function ≡ m.limits.turns
  pub arguments : HasArguments p.has_arguments function.parameters

-- ---- programs

abbrev pub machine_for : whole.Machine → Core → Machine Output
machine_for m p = machine plain p m.world m.limits m.depth

-- the core of a program, as it runs in a world and bounds
pub record IsCoreOf (numbering : Function → Numbering) (m : whole.Machine) (p : Core) : Type 0 where
  pub functions : IsMachineOf numbering m (machine_for m p)
  pub start : IsStartOf m p (needs_of m.profile m.program)
  pub places : p.places ≡ length (whole.offsets_of m.program)
  pub main : IsMainOf numbering m p (machine_for m p)
