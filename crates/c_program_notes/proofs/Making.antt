-- One object more, and those behind it.
use Rattle.std.proofs.Common.{◌≡◌, ℕ, Bool, true, false, not, List, [], ◌∷◌, ◌++◌, Option, Some, None, refl}
use Rattle.c_language.specs.declared.scope.Linked.{Linked}
use Rattle.c_language.specs.Scopes.{Scope}
use Rattle.core_tree.specs.declared.program.LastingObject.{LastingObject}
use Rattle.core_programs.specs.Programs.{maybe_function, only_if}
use Rattle.c_item_notes.specs.declared.items.LastingNote.{LastingNote}
use Rattle.c_program_notes.specs.Placed.{declared_objects, defined_objects, object_of}

pub function_then : (place : ℕ → ℕ) (x : Option Linked) (xs : List LastingObject) →
    maybe_function place x xs ≡ maybe_function place x [] ++ xs
function_then place None xs = refl
function_then place (Some x) xs = refl

only_then : {A : Type 0} (b : Bool) (x : A) (xs : List A) → only_if b x xs ≡ only_if b x [] ++ xs
only_then true x xs = refl
only_then false x xs = refl

pub declared_then : (place : ℕ → ℕ) (s : Scope) (x : LastingNote) (xs : List LastingNote) →
    declared_objects place s (x ∷ xs) ≡ declared_objects place s (x ∷ []) ++ declared_objects place s xs
declared_then place s x xs = only_then (not x.is_defined) (object_of place s x) (declared_objects place s xs)

pub defined_then : (place : ℕ → ℕ) (s : Scope) (x : LastingNote) (xs : List LastingNote) →
    defined_objects place s (x ∷ xs) ≡ defined_objects place s (x ∷ []) ++ defined_objects place s xs
defined_then place s x xs = only_then x.is_defined (object_of place s x) (defined_objects place s xs)
