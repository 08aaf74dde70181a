-- A declarator with its initializer: the name that it declares is in force in front of the initializer (C99 6.2.1p7).
use Rattle.std.proofs.Common.{◌≡◌, ℕ, true, false, List, [], ◌∷◌, ◌++◌, Bool, not, ◌||◌, cond, Option, Some, None}
use Rattle.std.specs.Prelude.{Ok, Err}
use Rattle.std.specs.Cmp.Lexicographic.{bytes_decides}
use Rattle.std.proofs.Common.{map, refl, sym, ap, ◌∙◌}
use Rattle.std.specs.Str.{bytes_eq}
use Rattle.c_language.specs.declared.expr.Declarator.{Declarator}
use Rattle.c_language.specs.declared.expr.Specifier.{Specifier}
use Rattle.c_language.specs.declared.expr.StorageClass.{StorageClass}
use Rattle.c_language.specs.declared.ctype.CType.{CType}
use Rattle.c_language.specs.declared.scope.Entry.{Entry}
use Rattle.c_language.specs.declared.scope.Fault.{Fault}
use Rattle.c_language.specs.declared.scope.Means.{Means}
use Rattle.c_language.specs.declared.scope.Means.TheVariants as means
use Rattle.c_language.specs.Scopes.{Name, Scope, Block, declared, entry_in, last_where, look_up, linked_as}
use Rattle.c_language.specs.Scopes.{entry_over, or_else, with_entry}
use Rattle.c_language.specs.Scopes.{innermost_of, with_innermost_of}
use Rattle.c_language.specs.Typing.{NamedType}
use Rattle.c_language.specs.Declares.{Formed, Saying, formed_type, derived_from}
use Rattle.c_language.specs.Declarations.{Again, Declared, declared_again, declared_formed, declares_name}
use Rattle.c_language.specs.Declarations.{declares_linked, first_at, has_linkage, is_extern, means_of, object_type}
use Rattle.c_language.specs.Declarations.{redeclared_as}
use Rattle.c_language.specs.Trees.{declarator_says, specifier_says}
use Rattle.c_language.specs.Units.{initialises}
use Rattle.c_means.proofs.Fusion as means_fusion
use Rattle.c_declarations.specs.Beginnings.{Begins, begun, begun_again, object_of}
use Rattle.c_declarations.proofs.BegunLaws.{filled_is}
use Rattle.c_means.specs.Items.{Item, typing, with_breaches}
use Rattle.c_means.specs.Initials.{Initially, initialising_if}
use Rattle.c_means.specs.Notes.{declarator_noted, specifier_noted}
use Rattle.c_means.specs.Statements.{declared_entry, name_offset, type_in_entry}
use Rattle.c_means.proofs.RunFusion as notes_fusion
use Rattle.c_item_notes.specs.ItemTellings.{begun_item, item_as}

-- ---- the last entry of a block is found first

abbrev entry : ℕ → Name → Means → Entry
entry at name m = record { at = at; name = name; means = m }

same_bytes : (name : Name) → bytes_eq name name ≡ true
same_bytes name = (bytes_decides name name).1 refl

last_is : {A : Type 0} (f : A → Bool) (x : A) (xs : List A) (best : Option A) → f x ≡ true →
    last_where f best (xs ++ x ∷ []) ≡ Some x
last_is f x [] best h = ap (λ b. cond b (Some x) best) h
last_is f x (y ∷ xs) best h = last_is f x xs (cond (f y) (Some y) best) h

entry_found : (b : Block) (at : ℕ) (name : Name) (m : Means) →
    entry_in (with_entry (entry at name m) b) name ≡ Some (entry at name m)
entry_found b at name m = last_is (λ e. bytes_eq e.name name) (entry at name m) b.entries None (same_bytes name)

found_in : (bs : List Block) (s : Scope) (at : ℕ) (name : Name) (m : Means) → s.blocks ≡ bs →
    look_up (with_innermost_of bs (with_entry (entry at name m) (innermost_of s.file bs)) s) name
    ≡ Some (entry at name m)
found_in [] s at name m is =
    ap (λ (bs : List Block). entry_over (with_entry (entry at name m) s.file) bs name) is ∙ entry_found s.file at name m
found_in (b ∷ bs) s at name m is =
    ap (λ (e : Option Entry). or_else e (entry_over s.file bs name)) (entry_found b at name m)

pub declared_found : (at : ℕ) (name : Name) (m : Means) (s : Scope) →
    look_up (declared at name m s) name ≡ Some (entry at name m)
declared_found at name m s = found_in s.blocks s at name m refl

named_type : (at : ℕ) (name : Name) (m : Means) (s : Scope) →
    type_in_entry (look_up (declares_name at name m false s) name) ≡ object_type m
named_type at name m s = by (has_linkage m)
  where
    by : (b : Bool) →
        type_in_entry (look_up (cond b (declares_linked at name m false (linked_as s name) s) (declared at name m s)) name)
        ≡ object_type m
    by true = ap type_in_entry (declared_found (first_at at (linked_as s name)) name m s)
    by false = ap type_in_entry (declared_found at name m s)

-- ---- what is in force in front of an initializer

-- the type of the object, and the scope
abbrev Front : Declared → Begins → Type 0
Front x b = (type_in_entry x.entry ≡ object_of b.named) × (x.after ≡ b.after)

front_again : (at : ℕ) (name : Name) (again : Again) (faults more : List Fault) (s : Scope) →
    Front (redeclared_as at name again None faults s) (begun_again at name true again more s)
front_again at name None faults more s = (ap type_in_entry (declared_found at name means.Faulty s), refl)
front_again at name (Some m) faults more s = (named_type at name m s, refl)

front : (storage : Option StorageClass) (n : Option (ℕ × Name)) (t : NamedType) (faults : List Fault) (s : Scope) →
    Front (declared_formed storage n t None faults s) (begun storage n t true faults s)
front storage None t faults s = (refl, refl)
front storage (Some n) None faults s = (ap type_in_entry (declared_found n.0 n.1 means.Faulty s), refl)
front storage (Some n) (Some (Err r)) faults s = (ap type_in_entry (declared_found n.0 n.1 means.Faulty s), refl)
front storage (Some n) (Some (Ok t)) faults s =
    front_again n.0 n.1 (declared_again s n.1 (means_of storage t s n.1)) _ _ s

-- the item that a declarator is, over what its initializer fills
abbrev whole_item : ℕ → Bool → Declared → Initially → Option CType → Scope → Item
whole_item at defined w i t s =
    with_breaches (typing w.faults) (declared_entry at w.entry defined (initialising_if (Some i) t s) w.after)

defined_true : (b : Bool) → (not b || true) ≡ true
defined_true true = refl
defined_true false = refl

pub filled_item : (storage : Option StorageClass) (t : Option CType) (f : Formed) (i : Initially) →
    begun_item (name_offset f.name) (begun storage f.name (formed_type f.after.tables (derived_from f.derivations t)) true f.faults f.after) i
    ≡ item_as storage t f (Some i)
filled_item storage t f i =
    let u = formed_type f.after.tables (derived_from f.derivations t) in
    let at = name_offset f.name in
    let b = begun storage f.name u true f.faults f.after in
    let p = declared_formed storage f.name u None f.faults f.after in
    let w = declared_formed storage f.name u (Some (initialises i.says)) f.faults f.after in
    let h = front storage f.name u f.faults f.after in
    ap (λ (x : Declared). whole_item at true x i (object_of b.named) b.after)
    (filled_is storage f.name u (initialises i.says) f.faults f.after)
    ∙ ap (λ (k : Option CType). whole_item at true w i k b.after) (sym h.0)
    ∙ ap (λ (s : Scope). whole_item at true w i (type_in_entry p.entry) s) (sym h.1)
    ∙ ap (λ (d : Bool). whole_item at d w i (type_in_entry p.entry) p.after) (sym (defined_true (is_extern storage)))

-- ---- specifiers and declarators say what they say to the types

pub specifiers_are : (xs : List Specifier) → map specifier_noted xs ≡ map specifier_says xs
specifiers_are [] = refl
specifiers_are (x ∷ xs) =
    ap (λ (f : Saying). f ∷ map specifier_noted xs) (notes_fusion.specifier_same x ∙ means_fusion.specifier_same x)
    ∙ ap (λ (fs : List Saying). specifier_says x ∷ fs) (specifiers_are xs)

pub declarator_is : (d : Declarator) → declarator_noted d ≡ declarator_says d
declarator_is d = notes_fusion.declarator_same d ∙ means_fusion.declarator_same d
