-- A declarator, and a whole declaration, from what the code has found of it.
use Rattle.std.proofs.Common.{◌≡◌, ℕ, true, false, List, [], Bool, cond, not, ◌||◌, map, Option, Some, None, refl}
use Rattle.std.proofs.Common.{sym, ap, ◌∙◌, subst}
use Rattle.c_language.specs.declared.expr.StorageClass.{StorageClass}
use Rattle.c_language.specs.declared.unit.Declaration.{Declaration}
use Rattle.c_language.specs.declared.ctype.CType.{CType}
use Rattle.c_language.specs.declared.scope.Duration.TheVariants as duration
use Rattle.c_language.specs.declared.scope.Entry.{Entry}
use Rattle.c_language.specs.declared.scope.Fault.{Fault}
use Rattle.c_language.specs.declared.scope.Means.{Means}
use Rattle.c_language.specs.declared.scope.Means.TheVariants as means
use Rattle.c_language.specs.Scopes.{Name, Scope, empty, declared, linked_as, look_up}
use Rattle.c_language.specs.Initials.{Filling, filling_of}
use Rattle.c_language.specs.Declares.{Said, Saying, Formed, derived_from, formed_type, said_by, specified}
use Rattle.c_language.specs.Declarations.{Declared, Initialised, completed_by, declares_linked, declares_name, first_at}
use Rattle.c_language.specs.Declarations.{has_linkage, initialised_by, is_extern}
use Rattle.c_language.specs.Trees.{specifier_says}
use Rattle.c_language.specs.Units.{initialises, initialised}
use Rattle.c_declarations.specs.declared.beginnings.NamedMeans.{NamedMeans}
use Rattle.c_declares.specs.declared.said.Said.{Said as Held}
use Rattle.c_declares.specs.Views.{said_in}
use Rattle.c_declarations.specs.Beginnings.{Begins, begun, filled, object_of, plainly}
use Rattle.c_declarations.specs.Views.{declares_as}
use Rattle.c_declarations.proofs.BegunLaws.{plainly_is}
use Rattle.c_declarations.proofs.Wholes.{specified_free}
use Rattle.c_initials.specs.Filled.{Filled, filling_in}
use Rattle.c_means.specs.Items.{Item, typing, with_breaches}
use Rattle.c_means.specs.Initials as initials
use Rattle.c_means.specs.Initials.{Initially, initialising, initialising_if, uninitialised}
use Rattle.c_means.specs.Notes.{specifier_noted}
use Rattle.c_means.specs.Statements.{declaring, declaration, declares_all, is_alone, name_offset}
use Rattle.c_item_notes.specs.ItemTellings.{begun_item, item_as}
use Rattle.c_item_notes.proofs.Declaring.{declared_found, filled_item, specifiers_are}
use Rattle.elaborate.specs.Means.{Numbering}
use Rattle.core_objects.specs.declared.begun.Begun.{Begun}
use Rattle.core_objects.specs.Begun.{IsBegun}
use Rattle.core_objects.specs.declared.given.Initial.{Initial}
use Rattle.core_objects.specs.Given.{IsGivenTo, IsInitial}
use Rattle.core_declarations.specs.Items.{IsGivenIf, IsInitialOf, declared_as, items_by, lasts, lasts_as}
use Rattle.core_declarations.proofs.InOrder.{behind_specifiers}

-- ---- what is given to what is declared

module _ (n : Numbering) (y : Initial) (x : initials.Initial) where
  -- an array whose length the initializer gives is initialised as it was before
  completed_initial : (length : Option ℕ) (m : Means) → IsInitial m n y x → IsInitial (completed_by length m) n y x
  completed_initial length m h = record { zeroed = h.zeroed; given = by m h.given }
    where
      by : (m : Means) → IsGivenTo m n y x → IsGivenTo (completed_by length m) n y x
      by (means.Object t duration.Automatic l) g = g
      by (means.Object t duration.Static l) g = g
      by (means.Function t l) g = tt
      by (means.Typedef t) g = tt
      by (means.Constant z) g = tt
      by means.Faulty g = tt

  given_to : (m : Means) → IsGivenIf (lasts_as m) n y x → IsGivenTo m n y x
  given_to (means.Object t duration.Automatic l) h = h
  given_to (means.Object t duration.Static l) h = h
  given_to (means.Function t l) h = tt
  given_to (means.Typedef t) h = tt
  given_to (means.Constant z) h = tt
  given_to means.Faulty h = tt

  -- the name is in force behind its declaration
  found_initial : (at : ℕ) (name : Name) (m : Means) (defines : Bool) (s : Scope) → IsInitial m n y x
      → IsInitialOf (look_up (declares_name at name m defines s) name) n y x
  found_initial at name m defines s h = by (has_linkage m)
    where
      by : (b : Bool)
          → IsInitialOf
          (look_up (cond b (declares_linked at name m defines (linked_as s name) s) (declared at name m s)) name) n y x
      by true = subst (λ o. IsInitialOf o n y x) (sym (declared_found (first_at at (linked_as s name)) name m s)) h
      by false = subst (λ o. IsInitialOf o n y x) (sym (declared_found at name m s)) h

  pub filled_initial : (b : Option NamedMeans) (faults : List Fault) (r : Initialised) → y.is_zeroed ≡ x.is_zeroed
      → IsGivenIf (lasts b) n y x → IsInitialOf (filled b faults r).entry n y x
  filled_initial None faults r zeroed h = tt
  filled_initial (Some b) faults r zeroed h =
      found_initial b.at b.name (completed_by r.length b.means) true r.after
      (completed_initial r.length b.means (record { zeroed = zeroed; given = given_to b.means h }))

  -- whatever is declared
  pub any_initial : (o : Option Entry) → ((m : Means) → IsInitial m n y x) → IsInitialOf o n y x
  any_initial None h = tt
  any_initial (Some e) h = h e.means

-- ---- with an initializer

-- by the type of the object that it fills
abbrev by_object : ℕ → Begins → Initially → Option CType → Item
by_object at b i o =
    declared_as at true (filled b.named b.faults (initialised_by (initialises i.says) o b.after))
    (initialising_if (Some i) o b.after)

object_item : (at : ℕ) (b : Begins) (i : Initially) (t : CType) (f : Filled) (s1 : Scope) → object_of b.named ≡ Some t
    → filling_in f s1 ≡ filling_of i.says t b.after
    → declared_as at true (filled b.named b.faults (record { length = Some f.high; faults = f.faults; after = s1 }))
    (initialising i t b.after) ≡ begun_item at b i
object_item at b i t f s1 e says =
    ap (λ (y : Filling). declared_as at true (filled b.named b.faults (initialised y)) (initialising i t b.after)) says
    ∙ ap (by_object at b i) (sym e)

module _ (n : Numbering) where
  pub object_begun : (at : ℕ) (b : Begins) (i : Initially) (t : CType) (f : Filled) (s1 : Scope) (w : Declared) (y : Begun)
      (u : Scope) → object_of b.named ≡ Some t → filling_in f s1 ≡ filling_of i.says t b.after
      → w ≡ filled b.named b.faults (record { length = Some f.high; faults = f.faults; after = s1 })
      → IsBegun n y (declared_as at true w (initialising i t b.after)) u → IsBegun n y (begun_item at b i) u
  object_begun at b i t f s1 w y u e says is h =
      subst (λ j. IsBegun n y j u)
      (ap (λ (w : Declared). declared_as at true w (initialising i t b.after)) is ∙ object_item at b i t f s1 e says) h

  -- what is no object is not initialised
  pub unfilled_begun : (at : ℕ) (b : Begins) (i : Initially) (w : Declared) (y : Begun) (u : Scope)
      → object_of b.named ≡ None → w ≡ filled b.named b.faults (record { length = None; faults = []; after = b.after })
      → IsBegun n y (declared_as at true w uninitialised) u → IsBegun n y (begun_item at b i) u
  unfilled_begun at b i w y u e is h =
      subst (λ j. IsBegun n y j u)
      (ap (λ (w : Declared). declared_as at true w uninitialised) is ∙ ap (by_object at b i) (sym e)) h

  pub filled_begun : (storage : Option StorageClass) (t : Option CType) (f : Formed) (i : Initially) (b : Begins)
      (y : Begun) (u : Scope)
      → b ≡ begun storage f.name (formed_type f.after.tables (derived_from f.derivations t)) true f.faults f.after
      → IsBegun n y (begun_item (name_offset f.name) b i) u → IsBegun n y (item_as storage t f (Some i)) u
  filled_begun storage t f i b y u is h =
      subst (λ j. IsBegun n y j u)
      (ap (λ (b : Begins). begun_item (name_offset f.name) b i) is ∙ filled_item storage t f i) h

  -- ---- without one

  or_false : (b : Bool) → not b ≡ (not b || false)
  or_false true = refl
  or_false false = refl

  pub plain_begun : (storage : Option StorageClass) (t : Option CType) (f : Formed) (b : Begins) (y : Begun) (u : Scope)
      → b ≡ begun storage f.name (formed_type f.after.tables (derived_from f.derivations t)) false f.faults f.after
      → IsBegun n y (declared_as (name_offset f.name) (not (is_extern storage)) (plainly b) uninitialised) u
      → IsBegun n y (item_as storage t f None) u
  plain_begun storage t f b y u is h =
      let at = name_offset f.name in
      subst (λ j. IsBegun n y j u)
      (ap (λ (b : Begins). declared_as at (not (is_extern storage)) (plainly b) uninitialised) is
      ∙ ap (λ (w : Declared). declared_as at (not (is_extern storage)) w uninitialised)
      (plainly_is storage f.name (formed_type f.after.tables (derived_from f.derivations t)) f.faults f.after)
      ∙ ap (λ (d : Bool). declared_as at d (declares_as storage t f None) uninitialised) (or_false (is_extern storage))) h

  -- ---- a whole declaration

  pub whole_begun : (d : Declaration) (s t : Scope) (said : Held) (alone : Bool) (y : Begun) (u : Scope)
      → said_in said t ≡ said_by (map specifier_says d.specifiers) alone [] s
      → alone ≡ is_alone (map declaring d.declarators)
      → IsBegun n y (items_by said.storage (specified (said_in said empty)) (map declaring d.declarators) t) u
      → IsBegun n y (declaration d s) u
  whole_begun d s t said alone y u e f h =
      let xs = map declaring d.declarators in
      let said_noted : List Saying → Bool → Said = λ ss b. said_by ss b [] s in
      subst (λ (a : Said). IsBegun n y (with_breaches (typing a.faults) (declares_all a xs a.scope)) u)
      (e ∙ ap (λ (ss : List Saying). said_noted ss alone) (sym (specifiers_are d.specifiers))
      ∙ ap (λ (b : Bool). said_noted (map specifier_noted d.specifiers) b) f)
      (behind_specifiers n (said_in said t) xs y u
      (subst (λ (o : Option CType). IsBegun n y (items_by said.storage o xs t) u) (specified_free said empty t) h))
