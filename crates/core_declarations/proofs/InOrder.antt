-- Declarators from left to right.
use Rattle.std.proofs.Common.{◌≡◌, ℕ, suc, add-one, ◌+◌, ◌<◌, ◌≤◌, List, [], ◌∷◌, map, length, drop, get_or, Option}
use Rattle.std.proofs.Common.{drop-cons, refl, sym, ap, ◌∙◌, subst}
use Rattle.std.proofs.lemmas.List.{drop_all}
use Rattle.c_language.specs.declared.expr.StorageClass.{StorageClass}
use Rattle.c_language.specs.declared.unit.InitDeclarator.{InitDeclarator}
use Rattle.c_language.specs.declared.ctype.CType.{CType}
use Rattle.c_language.specs.Scopes.{Scope}
use Rattle.c_language.specs.Declares.{Said, specified}
use Rattle.c_means.specs.Items.{followed, typing, with_breaches}
use Rattle.c_means.specs.Statements.{Declaring, declaring, declares_all}
use Rattle.elaborate.specs.Means.{Numbering}
use Rattle.c_item_notes.specs.ItemTellings.{item_as}
use Rattle.core_objects.specs.declared.begun.Begun.{Begun}
use Rattle.core_objects.specs.Begun.{IsBegun, joined, nothing_begun}
use Rattle.core_declarations.specs.Items.{AndItem, items_by}
use Rattle.core_objects.proofs.DeclaredObjects.{nothing_is, with_rules}
use Rattle.core_objects.proofs.Joining.{both_begun, joined_alone, joined_grouped}

module _ (numbering : Numbering) where
  -- ---- what was declared leads to the whole, once what is declared behind it is put there

  module _ (storage : Option StorageClass) (t : Option CType) (s : Scope) (all : List Declaring) where
    abbrev pub Leads : List Declaring → Begun → Scope → Type 0
    Leads xs y u =
        (more : Begun) (v : Scope) → IsBegun numbering more (items_by storage t xs u) v
        → IsBegun numbering (joined y more) (items_by storage t all s) v

    pub begins : (y : Begun) → y ≡ nothing_begun → Leads all y s
    begins y is = subst (λ y. Leads all y s) (sym is) (λ more v h. h)

    goes_on : (x : Declaring) (xs : List Declaring) (y z : Begun) (u v : Scope) → Leads (x ∷ xs) y u
        → AndItem numbering y (item_as storage t (x.declarator u) x.initial) z v → Leads xs z v
    goes_on x xs y z u v leads h =
        let i = item_as storage t (x.declarator u) x.initial in
        subst (λ z. Leads xs z v) (sym h.is) (λ more w g.
        subst (λ b. IsBegun numbering b (items_by storage t all s) w) (joined_grouped y h.one more)
        (leads (joined h.one more) w
        (both_begun numbering h.one more i (items_by storage t xs i.after) v w h.begun
        (subst (λ a. IsBegun numbering more (items_by storage t xs a) w) h.begun.after g))))

    ends : (xs : List Declaring) (y : Begun) (u : Scope) → xs ≡ [] → Leads xs y u
        → IsBegun numbering y (items_by storage t all s) u
    ends xs y u is leads =
        subst (λ b. IsBegun numbering b (items_by storage t all s) u) (joined_alone y)
        (leads nothing_begun u
        (subst (λ xs. IsBegun numbering nothing_begun (items_by storage t xs u) u) (sym is)
        (nothing_is numbering [] u nothing_begun refl)))

  -- ---- a loop over declarators

  cut : (xs : List InitDeclarator) (i : ℕ) (x : InitDeclarator) → i < length xs → x ≡ get_or xs i x
      → drop i xs ≡ x ∷ drop (i + 1) xs
  cut xs i x within is =
      drop-cons xs i x within
      ∙ ap (λ (z : InitDeclarator). z ∷ drop (suc i) xs) (sym is)
      ∙ ap (λ (k : ℕ). x ∷ drop k xs) (sym (add-one i))

  module _ (storage : Option StorageClass) (t : Option CType) (s : Scope) (xs : List InitDeclarator) where
    pub a_declarator : (i : ℕ) (x : InitDeclarator) (y z : Begun) (u v : Scope) → i < length xs → x ≡ get_or xs i x
        → Leads storage t s (map declaring xs) (map declaring (drop i xs)) y u
        → AndItem numbering y (item_as storage t ((declaring x).declarator u) (declaring x).initial) z v
        → Leads storage t s (map declaring xs) (map declaring (drop (i + 1) xs)) z v
    a_declarator i x y z u v within is leads h =
        goes_on storage t s (map declaring xs) (declaring x) (map declaring (drop (i + 1) xs)) y z u v
        (subst (λ ys. Leads storage t s (map declaring xs) (map declaring ys) y u) (cut xs i x within is) leads) h

    pub all_declarators : (i : ℕ) (y : Begun) (u : Scope) → length xs ≤ i
        → Leads storage t s (map declaring xs) (map declaring (drop i xs)) y u
        → IsBegun numbering y (items_by storage t (map declaring xs) s) u
    all_declarators i y u over leads =
        ends storage t s (map declaring xs) (map declaring (drop i xs)) y u (ap (map declaring) (drop_all i xs over)) leads

  -- ---- behind the specifiers

  by_said : (said : Said) (xs : List Declaring) (s : Scope)
      → items_by said.storage (specified said) xs s ≡ declares_all said xs s
  by_said said [] s = refl
  by_said said (x ∷ xs) s =
      let i = item_as said.storage (specified said) (x.declarator s) x.initial in
      ap (followed i) (by_said said xs i.after)

  pub behind_specifiers : (said : Said) (xs : List Declaring) (y : Begun) (u : Scope)
      → IsBegun numbering y (items_by said.storage (specified said) xs said.scope) u
      → IsBegun numbering y (with_breaches (typing said.faults) (declares_all said xs said.scope)) u
  behind_specifiers said xs y u h =
      with_rules numbering (typing said.faults) y (declares_all said xs said.scope) u
      (subst (λ i. IsBegun numbering y i u) (by_said said xs said.scope) h)
