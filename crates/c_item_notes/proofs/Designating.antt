-- Designators (C99 6.7.8p6): the scopes in which their indices stand.
use Rattle.std.proofs.Common.{◌≡◌, ℕ, ℤ, List, [], ◌∷◌, Option, Some, None, map, refl, sym, ap, ◌∙◌}
use Rattle.c_language.specs.declared.expr.Expr.{Expr}
use Rattle.c_language.specs.declared.unit.Designator.{Designator}
use Rattle.c_language.specs.declared.unit.Designator.TheVariants as designator
use Rattle.c_language.specs.declared.ctype.CType.{CType}
use Rattle.c_language.specs.Scopes.{Name, Scope}
use Rattle.c_language.specs.Typing.{Typed}
use Rattle.c_language.specs.Trees.{typed}
use Rattle.c_language.specs.Units as units
use Rattle.c_language.specs.Initials.{Filling, Frame, designates, designated_further, designated_by, goes_into}
use Rattle.c_language.specs.Initials.{at_number, to_member, to_constant, to_element, outermost}
use Rattle.c_means.specs.Notes.{ExprNoted, noted, typed_as}
use Rattle.c_means.specs.Initials.{designated, indices}
use Rattle.c_notes.proofs.Parts.{noted_typed}
use Rattle.c_item_notes.specs.declared.initials.InitialNotes.{InitialNotes}
use Rattle.c_item_notes.specs.Levels.{Judged}
use Rattle.c_item_notes.specs.InitialTellings.{see, seen_in}

-- ---- what is noted of an index says to the types what the index says

abbrev pub by_tree : List Designator → Filling → Filling
by_tree ds y = designated_by {E = Expr} typed (map units.designated ds) y

abbrev pub by_notes : List Designator → Filling → Filling
by_notes ds y = designated_by {E = ExprNoted} typed_as (map designated ds) y

same_designates : (d : Designator) (y : Filling) →
    designates {E = Expr} typed (units.designated d) y ≡ designates {E = ExprNoted} typed_as (designated d) y
same_designates (designator.Member at member) y = refl
same_designates (designator.Element at index) y =
    ap (λ (t : Typed). to_element at t y) (sym (noted_typed index y.scope))

same_further : (ds : List Designator) (y : Filling) →
    designated_further {E = Expr} typed (map units.designated ds) y
    ≡ designated_further {E = ExprNoted} typed_as (map designated ds) y
same_further [] y = refl
same_further (d ∷ ds) y =
    let z = goes_into y.frames y in
    same_further ds (designates {E = Expr} typed (units.designated d) z)
    ∙ ap (λ (w : Filling). designated_further {E = ExprNoted} typed_as (map designated ds) w) (same_designates d z)

pub same_by : (ds : List Designator) (y : Filling) → by_tree ds y ≡ by_notes ds y
same_by [] y = refl
same_by (d ∷ ds) y =
    let z : Filling = record y { frames = outermost y.frames } in
    same_further ds (designates {E = Expr} typed (units.designated d) z)
    ∙ ap (λ (w : Filling). designated_further {E = ExprNoted} typed_as (map designated ds) w) (same_designates d z)

-- ---- only indices change the scope

number_scope : (at : ℕ) (n : Option ℕ) (fs : List Frame) (y : Filling) → (at_number at n fs y).scope ≡ y.scope
number_scope at None fs y = refl
number_scope at (Some i) [] y = refl
number_scope at (Some i) (f ∷ fs) y = refl

member_scope : (at : ℕ) (name : Name) (fs : List Frame) (y : Filling) → (to_member at name fs y).scope ≡ y.scope
member_scope at name [] y = refl
member_scope at name (f ∷ fs) y = number_scope at _ (f ∷ fs) y

constant_scope : (at : ℕ) (t : Option CType) (z : Option ℤ) (fs : List Frame) (y : Filling) →
    (to_constant at t z fs y).scope ≡ y.scope
constant_scope at None z fs y = refl
constant_scope at (Some t) None fs y = refl
constant_scope at (Some t) (Some z) [] y = refl
constant_scope at (Some t) (Some z) (f ∷ fs) y = number_scope at _ (f ∷ fs) y

element_scope : (at : ℕ) (x : Typed) (y : Filling) → (to_element at x y).scope ≡ x.after
element_scope at x y = constant_scope at _ _ y.frames _

into_scope : (fs : List Frame) (y : Filling) → (goes_into fs y).scope ≡ y.scope
into_scope [] y = refl
into_scope (f ∷ fs) y = refl

-- from what a designator begins with
see_one : (j : Judged) (d : Designator) (ds : List Designator) (n : InitialNotes) (s : Scope) (z : Filling) → z.scope ≡ s →
    see j (indices (map designated (d ∷ ds))) (seen_in n s)
    ≡ see j (indices (map designated ds)) (seen_in n (designates {E = ExprNoted} typed_as (designated d) z).scope)
see_one j (designator.Member at member) ds n s z is =
    ap (λ (t : Scope). see j (indices (map designated ds)) (seen_in n t)) (sym (member_scope at member z.frames z ∙ is))
see_one j (designator.Element at index) ds n s z is =
    ap (λ (t : Scope). see j (indices (map designated ds)) (seen_in n t))
    (ap (λ (t : Scope). (noted index t).part.typed.after) (sym is)
    ∙ sym (element_scope at (noted index z.scope).part.typed z))

see_further : (j : Judged) (ds : List Designator) (n : InitialNotes) (y : Filling) →
    see j (indices (map designated ds)) (seen_in n y.scope)
    ≡ seen_in n (designated_further {E = ExprNoted} typed_as (map designated ds) y).scope
see_further j [] n y = refl
see_further j (d ∷ ds) n y =
    let z = goes_into y.frames y in
    see_one j d ds n y.scope z (into_scope y.frames y)
    ∙ see_further j ds n (designates {E = ExprNoted} typed_as (designated d) z)

pub see_by : (j : Judged) (ds : List Designator) (n : InitialNotes) (y : Filling) →
    see j (indices (map designated ds)) (seen_in n y.scope) ≡ seen_in n (by_notes ds y).scope
see_by j [] n y = refl
see_by j (d ∷ ds) n y =
    let z : Filling = record y { frames = outermost y.frames } in
    see_one j d ds n y.scope z refl
    ∙ see_further j ds n (designates {E = ExprNoted} typed_as (designated d) z)
