-- Designators (C99 6.7.8p6) initialise nothing themselves.
use Rattle.std.proofs.Common.{◌≡◌, ℕ, ℤ, List, [], ◌∷◌, ◌++◌, Option, Some, None, map, refl, ◌∙◌}
use Rattle.c_language.specs.declared.expr.Expr.{Expr}
use Rattle.c_language.specs.declared.ctype.CType.{CType}
use Rattle.c_language.specs.Scopes.{Name}
use Rattle.c_language.specs.Typing.{type_of, constant_of, not_constant}
use Rattle.c_language.specs.Trees.{typed}
use Rattle.c_language.specs.Units as units
use Rattle.c_language.specs.Initials.{Designates, ToMember, ToElement, Filling, Frame, designates, designated_further}
use Rattle.c_language.specs.Initials.{designated_by, goes_into, at_number, to_member, to_constant, outermost}
use Rattle.c_language.specs.declared.unit.Designator.{Designator}
use Rattle.c_item_notes.proofs.Designating.{by_tree}

number_parts : (at : ℕ) (n : Option ℕ) (fs : List Frame) (y : Filling) → (at_number at n fs y).parts ≡ y.parts
number_parts at None fs y = refl
number_parts at (Some i) [] y = refl
number_parts at (Some i) (f ∷ fs) y = refl

member_parts : (at : ℕ) (name : Name) (fs : List Frame) (y : Filling) → (to_member at name fs y).parts ≡ y.parts
member_parts at name [] y = refl
member_parts at name (f ∷ fs) y = number_parts at _ (f ∷ fs) y

constant_parts : (at : ℕ) (t : Option CType) (z : Option ℤ) (fs : List Frame) (y : Filling)
    → (to_constant at t z fs y).parts ≡ y.parts
constant_parts at None z fs y = refl
constant_parts at (Some t) None fs y = refl
constant_parts at (Some t) (Some z) [] y = refl
constant_parts at (Some t) (Some z) (f ∷ fs) y = number_parts at _ (f ∷ fs) y

into_parts : (fs : List Frame) (y : Filling) → (goes_into fs y).parts ≡ y.parts
into_parts [] y = refl
into_parts (f ∷ fs) y = refl

one_parts : (d : Designates Expr) (y : Filling) → (designates {E = Expr} typed d y).parts ≡ y.parts
one_parts (ToMember at name) y = member_parts at name y.frames y
one_parts (ToElement at e) y =
    let x = typed e y.scope in
    constant_parts at (type_of x) (constant_of x) y.frames
    (record y { faults = y.faults ++ x.faults ++ not_constant x; scope = x.after })

further_parts : (ds : List (Designates Expr)) (y : Filling) → (designated_further {E = Expr} typed ds y).parts ≡ y.parts
further_parts [] y = refl
further_parts (d ∷ ds) y =
    let z = goes_into y.frames y in
    further_parts ds (designates {E = Expr} typed d z) ∙ one_parts d z ∙ into_parts y.frames y

all_parts : (ds : List (Designates Expr)) (y : Filling) → (designated_by {E = Expr} typed ds y).parts ≡ y.parts
all_parts [] y = refl
all_parts (d ∷ ds) y =
    let z : Filling = record y { frames = outermost y.frames } in
    further_parts ds (designates {E = Expr} typed d z) ∙ one_parts d z

pub designated_parts : (ds : List Designator) (y : Filling) → (by_tree ds y).parts ≡ y.parts
designated_parts ds y = all_parts (map units.designated ds) y
