-- What initializers say, in terms of what stands in them.
use Rattle.std.proofs.Common.{◌≡◌, ℕ, List, [], ◌∷◌, Bool, map, cond, Option, Some, None, refl, ap, sym, ◌∙◌}
use Rattle.c_language.specs.declared.expr.Expr.{Expr}
use Rattle.c_language.specs.declared.unit.Initializer.{Initializer, fold-roll-Initializer}
use Rattle.c_language.specs.declared.unit.Initializer.TheOpen as initial_open
use Rattle.c_language.specs.declared.unit.Initializer.TheVariants as initial
use Rattle.c_language.specs.declared.unit.Initializer.TheVariants.{rolls-Value as rolls-Initializer-Value}
use Rattle.c_language.specs.declared.unit.Initializer.TheVariants.{rolls-List as rolls-Initializer-List}
use Rattle.c_language.specs.declared.unit.InitializerItem.{InitializerItem, fold-roll-InitializerItem}
use Rattle.c_language.specs.declared.ctype.CType.{CType}
use Rattle.c_language.specs.Scopes.{Scope}
use Rattle.c_language.specs.Initials.{
  Fills,
  Filling,
  Frame,
  Found,
  InitialSaid,
  value_says,
  list_says,
  item_says,
  fills_list,
  fills_all,
  fills_value,
  fills_found,
  braced_text,
  is_braced_text,
  descends,
  most_levels,
  with_part_left,
  filling_of,
  started,
}
use Rattle.c_language.specs.Typing.{Typed}
use Rattle.c_language.specs.Trees.{typed}
use Rattle.c_language.specs.Units.{initial_says, initial_by, initial_step, item_step, designated}
use Rattle.c_initials.specs.Filled.{Filled, filling_in, no_filling}
use Rattle.c_initials.specs.Said.{item_fills, goes_on, opened, closed}

pub says_value : (value : Expr) → initial_says (initial.Value value) ≡ value_says {E = Expr} typed value
unfolding initial_by item_fills
says_value value =
    ap initial_says (sym (rolls-Initializer-Value value))
    ∙ fold-roll-Initializer InitialSaid Fills (initial_step typed) (item_step typed) (initial_open.Value value)

pub says_list : (at : ℕ) (items : List InitializerItem) (trailing : Bool) →
    initial_says (initial.List at items trailing) ≡ list_says at (map item_fills items)
unfolding initial_by item_fills
says_list at items trailing =
    ap initial_says (sym (rolls-Initializer-List at items trailing))
    ∙ fold-roll-Initializer InitialSaid Fills (initial_step typed) (item_step typed) (initial_open.List at items trailing)

pub says_item : (x : InitializerItem) →
    item_fills x ≡ item_says {E = Expr} typed (map designated x.designators) (initial_says x.value)
unfolding initial_by item_fills
says_item x =
    fold-roll-InitializerItem InitialSaid Fills (initial_step typed) (item_step typed)
    (record { designators = x.designators; value = x.value })

-- a list for a part of its own is between what it begins with and where the braces go on
pub within : (at : ℕ) (fs : List Fills) (frames : List Frame) (y : Filled) (s : Scope) →
    fills_list at fs frames (filling_in y s)
    ≡ closed (goes_on s.tables frames y.high) (fills_all fs (filling_in (opened at s.tables frames y) s))
within at fs [] y s = refl
within at fs (f ∷ gs) y s = refl

abbrev found_in : Typed → Filled → Found
found_in x f = descends most_levels x.after.tables x (with_part_left x.after.tables f.frames)

pub value_fills : (x : Initializer) (value : Expr) (y : Filling) → x ≡ initial.Value value
    → (initial_says x).fills y ≡ fills_value (typed value y.scope) y
value_fills x value y e = ap (λ (i : Initializer). (initial_says i).fills y) e ∙ ap (λ (s : InitialSaid). s.fills y) (says_value value)

pub list_fills : (x : Initializer) (at : ℕ) (items : List InitializerItem) (trailing : Bool) (y : Filling)
    → x ≡ initial.List at items trailing
    → (initial_says x).fills y ≡ fills_list at (map item_fills items) (with_part_left y.scope.tables y.frames) y
list_fills x at items trailing y e =
    ap (λ (i : Initializer). (initial_says i).fills y) e ∙ ap (λ (s : InitialSaid). s.fills y) (says_list at items trailing)

pub list_of : (x : Initializer) (at : ℕ) (items : List InitializerItem) (trailing : Bool) (t : CType) (s : Scope)
    → x ≡ initial.List at items trailing
    → filling_of (initial_says x) t s ≡ fills_all (map item_fills items)
    (filling_in (record no_filling { frames = started (record { type = t; offset = 0 }) ∷ [] }) s)
list_of x at items trailing t s e =
    ap (λ (i : Initializer). filling_of (initial_says i) t s) e
    ∙ ap (λ (i : InitialSaid). filling_of i t s) (says_list at items trailing)

braced_free : (x : Typed) (fs : List Frame) (f : Filled) (s t : Scope)
    → braced_text fs x (filling_in f s) ≡ braced_text fs x (filling_in f t)
braced_free x [] f s t = refl
braced_free x (g ∷ fs) f s t = refl

found_free : (x : Typed) (found : Found) (f : Filled) (s t : Scope)
    → fills_found x found (filling_in f s) ≡ fills_found x found (filling_in f t)
found_free x None f s t = refl
found_free x (Some p) f s t = refl

-- the scope before an expression is of no account behind it
pub scope_free : (x : Typed) (f : Filled) (s t : Scope)
    → fills_value x (filling_in f s) ≡ fills_value x (filling_in f t)
scope_free x f s t =
    ap (λ (y : Filling). cond (is_braced_text f.frames x) y (fills_found x (found_in x f) (filling_in f s)))
    (braced_free x f.frames f s t)
    ∙ ap (λ (y : Filling). cond (is_braced_text f.frames x) (braced_text f.frames x (filling_in f t)) y)
    (found_free x (found_in x f) f s t)

-- a list for a part has frames of its own
pub frames_free : (at : ℕ) (fs : List Fills) (frames hs : List Frame) (y : Filling)
    → fills_list at fs frames (record y { frames = hs }) ≡ fills_list at fs frames y
frames_free at fs [] hs y = refl
frames_free at fs (f ∷ gs) hs y = refl
