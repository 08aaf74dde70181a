-- The objects that code gives to its block.
use Rattle.std.proofs.Common.{◌≡◌, ℕ, ◌+◌, List, [], ◌∷◌, ◌++◌, Option, Some, None, refl, sym, ap, ap₂, ◌∙◌, arith}
use Rattle.std.proofs.Common.{append_assoc, append-nil}
use Rattle.std.specs.Prelude.{option_map, Result, Ok, Err, OnOk}
use Rattle.core_tree.specs.declared.code.Code.{Code}
use Rattle.core_tree.specs.declared.expr.Expr.{Expr}
use Rattle.core_tree.specs.States.{Measures}
use Rattle.core_tree.specs.Values.{value}
use Rattle.core_tree.specs.Codes.{Item, code, return_of}
use Rattle.path_arrows.specs.declared.objects.Object.{Object}
use Rattle.path_arrows.specs.Objects.{made_at}
use Rattle.path_rooms.specs.Births.{Gives}
use Rattle.path_rooms.specs.Rooms.{item_of, code_room}

pub on_ok : {A E : Type 0} {P Q : Type 0} (r : Result A E) → (P → Q) → OnOk r P → OnOk r Q
on_ok (Ok x) f p = f p
on_ok (Err e) f p = tt

-- what an item gives from a place on, by what it is
pub given_by : (m : Measures) (x y : Item ℕ) (base : ℕ) → x ≡ y → x.objects m base ≡ y.objects m base
given_by m x y base h = ap (λ (z : Item ℕ). z.objects m base) h

made_push : (base : ℕ) (xs : List Object) (x : Object)
    → made_at base (xs ++ x ∷ []) ≡ made_at base xs ++ record { at = x.at; place = base + x.offset; size = x.size } ∷ []
made_push base [] x = refl
made_push base (y ∷ xs) x =
    ap (λ ms. record { at = y.at; place = base + y.offset; size = y.size } ∷ ms) (made_push base xs x)

module _ (m : Measures) (x : Item ℕ) (place : ℕ) where
  -- nothing is added
  pub gives_none : (all : List Object) → ((base : ℕ) → x.objects m base ≡ []) → Gives m x place all all
  gives_none all h = record {
    is = λ base. sym (append-nil (made_at base all)) ∙ ap (λ ms. made_at base all ++ ms) (sym (h (base + place)));
  }

  -- one object is added
  pub gives_one : (all now : List Object) (at size : ℕ) → now ≡ all ++ record { at = at; offset = place; size = size } ∷ []
      → ((base : ℕ) → x.objects m base ≡ record { at = at; place = base; size = size } ∷ []) → Gives m x place all now
  gives_one all now at size h is = record {
    is = λ base.
        ap (λ l. made_at base l) h ∙ made_push base all (record { at = at; offset = place; size = size })
        ∙ ap (λ ms. made_at base all ++ ms) (sym (is (base + place)));
  }

  -- what a part adds
  pub gives_part : (all now : List Object) (y : Item ℕ) → ((base : ℕ) → x.objects m base ≡ y.objects m base)
      → Gives m y place all now → Gives m x place all now
  gives_part all now y h g = record {
    is = λ base. g.is base ∙ ap (λ ms. made_at base all ++ ms) (sym (h (base + place)));
  }

pub return_gives : (m : Measures) (e : Option Expr) (base : ℕ) → (return_of {O = ℕ} (option_map value e)).objects m base ≡ []
return_gives m None base = refl
return_gives m (Some e) base = refl

pub gives_both : (m : Measures) (all some now : List Object) (c : Code) (cs : List Code) (place next : ℕ)
    → next ≡ place + code_room m c → Gives m (code c) place all some → Gives m (item_of cs) next some now
    → Gives m (item_of (c ∷ cs)) place all now
gives_both m all some now c cs place next is h k = record {
  is = λ base.
      k.is base
      ∙ ap₂ (λ ms n. ms ++ (item_of cs).objects m n) (h.is base) (sum base place (code_room m c) next is)
      ∙ append_assoc (made_at base all) ((code {O = ℕ} c).objects m (base + place))
      ((item_of cs).objects m ((base + place) + code_room m c));
} where
  sum : (base place room next : ℕ) → next ≡ place + room → base + next ≡ (base + place) + room
  sum base place room next h = omega (arith, h)
