-- A map from bytes, read at any bytes, and the last of a list.
use Rattle.std.proofs.Common.{◌≡◌, refl, ap, sym, subst, ◌∙◌, ℕ, List, [], ◌∷◌, ◌++◌, reverse, Bool, true, false, cond, Option, Some, None}
use Rattle.std.specs.Str.{bytes_eq}
use Rattle.std.specs.Cmp.Lexicographic.{bytes_decides, nat_list_eq_equiv}
use Rattle.std.specs.HashMap.{HashMap}
use Rattle.std.specs.HashMap as hash
use Rattle.std.specs.Global.{Vec}
use Rattle.std.specs.Map.{lookup, IsKeyTest, AreApart, KeepsOthers}
use Rattle.std.proofs.lemmas.List.{reverse-append}
use Rattle.std.proofs.lemmas.Bool.{cases_Bool, cond-true, cond-false}
use Rattle.c_language.specs.Scopes.{last_where}
use mathlib.Core.Logic.{⊎_elim}

module _ {X S : Type 0} (bs : List ℕ) (m n : HashMap (Vec ℕ) X S) where
  abbrev at_bytes : HashMap (Vec ℕ) X S → List ℕ → Option X
  at_bytes map cs = hash.get_by (λ k. bytes_eq cs k.items) map

  others : KeepsOthers (λ (x y : Vec ℕ). bytes_eq x.items y.items) (λ (k : Vec ℕ). bytes_eq bs k.items) m.entries n.entries
      → (other : Vec ℕ → Bool) → IsKeyTest (λ (x y : Vec ℕ). bytes_eq x.items y.items) other
      → AreApart (λ (k : Vec ℕ). bytes_eq bs k.items) other → lookup other n.entries ≡ lookup other m.entries
  unfolding KeepsOthers
  others h = h

  apart : (cs ks : List ℕ) → bytes_eq bs cs ≡ false → bytes_eq bs ks ≡ true → bytes_eq cs ks ≡ false
  apart cs ks n y = nat_list_eq_equiv.symm cs ks ∙ sym (nat_list_eq_equiv.congr bs ks cs y) ∙ n

  pub at_other_bytes : (w : Option X)
      → hash.UpdatesBy (λ x y. bytes_eq x.items y.items) (λ k. bytes_eq bs k.items) m n w
      → (cs : List ℕ) → at_bytes n cs ≡ cond (bytes_eq bs cs) w (at_bytes m cs)
  at_other_bytes w h cs = ⊎_elim
      (λ y. subst (λ l. at_bytes n l ≡ w) ((bytes_decides bs cs).0 y) h.1
      ∙ sym (cond-true (bytes_eq bs cs) w (at_bytes m cs) y))
      (λ e. others h.3 (λ k. bytes_eq cs k.items) (λ x y. nat_list_eq_equiv.congr cs x.items y.items) (λ k. apart cs k.items e)
      ∙ sym (cond-false (bytes_eq bs cs) w (at_bytes m cs) e))
      (cases_Bool (bytes_eq bs cs))

pub last_snoc : {A : Type 0} (f : A → Bool) (best : Option A) (xs : List A) (x : A)
    → last_where f best (xs ++ x ∷ []) ≡ cond (f x) (Some x) (last_where f best xs)
last_snoc f best [] x = refl
last_snoc f best (y ∷ ys) x = last_snoc f (cond (f y) (Some y) best) ys x

-- an outermost block behind those that are read backwards
pub reverse_snoc : {A : Type 0} (xs : List A) (x : A) → reverse (xs ++ x ∷ []) ≡ x ∷ reverse xs
reverse_snoc xs x = rw reverse-append refl

-- a map from names to the last of each name, when one more is put at the list's end
pub last_by_name : {A S : Type 0} (name_of : A → List ℕ) (x y : A) (bs : List ℕ) (xs ys : List A)
    (m n : HashMap (Vec ℕ) A S) → bs ≡ name_of x → y ≡ x
    → hash.UpdatesBy (λ x y. bytes_eq x.items y.items) (λ k. bytes_eq bs k.items) m n (Some y) → ys ≡ xs ++ x ∷ []
    → ((name : List ℕ) → hash.get_by (λ k. bytes_eq name k.items) m
    ≡ last_where (λ x. bytes_eq (name_of x) name) None xs)
    → (name : List ℕ) → hash.get_by (λ k. bytes_eq name k.items) n ≡ last_where (λ x. bytes_eq (name_of x) name) None ys
last_by_name name_of x y bs xs ys m n named same h longer known name =
    at_other_bytes bs m n (Some y) h name
    ∙ ap (λ o. cond (bytes_eq bs name) (Some y) o) (known name)
    ∙ ap (λ b. cond (bytes_eq b name) (Some y) (last_where (λ x. bytes_eq (name_of x) name) None xs)) named
    ∙ ap (λ z. cond (bytes_eq (name_of x) name) (Some z) (last_where (λ x. bytes_eq (name_of x) name) None xs)) same
    ∙ sym (last_snoc (λ x. bytes_eq (name_of x) name) None xs x)
    ∙ ap (λ zs. last_where (λ x. bytes_eq (name_of x) name) None zs) (sym longer)
