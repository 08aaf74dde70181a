-- A map from bytes, read at any bytes.
use Rattle.std.proofs.Common.{◌≡◌, sym, subst, ◌∙◌, ℕ, List, Bool, true, false, cond, Option}
use Rattle.std.specs.Str.{bytes_eq}
use Rattle.std.specs.Cmp.Lexicographic.{bytes_decides, nat_list_eq_equiv}
use Rattle.std.specs.HashMap.{HashMap}
use Rattle.std.specs.HashMap as hash
use Rattle.std.specs.Global.{Vec}
use Rattle.std.specs.Map.{lookup, IsKeyTest, AreApart, KeepsOthers}
use Rattle.std.proofs.lemmas.Bool.{cases_Bool, cond-true, cond-false}
use mathlib.Core.Logic.{⊎_elim}

module _ {X S : Type 0} (bs : List ℕ) (m n : HashMap (Vec ℕ) X S) where
  abbrev at_bytes : HashMap (Vec ℕ) X S → List ℕ → Option X
  at_bytes map cs = hash.get_by (λ k. bytes_eq cs k.items) map

  others : KeepsOthers (λ (x y : Vec ℕ). bytes_eq x.items y.items) (λ (k : Vec ℕ). bytes_eq bs k.items) m.entries n.entries
      → (other : Vec ℕ → Bool) → IsKeyTest (λ (x y : Vec ℕ). bytes_eq x.items y.items) other → AreApart (λ (k : Vec ℕ). bytes_eq bs k.items) other
      → lookup other n.entries ≡ lookup other m.entries
  unfolding KeepsOthers
  others h = h

  apart : (cs ks : List ℕ) → bytes_eq bs cs ≡ false → bytes_eq bs ks ≡ true → bytes_eq cs ks ≡ false
  apart cs ks n y = nat_list_eq_equiv.symm cs ks ∙ sym (nat_list_eq_equiv.congr bs ks cs y) ∙ n

  pub at_other_bytes : (w : Option X) → hash.UpdatesBy (λ x y. bytes_eq x.items y.items) (λ k. bytes_eq bs k.items) m n w
      → (cs : List ℕ) → at_bytes n cs ≡ cond (bytes_eq bs cs) w (at_bytes m cs)
  at_other_bytes w h cs = ⊎_elim
      (λ y. subst (λ l. at_bytes n l ≡ w) ((bytes_decides bs cs).0 y) h.1 ∙ sym (cond-true (bytes_eq bs cs) w (at_bytes m cs) y))
      (λ e. others h.3 (λ k. bytes_eq cs k.items) (λ x y. nat_list_eq_equiv.congr cs x.items y.items) (λ k. apart cs k.items e) ∙ sym (cond-false (bytes_eq bs cs) w (at_bytes m cs) e))
      (cases_Bool (bytes_eq bs cs))
