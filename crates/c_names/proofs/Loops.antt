-- Loops over lists: what remains computes the whole.
use Rattle.std.proofs.Common.{◌≡◌, ℕ, suc, add-one, ◌+◌, ◌<◌, ◌≤◌, List, [], ◌∷◌, length, drop, get_or}
use Rattle.std.proofs.Common.{drop-cons, sym, ap, ◌∙◌}
use Rattle.std.proofs.lemmas.List.{drop_all}

module _ {A R W : Type 0} (g : List A → R → W) where
  pub goes-on : {step : A → R → R} → ((x : A) (xs : List A) (a : R) → g (x ∷ xs) a ≡ g xs (step x a)) →
      (xs : List A) (i : ℕ) (x y : A) (a b : R) {w : W} → i < length xs → x ≡ get_or xs i x → y ≡ x → b ≡ step y a →
      g (drop i xs) a ≡ w → g (drop (i + 1) xs) b ≡ w
  goes-on {step} steps xs i x y a b within is same said whole =
      let cut : drop i xs ≡ x ∷ drop (i + 1) xs = drop-cons xs i x within
      ∙ ap (λ (z : A). z ∷ drop (suc i) xs) (sym is) ∙ ap (λ (k : ℕ). x ∷ drop k xs) (sym (add-one i)) in
      ap (g (drop (i + 1) xs)) (said ∙ ap (λ (z : A). step z a) same) ∙ sym (steps x (drop (i + 1) xs) a)
      ∙ ap (λ (z : List A). g z a) (sym cut) ∙ whole

  pub ends : (xs : List A) (i : ℕ) (a : R) {v w : W} → g [] a ≡ v → length xs ≤ i → g (drop i xs) a ≡ w → v ≡ w
  ends xs i a none over whole = sym none ∙ ap (λ (z : List A). g z a) (sym (drop_all i xs over)) ∙ whole
