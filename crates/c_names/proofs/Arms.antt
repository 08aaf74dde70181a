-- What the steps of the code have put on the stack, as the names of the tree of those parts.
use Rattle.std.proofs.Common.{◌≡◌, ℕ, zero, suc, ◌≤◌, List, [], ◌∷◌, map, drop, length, Result, OnOk, refl, sym, ap, ◌∙◌}
use Rattle.std.proofs.lemmas.Result.{on_ok_weaker}
use Rattle.c_means.specs.Names.{Names, none, ◌then◌, all, all_of}
use Rattle.c_names.specs.Working.{with_last, with_two, joined, joined_times, put_each}
use Rattle.c_names.proofs.Loops.{ends}
use Rattle.c_names.proofs.NamesOf.{all_of_is}

-- the last step's result is handed on
pub made : {A E : Type 0} (r : Result A E) (a b c : List Names) → OnOk r (a ≡ b) → b ≡ c → OnOk r (a ≡ c)
made r a b c said is = on_ok_weaker r (λ (h : a ≡ b). h ∙ is) said

-- what was read through an owner, or from a list's slice
pub top : {A : Type 0} (f : A → Names) {s a : List Names} {x y : A} → s ≡ f x ∷ a → x ≡ y → s ≡ f y ∷ a
top f {a = a} said is = said ∙ ap (λ z. f z ∷ a) is

pub named : {v w : Names} {a : List Names} → w ≡ v → (v ∷ a) ≡ (w ∷ a)
named {a = a} is = sym (ap (λ z. z ∷ a) is)

pub last : (h : Names → Names) {s a : List Names} {x : Names} → s ≡ x ∷ a → with_last h s ≡ h x ∷ a
last h said = ap (with_last h) said

pub two : (h : Names → Names → Names) {s t a : List Names} {x y : Names} → s ≡ x ∷ a → t ≡ y ∷ s →
    with_two h t ≡ h x y ∷ a
two h {y = y} first second = ap (with_two h) second ∙ ap (λ z. with_two h (y ∷ z)) first

pub join-two : {s t a : List Names} {x y : Names} → s ≡ x ∷ a → t ≡ y ∷ s → joined t ≡ (x then y) ∷ a
join-two first second = two (λ x y. x then y) first second

times_last : (n : ℕ) (z : List Names) → joined_times (suc n) z ≡ joined (joined_times n z)
times_last zero z = refl
times_last (suc n) z = times_last n (joined z)

module _ {A : Type 0} (f : A → Names) where
  each_joined : (xs : List A) (a : List Names) →
      joined_times (length xs) (none ∷ put_each f xs a) ≡ all (map f xs) ∷ a
  each_joined [] a = refl
  each_joined (x ∷ xs) a =
      times_last (length xs) (none ∷ put_each f xs (f x ∷ a)) ∙ ap joined (each_joined xs (f x ∷ a))

  pub put_all : (xs : List A) (i : ℕ) (s a : List Names) → length xs ≤ i →
      put_each f (drop i xs) s ≡ put_each f xs a → joined_times (length xs) (none ∷ s) ≡ all (map f xs) ∷ a
  put_all xs i s a over whole =
      ap (λ (z : List Names). joined_times (length xs) (none ∷ z))
      (ends (λ (ys : List A) (z : List Names). put_each f ys z) xs i s refl over whole)
      ∙ each_joined xs a

  pub put_all_of : (xs : List A) (i : ℕ) (s a : List Names) → length xs ≤ i →
      put_each f (drop i xs) s ≡ put_each f xs a → joined_times (length xs) (none ∷ s) ≡ all_of f xs ∷ a
  put_all_of xs i s a over whole = put_all xs i s a over whole ∙ ap (λ (z : Names). z ∷ a) (all_of_is f xs)
