-- Elements of lists by index.
use Rattle.std.proofs.Common.{◌≡◌, ◌<◌, ◌≤◌, ◌+◌, ℕ, zero, suc, List, [], ◌∷◌, ◌++◌, length, Some, refl, sym, ap, subst, arith, get_or, take}
use Rattle.std.proofs.lemmas.List.{take_more}
use Rattle.std.proofs.lemmas.List.Elements.{All-append}
use Rattle.std.proofs.lemmas.Option.{get_or_from_slice_get, slice_get_within}
use Rattle.std.specs.Prelude.{map, max, slice_get}
use Rattle.std.specs.List.{All}

pub some_same : {X : Type 0} (x y : X) → Some x ≡ Some y → x ≡ y
some_same x y e = cc

pub all_at : {X : Type 0} (P : X → Type 0) (xs : List X) (i : ℕ) (x : X) → All P xs → slice_get xs i ≡ Some x → P x
all_at P xs i x h e = subst P (get_or_from_slice_get xs i x x e) (h i x (slice_get_within xs i x e))

pub all_one : {X : Type 0} (P : X → Type 0) (x : X) → P x → All P (x ∷ [])
all_one P x p zero d h = p
all_one P x p (suc k) d h = absurd (omega (arith, h))

-- an element of a list whose elements were made by a function
pub record IsMadeOf {X Y : Type 0} (f : X → Y) (xs : List X) (i : ℕ) (y : Y) : Type 0 where
  pub from : X
  pub at : slice_get xs i ≡ Some from
  pub is : y ≡ f from

pub made_at : {X Y : Type 0} (f : X → Y) (xs : List X) (i : ℕ) (y : Y) → slice_get (map f xs) i ≡ Some y → IsMadeOf f xs i y
made_at f [] i y e = absurd (cc)
made_at f (x ∷ xs) zero y e = record { from = x; at = refl; is = sym (some_same (f x) y e) }
made_at f (x ∷ xs) (suc i) y e = let m = made_at f xs i y e in record { from = m.from; at = m.at; is = m.is }

get_or_map : {X Y : Type 0} (f : X → Y) (xs : List X) (k : ℕ) (d : X) → get_or (map f xs) k (f d) ≡ f (get_or xs k d)
get_or_map f [] k d = refl
get_or_map f (x ∷ xs) zero d = refl
get_or_map f (x ∷ xs) (suc k) d = get_or_map f xs k d

length_map : {X Y : Type 0} (f : X → Y) (xs : List X) → length (map f xs) ≡ length xs
length_map f [] = refl
length_map f (x ∷ xs) = ap suc (length_map f xs)

pub all_of_made : {X Y : Type 0} (f : X → Y) (P : Y → Type 0) (xs : List X) → All P (map f xs) → All (λ x. P (f x)) xs
all_of_made f P xs h k d less = subst P (get_or_map f xs k d) (h k (f d) (omega (arith, less, length_map f xs)))

pub all_more : {X : Type 0} (P : X → Type 0) (xs : List X) (n : ℕ) (d : X) → n < length xs → All P (take n xs)
    → P (get_or xs n d) → All P (take (n + 1) xs)
all_more P xs n d h all p =
    subst (All P) (sym (take_more xs n d h)) (All-append P (take n xs) (get_or xs n d ∷ []) all (all_one P (get_or xs n d) p))

pub get_end : {X : Type 0} (xs : List X) (x : X) → slice_get (xs ++ x ∷ []) (length xs) ≡ Some x
get_end [] x = refl
get_end (y ∷ ys) x = get_end ys x

pub take_whole : {X : Type 0} (xs : List X) → take (length xs) xs ≡ xs
take_whole [] = refl
take_whole (x ∷ xs) = ap (λ l. x ∷ l) (take_whole xs)

pub take_left : {X : Type 0} (xs ys : List X) (n : ℕ) → n ≤ length xs → take n (xs ++ ys) ≡ take n xs
take_left xs ys zero h = refl
take_left [] ys (suc n) h = absurd (omega (arith, h))
take_left (x ∷ xs) ys (suc n) h = ap (λ l. x ∷ l) (take_left xs ys n (omega (arith, h)))

pub map_append : {X Y : Type 0} (f : X → Y) (xs ys : List X) → map f (xs ++ ys) ≡ map f xs ++ map f ys
map_append f [] ys = refl
map_append f (x ∷ xs) ys = ap (λ l. f x ∷ l) (map_append f xs ys)

pub longer : {X : Type 0} (xs ys : List X) → length xs ≤ length (xs ++ ys)
longer [] ys = omega arith
longer (x ∷ xs) ys = omega (arith, longer xs ys)

pub length_end : {X : Type 0} (xs : List X) (x : X) → length (xs ++ x ∷ []) ≡ suc (length xs)
length_end [] x = refl
length_end (y ∷ ys) x = ap suc (length_end ys x)

pub at_most : (a b c : ℕ) → a ≤ c → b ≤ c → max a b ≤ c
at_most a b c h k = omega (arith, h, k)

pub length_taken : {X : Type 0} (xs : List X) (n : ℕ) → n < length xs → length (take n xs) ≡ n
length_taken xs zero h = refl
length_taken [] (suc n) h = absurd (omega (arith, h))
length_taken (x ∷ xs) (suc n) h = ap suc (length_taken xs n (omega (arith, h)))
