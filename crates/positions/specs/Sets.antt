-- Sets of positions, as lists in ascending order.
use Rattle.std.specs.Prelude.{◌≡◌, ◌+◌, ◌-◌, ◌<◌, ◌≤◌, ℕ, Bool, true, ◌&&◌, ◌||◌, nat_lt, nat_eq, List, [], ◌∷◌, length, take, drop}
use Rattle.std.specs.List.{list_any, list_all}

-- the position is one of them
abbrev pub has : List ℕ → ℕ → Bool
has xs x = list_any (λ y. nat_eq y x) xs

-- each stands before those behind it
abbrev pub ascends : List ℕ → Bool
ascends [] = true
ascends (x ∷ xs) = list_all (λ y. nat_lt x y) xs && ascends xs

-- all stand before this one
abbrev pub are_before : ℕ → List ℕ → Bool
are_before y xs = list_all (λ x. nat_lt x y) xs

-- what is left of two sets from an index on each
abbrev pub left : List ℕ → ℕ → List ℕ → ℕ → ℕ → Bool
left xs i ys j y = has (drop i xs) y || has (drop j ys) y

-- the least that is left, and the indices behind it
pub record IsNext (xs : List ℕ) (i : ℕ) (ys : List ℕ) (j least i' j' : ℕ) : Type 0 where
  pub fewer : (length xs - i') + (length ys - j') < (length xs - i) + (length ys - j)
  pub same : (y : ℕ) → left xs i ys j y ≡ (nat_eq least y || left xs i' ys j' y)
  pub above : (y : ℕ) → left xs i' ys j' y ≡ true → least < y

-- what was put at the end of one set stands before what is left of two
pub record Merges (xs ys : List ℕ) (out : List ℕ) (i j : ℕ) : Type 0 where
  pub same : (y : ℕ) → (has out y || left xs i ys j y) ≡ (has xs y || has ys y)
  pub below : (y : ℕ) → left xs i ys j y ≡ true → are_before y out ≡ true

-- so many stand before a position, and the others don't
pub record IsIndexOf (xs : List ℕ) (position index : ℕ) : Type 0 where
  pub within : index ≤ length xs
  pub before : are_before position (take index xs) ≡ true
  pub behind : (y : ℕ) → has (drop index xs) y ≡ true → position ≤ y
