-- Open variables, and which of them comes first.
use Rattle.std.specs.Prelude.{◌≡◌, ◌<◌, ◌≤◌, ◌+◌, ◌-◌, ◌*◌, ◌^◌, ◌&&◌, ◌||◌, ℕ, Bool, true, false, cond, nat_lt, nat_eq, List, Some, length, slice_get, slice_index_or, vec_len}
use Rattle.cdcl.specs.declared.ranking.Ranking.{Ranking}

-- a variable's mark
abbrev pub mark_of : List ℕ → ℕ → ℕ
mark_of marks v = slice_index_or marks v 0

-- it has the greater mark, or an equal one and the lesser number
abbrev pub is_before : List ℕ → ℕ → ℕ → Bool
is_before marks v w = nat_lt (mark_of marks w) (mark_of marks v) || (nat_eq (mark_of marks v) (mark_of marks w) && nat_lt v w)

-- the variable has no value
abbrev pub IsUnset : List Bool → ℕ → Type 0
IsUnset unset v = slice_get unset v ≡ Some true

-- more variables, which are open; variable 0 is none
pub record IsGrown (room : ℕ) (old new : List Bool) : Type 0 where
  pub size : length new ≡ room
  pub none : IsUnset new 0 → ⊥
  pub same : (v : ℕ) → v < length old → IsUnset new v → IsUnset old v
  pub stays : (v : ℕ) → IsUnset old v → IsUnset new v
  pub more : (v : ℕ) → length old ≤ v → 1 ≤ v → v < room → IsUnset new v

-- an open variable, before which no open one comes
pub record IsFirst (unset : List Bool) (marks : List ℕ) (r : ℕ) : Type 0 where
  pub unset_too : IsUnset unset r
  pub none_before : (v : ℕ) → IsUnset unset v → is_before marks v r ≡ false

-- of two variables the one that comes before, where 0 is none
abbrev pub first_of : List ℕ → ℕ → ℕ → ℕ
first_of marks a b = cond (nat_eq b 0) a (cond (nat_eq a 0 || is_before marks b a) b a)

-- the variable of a leaf, where it is open, or 0
abbrev pub leaf_at : List Bool → ℕ → ℕ
leaf_at unset v = cond (slice_index_or unset v false) v 0

-- the first variable below a node: behind the inner nodes come the leaves
abbrev pub first_at : List Bool → List ℕ → ℕ → ℕ
first_at unset firsts node = cond (nat_lt node (length firsts)) (slice_index_or firsts node 0) (leaf_at unset (node - length firsts))

pub record HasSizes (r : Ranking) : Type 0 where
  pub activities : vec_len r.activities ≡ vec_len r.unset
  pub firsts : vec_len r.firsts ≡ vec_len r.unset
  pub small : vec_len r.unset ≤ 2 ^ 31

-- the node has the first one of those below its two nodes
abbrev pub IsRight : Ranking → ℕ → Type 0
IsRight r i = slice_index_or r.firsts.items i 0 ≡ first_of r.activities.items (first_at r.unset.items r.firsts.items (2 * i)) (first_at r.unset.items r.firsts.items (2 * i + 1))

-- each node but this one is right, and variable 0 is none
pub record IsRankedBut (node : ℕ) (r : Ranking) : Type 0 where
  pub sizes : HasSizes r
  pub none : IsUnset r.unset.items 0 → ⊥
  pub right : (i : ℕ) → 1 ≤ i → i < vec_len r.firsts → (i ≡ node → ⊥) → IsRight r i

-- each node is right
abbrev pub IsRanked : Ranking → Type 0
IsRanked r = IsRankedBut 0 r
