-- The tables of all keys, level by level of depth.
use Rattle.std.specs.Prelude.{◌≡◌, ◌<◌, ◌+◌, ◌++◌, ℕ, zero, suc, nat_eq, cond, List, [], ◌∷◌, length, Option, Some, slice_index_or}
use Rattle.core_tree.specs.declared.program.Function.{Function}
use Rattle.log_expr.specs.declared.table.Ends.{Ends}
use Rattle.log_expr.specs.declared.table.Entry.{Entry}
use Rattle.log_expr.specs.Tables.{ends_at}
use Rattle.term_bank.specs.declared.shape.Shape.{Shape}
use Rattle.term_bank.specs.Values.{Grows}
use Rattle.path_forms.specs.Calling.{Stays}
use Rattle.summary_compose.specs.declared.summary.Summary.{Summary}
use Rattle.path_summaries.specs.declared.table.Kept.{Kept}
use Rattle.path_summaries.specs.declared.levels.Levelled.{Levelled}
use Rattle.log_expr.specs.Tours.{Tour}
use Rattle.path_summaries.specs.Tours.{StandsFor, IsComplete, room_in}
use Rattle.path_summaries.specs.Tables.{AllStand, IsReady, HoldsRooms}

-- the key, where some run makes the call, has a summary
abbrev pub IsDone : Tour → List Shape → ℕ → ℕ → ℕ → Type 0
IsDone t b n f start = (e : Ends) → ends_at t.ends f (suc n) start ≡ Some e → (s : Summary) × StandsFor t b f n start s

-- so has each key of a row with so many levels left
abbrev pub RowDone : Tour → List Shape → ℕ → ℕ → List Entry → Type 0
RowDone t b n start [] = Unit {0}
RowDone t b n start (x ∷ xs) = (x.depth ≡ suc n → IsDone t b n x.function start) × RowDone t b n start xs

-- and each of the positions in front of one
abbrev pub AllDone : Tour → List Shape → ℕ → ℕ → Type 0
AllDone t b n i = (f start : ℕ) → start < i → IsDone t b n f start

-- what is asked of the levels below
pub record Based (t : Tour) (n : ℕ) (table : List (List Kept)) (rooms : List (Option ℕ)) (b : List Shape) : Type 0 where
  pub ready : Stays (IsReady t n table) b
  pub held : HoldsRooms t n rooms

-- ---- how many keys there are, each of which is walked once

abbrev pub one_of : ℕ → Entry → ℕ
one_of depth x = cond (nat_eq x.depth depth) 1 0

-- at a position, with so many levels
abbrev pub keys_at : ℕ → List Entry → ℕ
keys_at depth [] = 0
keys_at depth (x ∷ xs) = one_of depth x + keys_at depth xs

-- at each of the positions in front of one
abbrev pub keys_before : ℕ → List (List Entry) → ℕ → ℕ
keys_before depth rows zero = 0
keys_before depth rows (suc i) = keys_before depth rows i + keys_at depth (slice_index_or rows i [])

-- at any position, with at most so many levels
abbrev pub keys_within : ℕ → List (List Entry) → ℕ
keys_within zero rows = 0
keys_within (suc n) rows = keys_within n rows + keys_before (suc n) rows (length rows)

-- ---- what is put in, behind so many walks and so many more

-- summaries are put in, and those that stand still do
pub record Fills (t : Tour) (a b : List Shape) (old now : List (List Kept)) : Type 0 where
  pub grows : Grows a b
  pub stand : AllStand t a 0 old → AllStand t b 0 now

pub record FillsKey (t : Tour) (a b : List Shape) (n f start : ℕ) (old now : List (List Kept)) (walks walks_now : ℕ) : Type 0 where
  pub fills : Fills t a b old now
  pub done : IsDone t b n f start
  pub counted : walks_now ≡ walks + 1

pub record FillsEntry (t : Tour) (a b : List Shape) (n start : ℕ) (x : Entry) (old now : List (List Kept)) (walks walks_now : ℕ) : Type 0 where
  pub fills : Fills t a b old now
  pub done : x.depth ≡ suc n → IsDone t b n x.function start
  pub counted : walks_now ≡ walks + one_of (suc n) x

pub record FillsRow (t : Tour) (a b : List Shape) (n start : ℕ) (row : List Entry) (old now : List (List Kept)) (walks walks_now : ℕ) : Type 0 where
  pub fills : Fills t a b old now
  pub done : RowDone t b n start row
  pub counted : walks_now ≡ walks + keys_at (suc n) row

pub record FillsRows (t : Tour) (a b : List Shape) (n i : ℕ) (old now : List (List Kept)) (walks walks_now : ℕ) : Type 0 where
  pub fills : Fills t a b old now
  pub done : AllDone t b n i
  pub counted : walks_now ≡ walks + keys_before (suc n) t.ends i

-- ---- rooms

-- the rooms that are told are those of these functions, one by one
abbrev pub RoomsOf : Tour → ℕ → List Function → List (Option ℕ) → Type 0
RoomsOf t n [] rs = Unit {0}
RoomsOf t n (f ∷ fs) [] = Unit {0}
RoomsOf t n (f ∷ fs) (r ∷ rs) = ((x : ℕ) → r ≡ Some x → x ≡ room_in t n f) × RoomsOf t n fs rs

-- the rooms of these functions are put behind others
pub record PutsRooms (t : Tour) (n : ℕ) (fs : List Function) (old now : List (Option ℕ)) : Type 0 where
  pub more : List (Option ℕ)
  pub behind : now ≡ old ++ more
  pub are : RoomsOf t n fs more

-- ---- levels

-- The summaries of all keys with one level less left, and the rooms of the functions with it.
pub record IsLevelled (t : Tour) (b : List Shape) (n : ℕ) (l : Levelled) : Type 0 where
  pub stand : AllStand t b 0 l.table
  pub complete : IsComplete t b n
  pub rooms : HoldsRooms t n l.rooms

-- one level more, each key of which was walked once
pub record Climbs (t : Tour) (a b : List Shape) (n : ℕ) (l : Levelled) (walks walks_now : ℕ) : Type 0 where
  pub grows : Grows a b
  pub levelled : IsLevelled t b (suc n) l
  pub counted : walks_now ≡ walks + keys_before (suc n) t.ends (length t.ends)

-- all levels, each key of which was walked once
pub record Levels (t : Tour) (a b : List Shape) (n : ℕ) (l : Levelled) (walks walks_now : ℕ) : Type 0 where
  pub grows : Grows a b
  pub levelled : IsLevelled t b n l
  pub counted : walks_now ≡ walks + keys_within n t.ends
