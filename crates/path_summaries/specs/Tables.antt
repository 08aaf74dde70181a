-- Tables of summaries, by the positions from which they are.
use Rattle.std.specs.Prelude.{◌≡◌, ℕ, suc, List, [], ◌∷◌, length, Bool, true, false, Option, Some, None, slice_get}
use Rattle.core_tree.specs.declared.program.Core.{Core}
use Rattle.core_tree.specs.declared.program.Function.{Function}
use Rattle.log_expr.specs.declared.table.Ends.{Ends}
use Rattle.log_expr.specs.Sound.{IsSound}
use Rattle.term_bank.specs.declared.shape.Shape.{Shape}
use Rattle.path_summaries.specs.declared.table.Kept.{Kept}
use Rattle.log_expr.specs.Tours.{Tour}
use Rattle.path_summaries.specs.Tours.{StandsFor, IsComplete, room_in}

-- each summary of a row stands for its function and depth from this position on
abbrev pub RowStands : Tour → List Shape → ℕ → List Kept → Type 0
RowStands t b start [] = Unit {0}
RowStands t b start (k ∷ ks) = StandsFor t b k.function k.left start k.summary × RowStands t b start ks

abbrev pub AllStand : Tour → List Shape → ℕ → List (List Kept) → Type 0
AllStand t b start [] = Unit {0}
AllStand t b start (row ∷ rows) = RowStands t b start row × AllStand t b (suc start) rows

-- ---- rooms

-- the room that is told is that of its function with so many levels left below it
abbrev pub AreRooms : Tour → ℕ → List (Option ℕ) → Type 0
AreRooms t n rs = (g r : ℕ) (f : Function) → slice_get rs g ≡ Some (Some r) → slice_get t.core.functions g ≡ Some f → r ≡ room_in t n f

-- of the functions that are called with so many levels left
abbrev pub HoldsRooms : Tour → ℕ → List (Option ℕ) → Type 0
HoldsRooms t n rs = (m : ℕ) → n ≡ suc m → AreRooms t m rs

-- ---- what a level asks of the bank

pub record IsReady (t : Tour) (n : ℕ) (table : List (List Kept)) (b : List Shape) : Type 0 where
  pub sound : IsSound t.core t.log t.limits t.depth t.ends
  pub stand : AllStand t b 0 table
  pub complete : IsComplete t b n

-- the function of this number has so many parameters
pub record Counts (p : Core) (f n : ℕ) : Type 0 where
  pub function : Function
  pub is : slice_get p.functions f ≡ Some function
  pub count : n ≡ length function.parameters

abbrev pub has_ends : Option Ends → Bool
has_ends None = false
has_ends (Some e) = true
