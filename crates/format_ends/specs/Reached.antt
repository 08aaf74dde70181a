-- The positions that a format reaches, piece by piece, where a text that stands behind them may be left to the next piece.
use Rattle.std.specs.Prelude.{◌≡◌, ◌+◌, ◌≤◌, ◌<◌, ℕ, zero, suc, Bool, true, false, if◌then◌else◌, nat_lt, ◌&&◌, ◌==◌, List, [], ◌∷◌, length, take, drop, slice_index}
use Rattle.positions.specs.Sets.{has}
use Rattle.format_match.specs.Splits.{begins}
use Rattle.format_match.specs.Spelled.{may_end}

-- ---- texts

-- the first position from which a text reaches this one: behind the last byte 0 in front of it
abbrev pub text_start : List ℕ → ℕ → ℕ
text_start log zero = 0
text_start log (suc n) = if slice_index log n == 0 then suc n else text_start log n

-- that of each position of a log
pub record AreStarts (log starts : List ℕ) : Type 0 where
  pub long : length starts ≡ length log + 1
  pub are : (at : ℕ) → at ≤ length log → slice_index starts at ≡ text_start log at

-- the positions below a number that pass a test
abbrev pub passing : (ℕ → Bool) → ℕ → List ℕ
passing test zero = []
passing test (suc n) = if test n then n ∷ passing test n else passing test n

-- where texts end from some of these positions on
abbrev pub text_ends : List ℕ → List ℕ → List ℕ
text_ends log before = passing (may_end before log) (length log + 1)

-- these positions, or where texts end from some of them on
abbrev pub reached : List ℕ → Bool → List ℕ → List ℕ
reached log true before = text_ends log before
reached log false before = before

-- ---- where bytes stand

-- exactly the positions of a log at which the bytes stand
abbrev pub StandExactly : List ℕ → List ℕ → List ℕ → Type 0
StandExactly bytes log stops = (at : ℕ) → has stops at ≡ (nat_lt at (length log + 1) && begins bytes (drop at log))

-- a text from one of these positions ends at a stop, and so many bytes behind it is the end
pub record EndsAtStop (log before stops : List ℕ) (len end : ℕ) : Type 0 where
  pub stop : ℕ
  pub stands : has stops stop ≡ true
  pub text : may_end before log stop ≡ true
  pub is : end ≡ stop + len

-- so many of the positions stand up to a stop, and the others behind it
pub record IsPassed (before : List ℕ) (stop passed : ℕ) : Type 0 where
  pub within : passed ≤ length before
  pub below : (y : ℕ) → has (take passed before) y ≡ true → y ≤ stop
  pub above : (y : ℕ) → has (drop passed before) y ≡ true → stop < y
