-- Counting how often a place is met. A weight rises with the places; what takes the places from one to another adds
-- to the count of a place no more than the weight rises between them.
use Rattle.std.proofs.Common.{◌≡◌, ◌≤◌, ℕ, ◌+◌, List, [], ◌∷◌, ◌++◌, Ok, Err}
use Rattle.std.proofs.Common.{arith, le_refl}
use Rattle.c_means.specs.Parts.{State, Outcome, ◌>>=◌}
use Rattle.c_places.specs.Places.{times}

pub times-append : (p : ℕ) (xs ys : List ℕ) → times p (xs ++ ys) ≡ times p xs + times p ys
times-append p [] ys = omega arith
times-append p (x ∷ xs) ys = let more = times-append p xs ys in omega (arith, more)

-- ---- weights

pub record Rises (w : ℕ → ℕ) : Type 0 where
  pub more : (a b : ℕ) → a ≤ b → w a ≤ w b

-- ---- what outcomes and states add

abbrev pub met : ℕ → State → ℕ
met p d = times p d.met

-- the state behind it, or in which the run ended
abbrev pub state_of : {A : Type 0} → Outcome A → State
state_of (Ok x) = x.1
state_of (Err d) = d

-- between these weights, of what was met before
pub record AddsTo {A : Type 0} (p i j before : ℕ) (o : Outcome A) : Type 0 where
  pub holds : met p (state_of o) + i ≤ before + j

-- a step in front of others
pub bind : {A B : Type 0} (p i j k before : ℕ) (o : Outcome A) (f : A × State → Outcome B) →
    AddsTo p i j before o → ((x : A × State) → AddsTo p j k (met p x.1) (f x)) → j ≤ k → AddsTo p i k before (o >>= f)
bind p i j k before (Ok x) f first then rises = record { holds = omega (arith, first.holds, (then x).holds) }
bind p i j k before (Err d) f first then rises = record { holds = omega (arith, first.holds, rises) }

pub weaken : {A : Type 0} (p i j k before : ℕ) (o : Outcome A) → AddsTo p i j before o → j ≤ k → AddsTo p i k before o
weaken p i j k before o h rises = record { holds = omega (arith, h.holds, rises) }

-- ---- what adds nothing

abbrev pub Quiet : {A : Type 0} → ℕ → State → Outcome A → Type 0
Quiet p d o = (i : ℕ) → AddsTo p i i (met p d) o

pub quiet : {A : Type 0} (p i : ℕ) (v : A) (d : State) → AddsTo p i i (met p d) (Ok (v, d))
quiet p i v d = record { holds = le_refl _ }
