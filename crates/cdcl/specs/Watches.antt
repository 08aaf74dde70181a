-- Clauses that wait at two of their literals, and what this gives.
use Rattle.std.specs.Prelude.{◌≡◌, ◌<◌, ◌⊎◌, ◌+◌, ◌++◌, ◌∷◌, ℕ, cond, List, [], Option, Some, None, slice_get, vec_len}
use Rattle.std.specs.Global.{Vec}
use Rattle.cnf_core.specs.Literal.{Literal, same, code_of}
use Rattle.cdcl.specs.declared.clauses.ClauseId.{ClauseId}
use Rattle.cdcl.specs.declared.clauses.ClauseId.TheVariants.{Given, Assumed, Learnt}
use Rattle.cdcl.specs.declared.watching.Watch.{Watch}
use Rattle.cdcl.specs.declared.watching.Pair.{Pair}
use Rattle.cdcl.specs.declared.watching.Watches.{Watches}
use Rattle.cdcl.specs.Known.{Member}

abbrev pub list_of : Option (Vec Watch) → List Watch
list_of None = []
list_of (Some list) = list.items

-- the clauses that wait at the literal of a code
abbrev pub waiting : Watches → ℕ → List Watch
waiting w code = list_of (slice_get w.lists.items code)

-- the two literals at which a clause waits
abbrev pub pair_of : Watches → ClauseId → Option Pair
pair_of w (Given i) = slice_get w.given.items i
pair_of w (Assumed i) = None
pair_of w (Learnt i) = slice_get w.learnt.items i

-- the watches have a place for the clause's two literals
abbrev pub HasPlace : Watches → ClauseId → Type 0
HasPlace w (Given i) = i < vec_len w.given
HasPlace w (Assumed i) = ⊥
HasPlace w (Learnt i) = i < vec_len w.learnt

-- the literal beside this one
abbrev pub beside : Pair → Literal → Literal
beside p l = cond (same p.first l) p.second p.first

-- the same lists, and places for the same clauses
pub record SameSizes (old new : Watches) : Type 0 where
  pub lists : vec_len new.lists ≡ vec_len old.lists
  pub given : vec_len new.given ≡ vec_len old.given
  pub learnt : vec_len new.learnt ≡ vec_len old.learnt

-- one more watch, at the end of a list
pub record IsMore (code : ℕ) (watch : Watch) (old new : Watches) : Type 0 where
  pub here : waiting new code ≡ waiting old code ++ watch ∷ []
  pub others : (k : ℕ) → (k ≡ code → ⊥) → waiting new k ≡ waiting old k
  pub sizes : SameSizes old new

-- the pairs of all clauses but this one
abbrev pub OtherPairs : ClauseId → Watches → Watches → Type 0
OtherPairs id old new = (other : ClauseId) → (other ≡ id → ⊥) → pair_of new other ≡ pair_of old other

-- the clause is in the list
abbrev pub IsIn : List Watch → ClauseId → Type 0
IsIn list id = (k : ℕ) × (w : Watch) × (slice_get list k ≡ Some w) × (w.id ≡ id)

-- a clause that waits at these two literals as well
pub record IsWaiting (id : ClauseId) (first second : Literal) (old new : Watches) : Type 0 where
  pub pair : pair_of new id ≡ Some (record { first = first; second = second })
  pub others : OtherPairs id old new
  pub first_in : IsIn (waiting new (code_of first)) id
  pub second_in : IsIn (waiting new (code_of second)) id
  pub grows : (k : ℕ) (other : ClauseId) → IsIn (waiting old k) other → IsIn (waiting new k) other
  pub fresh : (k j : ℕ) (w : Watch) → slice_get (waiting new k) j ≡ Some w → ((m : ℕ) × (slice_get (waiting old k) m ≡ Some w)) ⊎ ((w.id ≡ id) × ((w.blocking ≡ first) ⊎ (w.blocking ≡ second)))
  pub sizes : SameSizes old new

-- the next clause learnt waits at its first two literals as well, where it has two
pub record WaitsLast (clause : List Literal) (old new : Watches) : Type 0 where
  pub lists : vec_len new.lists ≡ vec_len old.lists
  pub given : vec_len new.given ≡ vec_len old.given
  pub learnt : vec_len new.learnt ≡ vec_len old.learnt + 1
  pub others : OtherPairs (Learnt (vec_len old.learnt)) old new
  pub grows : (k : ℕ) (other : ClauseId) → IsIn (waiting old k) other → IsIn (waiting new k) other
  pub fresh : (k j : ℕ) (w : Watch) → slice_get (waiting new k) j ≡ Some w → ((m : ℕ) × (slice_get (waiting old k) m ≡ Some w)) ⊎ ((w.id ≡ Learnt (vec_len old.learnt)) × Member w.blocking clause)
  pub two : (first second : Literal) (more : List Literal) → clause ≡ first ∷ second ∷ more → (pair_of new (Learnt (vec_len old.learnt)) ≡ Some (record { first = first; second = second })) × IsIn (waiting new (code_of first)) (Learnt (vec_len old.learnt)) × IsIn (waiting new (code_of second)) (Learnt (vec_len old.learnt))

-- a clause that waits at another literal in place of one
pub record IsWaitingInstead (id : ClauseId) (x one another : Literal) (old new : Watches) : Type 0 where
  pub pair : Pair
  pub instead : Literal
  pub blocking : Literal
  pub was : pair_of old id ≡ Some pair
  pub which : (instead ≡ one) ⊎ (instead ≡ another)
  pub blocks : (blocking ≡ one) ⊎ (blocking ≡ another)
  pub apart : instead ≡ beside pair x → ⊥
  pub is : pair_of new id ≡ Some (record { first = beside pair x; second = instead })
  pub others : OtherPairs id old new
  pub more : IsMore (code_of instead) (record { id = id; blocking = blocking }) old new

-- what becomes of a clause that waits at a literal which is false, where these two are not: a watch that stays, or none
abbrev pub WaitsInstead : ClauseId → Literal → Literal → Literal → Watches → Watches → Option Watch → Type 0
WaitsInstead id x one another old new (Some watch) = (new ≡ old) × ((p : Pair) × (pair_of old id ≡ Some p) × (watch ≡ record { id = id; blocking = beside p x }) × (beside p x ≡ one) × (beside p x ≡ another))
WaitsInstead id x one another old new None = ((new ≡ old) × (pair_of old id ≡ None)) ⊎ IsWaitingInstead id x one another old new
