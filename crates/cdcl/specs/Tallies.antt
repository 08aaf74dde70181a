-- In how many conflicts each variable occurred.
use Rattle.std.specs.Prelude.{◌≡◌, ◌<◌, ◌≤◌, ◌+◌, ℕ, Bool, min, cond, eqb, nat_eq, List, Option, Some, None, false, length, vec_len}
use Rattle.std.specs.List.{list_any}
use Rattle.cnf_core.specs.Literal.{Literal}
use Rattle.cdcl.specs.declared.clauses.ClauseId.{ClauseId}
use Rattle.cdcl.specs.declared.clauses.Clauses.{Clauses}
use Rattle.cdcl.specs.declared.tally.Tally.{Tally}
use Rattle.cdcl.specs.Sources.{named}
use Rattle.cdcl.specs.Ranks.{mark_of}

abbrev pub has_variable : Option (List Literal) → ℕ → Bool
has_variable None v = false
has_variable (Some clause) v = list_any (λ l. eqb l.variable v) clause

-- one of the named clauses that a step may cite has the variable
abbrev pub occurs : Clauses → List ClauseId → ℕ → Bool
occurs clauses ids v = list_any (λ id. has_variable (named 1 clauses id) v) ids

-- one more, up to 2^64 - 1
abbrev pub one_more : ℕ → ℕ
one_more mark = min (mark + 1) 18446744073709551615

-- the marks of these variables are one more, and the others are as they were
abbrev pub AreMarked : (ℕ → Bool) → List ℕ → List ℕ → Type 0
AreMarked seen old new = (v : ℕ) → v < length old → mark_of new v ≡ cond (seen v) (one_more (mark_of old v)) (mark_of old v)

-- each variable was last counted in a conflict up to now
pub record IsTally (c : Tally) : Type 0 where
  pub sizes : vec_len c.last ≡ vec_len c.marks
  pub past : (v : ℕ) → mark_of c.last.items v ≤ c.conflict

-- in the conflict of now these variables were counted
pub record HasCounted (seen : ℕ → Bool) (old : List ℕ) (c : Tally) : Type 0 where
  pub counts : IsTally c
  pub kept : vec_len c.marks ≡ length old
  pub current : (v : ℕ) → v < length old → nat_eq (mark_of c.last.items v) c.conflict ≡ seen v
  pub marks : AreMarked seen old c.marks.items
