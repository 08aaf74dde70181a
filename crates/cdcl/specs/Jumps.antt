-- How analysis comes down to the one literal of the conflict's level, and where the clause learnt leads.
use Rattle.std.specs.Prelude.{◌≡◌, ◌<◌, ◌≤◌, ◌⊎◌, ℕ, Bool, true, false, List, [], ◌∷◌, Some, slice_get}
use Rattle.cnf_core.specs.Literal.{Literal, negated}
use Rattle.cdcl.specs.declared.clauses.ClauseId.{ClauseId}
use Rattle.cdcl.specs.declared.clauses.Clauses.{Clauses}
use Rattle.cdcl.specs.declared.assigned.Entry.{Entry}
use Rattle.cdcl.specs.declared.assigned.Assigned.{Assigned}
use Rattle.cdcl.specs.Sources.{named}
use Rattle.cdcl.specs.Known.{Member}
use Rattle.cdcl.specs.Trails.{seen_at}

-- one of the first i entries is of the level, and marked
pub record Marked (entries : List Entry) (level i : ℕ) (seen : List Bool) : Type 0 where
  pub place : ℕ
  pub entry : Entry
  pub below : place < i
  pub at : slice_get entries place ≡ Some entry
  pub of_level : entry.level ≡ level
  pub marked : seen_at seen entry.literal.variable ≡ true

abbrev pub NoneMarked : List Entry → ℕ → ℕ → List Bool → Type 0
NoneMarked entries level i seen = (j : ℕ) (e : Entry) → j < i → slice_get entries j ≡ Some e → e.level ≡ level → seen_at seen e.literal.variable ≡ false

abbrev pub Weighs : List Entry → ℕ → ℕ → List Bool → Bool → Type 0
Weighs entries level i seen true = Marked entries level i seen
Weighs entries level i seen false = NoneMarked entries level i seen

-- an entry of this level, from the i-th on, makes the literal false
pub record FalseAt (entries : List Entry) (i level : ℕ) (l : Literal) : Type 0 where
  pub place : ℕ
  pub entry : Entry
  pub from : i ≤ place
  pub at : slice_get entries place ≡ Some entry
  pub negates : entry.literal ≡ negated l
  pub of_level : entry.level ≡ level

-- an entry of this level or of one below it makes the literal false
abbrev pub FalseBelow : List Entry → ℕ → Literal → Type 0
FalseBelow entries level l = (low : ℕ) × (low ≤ level) × FalseAt entries 0 low l

-- the literals after the first: none, or the second is false at this level, which is below the first one's, and the others there or below
pub record HasSecond (entries : List Entry) (i top : ℕ) (rest : List Literal) (level : ℕ) : Type 0 where
  pub second : Literal
  pub more : List Literal
  pub is : rest ≡ second ∷ more
  pub at : FalseAt entries i level second
  pub below : level < top
  pub others : (l : Literal) → Member l rest → FalseBelow entries level l

abbrev pub AreBelow : List Entry → ℕ → ℕ → List Literal → ℕ → Type 0
AreBelow entries i top rest level = ((rest ≡ []) × (level ≡ 0)) ⊎ HasSecond entries i top rest level

-- the first literal alone is false at the top level, and all others below it
pub record HasFirst (entries : List Entry) (i top : ℕ) (kept : List Literal) (level : ℕ) : Type 0 where
  pub first : Literal
  pub rest : List Literal
  pub is : kept ≡ first ∷ rest
  pub at : FalseAt entries 0 top first
  pub below : AreBelow entries i top rest level

-- above the i-th entry: nothing is kept yet and an entry of the top level is marked, or the one literal of that level is kept and none is marked
abbrev pub IsStage : List Entry → ℕ → ℕ → List Bool → List Literal → ℕ → Type 0
IsStage entries top i seen kept level = ((kept ≡ []) × (level ≡ 0) × Marked entries top i seen) ⊎ (HasFirst entries i top kept level × NoneMarked entries top i seen)

-- where a clause learnt leads: back to a level at which it has one literal left
abbrev pub IsJump : List Entry → ℕ → List Literal → ℕ → Type 0
IsJump entries top clause level = HasFirst entries 0 top clause level

-- the clause of a conflict has a literal of the trail's level
pub record HasTop (clauses : Clauses) (t : Assigned) (conflict : ClauseId) : Type 0 where
  pub clause : List Literal
  pub is : named 1 clauses conflict ≡ Some clause
  pub literal : Literal
  pub member : Member literal clause
  pub at : FalseAt t.entries.items 0 t.level literal
