-- Literals within a room of variables.
use Rattle.std.specs.Prelude.{◌≡◌, ◌<◌, ◌≤◌, ℕ, List, Some, slice_get}
use Rattle.cnf_core.specs.Literal.{Literal}
use Rattle.cdcl.specs.Known.{Member}

-- each literal's variable is below the room
abbrev pub Fits : ℕ → List Literal → Type 0
Fits room clause = (l : Literal) → Member l clause → l.variable < room

abbrev pub AllFit : ℕ → List (List Literal) → Type 0
AllFit room clauses = (i : ℕ) (c : List Literal) → slice_get clauses i ≡ Some c → Fits room c

-- each literal's variable is one from 1 on, below the room
abbrev pub IsNumbered : ℕ → List Literal → Type 0
IsNumbered room clause = (l : Literal) → Member l clause → (1 ≤ l.variable) × (l.variable < room)

abbrev pub AreNumbered : ℕ → List (List Literal) → Type 0
AreNumbered room clauses = (i : ℕ) (c : List Literal) → slice_get clauses i ≡ Some c → IsNumbered room c
