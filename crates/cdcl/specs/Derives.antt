-- What conflict analysis keeps.
use Rattle.std.specs.Prelude.{◌≡◌, ◌≤◌, ◌⊎◌, ℕ, true, Bool, List, Some, Contains}
use Rattle.proof_check.specs.Room.{Within}
use Rattle.cnf_core.specs.Literal.{Literal, negated}
use Rattle.proof_check.specs.Propagation.{Known}
use Rattle.cdcl.specs.declared.clauses.ClauseId.{ClauseId}
use Rattle.cdcl.specs.declared.assigned.Entry.{Entry}
use Rattle.cdcl.specs.Sources.{Lookup}
use Rattle.cdcl.specs.Known.{Member}
use Rattle.cdcl.specs.Tidy.{AreApart}
use Rattle.cdcl.specs.Trails.{seen_at, follows, literal_at, PlacedBelow}

-- the literal stands among the entries from the i-th on
abbrev pub PlacedFrom : ℕ → List Entry → Literal → Type 0
PlacedFrom i entries l = (j : ℕ) × (i ≤ j) × (literal_at entries j ≡ Some l)

-- wherever the marked literals of the first i entries are taken as true, the kept ones are false, and nothing beyond is taken, propagation along the hints ends in a false clause
pub record Derives (lookup : Lookup) (entries : List Entry) (i : ℕ) (seen : List Bool) (kept : List Literal) (hints : List ClauseId) : Type 0 where
  pub run : (known : Known) → ((l : Literal) → PlacedBelow i entries l → seen_at seen l.variable ≡ true → known l ≡ true) → ((l : Literal) → Member l kept → known (negated l) ≡ true) → ((l : Literal) → known l ≡ true → PlacedBelow i entries l ⊎ Member (negated l) kept) → follows lookup known hints ≡ true
  pub only : (v : ℕ) → seen_at seen v ≡ true → (l : Literal) × PlacedBelow i entries l × (l.variable ≡ v)
  pub above : (l : Literal) → Member l kept → PlacedFrom i entries (negated l)
  pub apart : AreApart kept

-- every clause that may be cited at this level has these variables alone
abbrev pub NamesWithin : List ℕ → Lookup → Type 0
NamesWithin vars lookup = (id : ClauseId) (c : List Literal) → lookup id ≡ Some c → Within vars c

abbrev pub MarksWithin : List ℕ → List Bool → Type 0
MarksWithin vars seen = (v : ℕ) → seen_at seen v ≡ true → Contains vars v

-- the marked variables and the kept literals are of these variables
pub record WorkWithin (vars : List ℕ) (seen : List Bool) (kept : List Literal) : Type 0 where
  pub marks : MarksWithin vars seen
  pub literals : Within vars kept
