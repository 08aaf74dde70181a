-- Clauses that define variables, and what bits are worth in their models.
use Rattle.std.specs.Prelude.{◌≡◌, ◌<◌, ◌≤◌, ◌+◌, ◌++◌, ℕ, Bool, true, cond, not, ◌&&◌, ◌||◌, List}
use Rattle.std.specs.List.{All}
use Rattle.cnf_core.specs.Literal.{Literal, negated}
use Rattle.cnf_core.specs.Truth.{Valuation, literal_holds, formula_holds}
use Rattle.gates.specs.declared.bit.Bit.{Bit}
use Rattle.gates.specs.declared.bit.Bit.TheVariants.{Known, Unknown}

-- clauses, and how many variables there are: those from 1 to the count
pub record Net : Type 0 where
  pub clauses : List (List Literal)
  pub count : ℕ

-- each variable of the clause is below n
abbrev pub Below : ℕ → List Literal → Type 0
Below n clause = All (λ l. l.variable < n) clause

abbrev pub AllBelow : ℕ → List (List Literal) → Type 0
AllBelow n clauses = All (Below n) clauses

-- each clause holds
abbrev pub IsModel : Net → Valuation → Type 0
IsModel net v = formula_holds v net.clauses ≡ true

-- two valuations agree on the variables below n
abbrev pub Agree : ℕ → Valuation → Valuation → Type 0
Agree n v w = (x : ℕ) → x < n → v x ≡ w x

-- a model of the net that agrees with a valuation on the variables below n
pub record Extension (net : Net) (n : ℕ) (v : Valuation) : Type 0 where
  pub model : Valuation
  pub agrees : Agree n v model
  pub is : IsModel net model

-- clauses were put behind others
pub record Begins (old new : List (List Literal)) : Type 0 where
  pub more : List (List Literal)
  pub is : new ≡ old ++ more

-- Clauses were put behind the old ones. The new variables are defined by the old ones: each model extends to one of the
-- new net, whose models are models of the old.
pub record Grows (old new : Net) : Type 0 where
  pub more : old.count ≤ new.count
  pub begins : Begins old.clauses new.clauses
  pub keeps : (v : Valuation) → IsModel new v → IsModel old v
  pub extends : (v : Valuation) → IsModel old v → Extension new (old.count + 1) v

-- ---- truth functions

abbrev pub exclusive : Bool → Bool → Bool
exclusive a b = cond a (not b) b

abbrev pub majority : Bool → Bool → Bool → Bool
majority a b c = cond a (b || c) (b && c)

-- ---- bits

abbrev pub bit_holds : Valuation → Bit → Bool
bit_holds v (Known b) = b
bit_holds v (Unknown l) = literal_holds v l

abbrev pub opposite : Bit → Bit
opposite (Known b) = Known (not b)
opposite (Unknown l) = Unknown (negated l)

-- the bit is known, or its variable is one of the net's
abbrev pub IsBit : Net → Bit → Type 0
IsBit net (Known b) = Unit {0}
IsBit net (Unknown l) = l.variable < net.count + 1

-- the bit has this truth value in each model
pub record IsGate (old new : Net) (f : Valuation → Bool) (x : Bit) : Type 0 where
  pub grows : Grows old new
  pub stands : IsBit new x
  pub means : (v : Valuation) → IsModel new v → bit_holds v x ≡ f v

-- the bit is free: each model extends to one in which it has any truth value
pub record IsInput (old new : Net) (x : Bit) : Type 0 where
  pub grows : Grows old new
  pub stands : IsBit new x
  pub free : (v : Valuation) (b : Bool) → IsModel old v → (e : Extension new (old.count + 1) v) × (bit_holds e.model x ≡ b)

-- the literal's variable is the net's, and it has this truth value in each model
pub record Defines (old new : Net) (f : Valuation → Bool) (x : Literal) : Type 0 where
  pub grows : Grows old new
  pub positive : x.positive ≡ true
  pub from_one : 1 ≤ x.variable
  pub within : x.variable < new.count + 1
  pub means : (v : Valuation) → IsModel new v → literal_holds v x ≡ f v
