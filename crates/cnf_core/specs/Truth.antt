-- Truth of literals, clauses and formulas under a valuation of the variables.
use Rattle.std.specs.Prelude.{◌≡◌, ℕ, zero, suc, Bool, true, false, cond, not, List, Option, None, slice_index_or, slice_get}
use Rattle.std.specs.List.{list_any, list_all}
use Rattle.cnf_core.specs.Literal.{Literal}

-- a truth value for each variable
abbrev pub Valuation : Type 0
Valuation = ℕ → Bool

abbrev pub literal_holds : Valuation → Literal → Bool
literal_holds v l = cond l.positive (v l.variable) (not (v l.variable))

-- some literal holds
abbrev pub clause_holds : Valuation → List Literal → Bool
clause_holds v clause = list_any (literal_holds v) clause

-- each clause holds
abbrev pub formula_holds : Valuation → List (List Literal) → Bool
formula_holds v formula = list_all (clause_holds v) formula

-- no valuation makes each clause hold
abbrev pub Unsatisfiable : List (List Literal) → Type 0
Unsatisfiable formula = (v : Valuation) → formula_holds v formula ≡ true → ⊥

-- the clause with this number, counted from 1
abbrev pub clause_at : List (List Literal) → ℕ → Option (List Literal)
clause_at clauses zero = None
clause_at clauses (suc n) = slice_get clauses n

-- a variable past the assignment's end is false
abbrev pub value_of : List Bool → Valuation
value_of values variable = slice_index_or values variable false
