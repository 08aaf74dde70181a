-- What operators answer on two numbers, and where they are undefined (C99 6.5.5 to 6.5.12).
use Rattle.std.specs.Prelude.{◌≡◌, ℕ, ◌-◌, ◌/◌, ◌^◌, ℤ, pos, neg_ℤ, ◌-ℤ◌, List, ◌∷◌, Bool, true, cond, not, ◌&&◌, nat_eq, nat_lt, unsigned_abs, Option, Some, Result, Ok}
use Rattle.c_store.specs.Store.{Store}
use Rattle.c_store.specs.Access.{in_one_object}
use Rattle.c_means.specs.Pointers.{elements_in}
use Rattle.c_means.specs.Values.{address}
use Rattle.core_tree.specs.declared.types.Arithmetic.{Arithmetic}
use Rattle.core_tree.specs.declared.types.Arithmetic.TheVariants as o
use Rattle.core_tree.specs.declared.types.Relation.{Relation}
use Rattle.core_tree.specs.declared.types.Relation.TheVariants as r
use Rattle.core_tree.specs.States.{Done, Outcome}
use Rattle.term_bank.specs.declared.shape.Shape.{Shape}
use Rattle.term_bank.specs.Values.{Environment, Values, Models, Grows}
use Rattle.path_states.specs.declared.state.Number.{Number}
use Rattle.path_states.specs.States.{Held, IsNumber, number_in}
use Rattle.path_steps.specs.declared.operators.Operated.{Operated}
use Rattle.path_steps.specs.Exits.{IsMaybeExit, exit_in}
use Rattle.path_steps.specs.Operands.{pushed}

-- what is answered, put on operands, unless the run leaves
abbrev pub operated_in : Values → Operated → List ℤ → Done ℕ → Option (Result Held (Done ℕ))
operated_in v x zs d =
    exit_in v x.first d (exit_in v x.second d (Some (Ok (record { operands = number_in v x.number ∷ zs; done = d }))))

-- the operator's outcome in every environment, for a run whose store is this one
pub record Operates (a b : List Shape) (store : Values → Store) (x : Operated) (g : Values → Done ℕ → Outcome ℕ ℤ)
    : Type 0 where
  pub grows : Grows a b
  pub number : IsNumber b x.number
  pub first : IsMaybeExit b x.first
  pub second : IsMaybeExit b x.second
  pub is : (e : Environment) (v : Values) → Models b e v → (zs : List ℤ) (d : Done ℕ) → d.store ≡ store v
      → operated_in v x zs d ≡ pushed zs (g v d)

-- ---- pointers

-- So many elements of a size have fewer bytes than 2^32, as an object has: elements of size 0 have none.
abbrev pub is_near : ℕ → ℤ → Bool
is_near size z = cond (nat_eq size 0) true (not (nat_lt ((2 ^ 32 - 1) / size) (unsigned_abs z)))

-- an object can have elements of this size, which has bytes
abbrev pub is_measured : ℕ → Bool
is_measured size = nat_lt 0 size && nat_lt size (2 ^ 32)

-- so many elements further, or back
abbrev pub directed : Bool → ℤ → ℤ
directed back z = cond back (neg_ℤ z) z

abbrev pub by_direction : Bool → Arithmetic
by_direction back = cond back o.Subtract o.Add

-- an order of two addresses as one of two numbers
abbrev pub ordering : Relation → Arithmetic
ordering r.Less = o.Less
ordering r.Greater = o.Greater
ordering r.LessEqual = o.LessEqual
ordering r.GreaterEqual = o.GreaterEqual

-- how many elements are between two addresses, where both are in one object of a store
pub record Between (a b : List Shape) (x left right : Number) (size : ℕ) : Type 0 where
  pub grows : Grows a b
  pub number : IsNumber b x
  pub is : (e : Environment) (v : Values) → Models b e v → (s : Store)
      → in_one_object s (address (number_in v left)) (address (number_in v right)) ≡ true
      → number_in v x ≡ elements_in (pos (address (number_in v left)) -ℤ pos (address (number_in v right))) size
