-- Accesses of scalars.
use Rattle.std.specs.Prelude.{◌≡◌, ℕ, ℤ, List, Bool, cond, Option, Some, Result, Err}
use Rattle.plain_data.specs.declared.run.Finish.{Finish}
use Rattle.plain_data.specs.declared.width.Width.{Width}
use Rattle.plain_data.specs.declared.width.Width.TheVariants as width
use Rattle.core_tree.specs.declared.types.Access.{Access}
use Rattle.core_tree.specs.declared.types.ValueType.{ValueType}
use Rattle.core_tree.specs.declared.types.ValueType.TheVariants as v
use Rattle.core_tree.specs.Numbers.{size_of, converted_to, value_of_bytes, bytes_of_value}
use Rattle.core_tree.specs.Memory.{load, put}
use Rattle.core_tree.specs.States.{Done, Outcome, found, with_store, finished}
use Rattle.term_bank.specs.Memories as wrapping
use Rattle.term_bank.specs.declared.shape.Shape.{Shape}
use Rattle.term_bank.specs.Values.{Environment, Values, Models, Grows}
use Rattle.path_states.specs.States.{Held}
use Rattle.path_steps.specs.declared.settling.Exit.{Exit}
use Rattle.path_steps.specs.Exits.{IsMaybeExit, exit_in}

abbrev pub IsScalar : ValueType → Type 0
IsScalar v.Truth = Unit {0}
IsScalar (v.Word t) = Unit {0}
IsScalar v.Pointer = Unit {0}
IsScalar v.Void = ⊥
IsScalar (v.Block bytes) = ⊥

-- of the word in which a scalar is stored
abbrev pub width_of : ValueType → Width
width_of v.Truth = width.W8
width_of (v.Word t) = t.width
width_of v.Pointer = width.W64
width_of v.Void = width.W8
width_of (v.Block bytes) = width.W64

-- An access that isn't tested goes on at address 0 behind the last one: where the object ends before, it is the core's.
abbrev pub load_by : Access → ℕ → Done ℕ → Outcome ℕ ℤ
load_by x a d =
    cond x.is_tested (load x a d) (found (value_of_bytes x.stored (wrapping.read (size_of x.stored) d.store a)) d)

abbrev pub put_by : ℕ → Access → ℕ → ℤ → Done ℕ → Outcome ℕ ℤ
put_by at x a z d =
    cond x.is_tested (put at x a z d)
    (found (converted_to x.stored z)
    (with_store (wrapping.write (size_of x.stored) a (bytes_of_value x.stored (converted_to x.stored z)) d.store) d))

-- an exit that is taken where this is so
pub record Guards (a b : List Shape) (x : Option Exit) (f : Finish) (t : Values → Bool) : Type 0 where
  pub grows : Grows a b
  pub exit : IsMaybeExit b x
  pub is : (e : Environment) (v : Values) → Models b e v → (d : Done ℕ) (r : Option (Result Held (Done ℕ)))
      → exit_in v x d r ≡ cond (t v) (Some (Err (finished f d))) r
