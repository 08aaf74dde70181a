-- Accesses that a walk can do: of scalars, which are tested or stand near the start of a named object.
use Rattle.std.specs.Prelude.{◌≡◌, Option, ℕ, ◌+◌, ◌≤◌, ◌<◌, ◌^◌, ℤ, pos, false, Some, None, Ok, Err, unsigned_abs, List}
use Rattle.c_store.specs.Store.{start}
use Rattle.core_tree.specs.declared.expr.Expr.{Expr}
use Rattle.core_tree.specs.declared.types.Access.{Access}
use Rattle.core_tree.specs.declared.types.ValueType.{ValueType}
use Rattle.core_tree.specs.Numbers.{size_of}
use Rattle.core_tree.specs.States.{Done, Outcome, found}
use Rattle.core_tree.specs.Values.{value}
use Rattle.term_bank.specs.Values.{Environment}
use Rattle.path_states.specs.States.{IsRoomy}
use Rattle.path_steps.specs.Memories.{IsScalar}
use Rattle.path_forms.specs.declared.frame.Placed.{Placed}
use Rattle.path_forms.specs.Around.{Around, level_at, env_at}

-- so many bytes more, within an object
pub record IsFarther (distance : Option ℕ) (bytes n : ℕ) : Type 0 where
  pub from : ℕ
  pub was : distance ≡ Some from
  pub sum : n ≡ from + bytes
  pub small : n < 2 ^ 32

-- the address of a named object and so many bytes, which ends no run
pub record IsNamed (x : Around) (frame : List Placed) (room : ℕ) (t : Expr) (bytes : ℕ) : Type 0 where
  pub small : bytes < 2 ^ 32
  pub place : Environment → ℕ
  pub within : (e : Environment) → IsRoomy room e → place e < 2 ^ 32
  pub is : (e : Environment) → IsRoomy room e → (base : ℕ) (d : Done ℕ)
      → (value {O = ℕ} t).run (level_at x e) (env_at frame e) base d ≡ found (pos (start (place e) + bytes)) d

-- an access that isn't tested ends at 2^64 at most
abbrev pub EndsBelow : Access → Outcome ℕ ℤ → Type 0
EndsBelow access None = Unit {0}
EndsBelow access (Some (Ok z)) = access.is_tested ≡ false → unsigned_abs z.0 + size_of access.stored ≤ 2 ^ 64
EndsBelow access (Some (Err d)) = Unit {0}

pub record IsNear (x : Around) (frame : List Placed) (room : ℕ) (access : Access) (t : Expr) : Type 0 where
  pub near : (e : Environment) → IsRoomy room e → (base : ℕ) (d : Done ℕ)
      → EndsBelow access ((value {O = ℕ} t).run (level_at x e) (env_at frame e) base d)

pub record IsAccess (x : Around) (frame : List Placed) (room : ℕ) (access : Access) (t : Expr) : Type 0 where
  pub scalar : IsScalar access.stored
  pub near : IsNear x frame room access t

-- so many bytes, of a scalar
pub record HasScalarSize (stored : ValueType) (n : ℕ) : Type 0 where
  pub scalar : IsScalar stored
  pub size : n ≡ size_of stored
