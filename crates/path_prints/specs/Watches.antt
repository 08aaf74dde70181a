-- The values of watched variables, as numbers of a walk.
use Rattle.std.specs.Prelude.{◌≡◌, ◌+◌, ◌<◌, ◌^◌, ℕ, List, ◌++◌}
use Rattle.plain_data.specs.declared.width.Width.{Width}
use Rattle.plain_data.specs.declared.width.Width.TheVariants.{W64}
use Rattle.c_store.specs.Store.{start}
use Rattle.core_tree.specs.declared.expr.Watched.{Watched}
use Rattle.core_tree.specs.declared.types.ValueType.{ValueType}
use Rattle.core_tree.specs.Callees.{number_held, seen, seen_all}
use Rattle.term_bank.specs.declared.sort.Sort.TheVariants.{Word}
use Rattle.term_bank.specs.declared.sort.Node.{Node}
use Rattle.term_bank.specs.declared.shape.Shape.{Shape}
use Rattle.term_bank.specs.Terms.{IsTerm}
use Rattle.term_bank.specs.Values.{Environment, Values, Models, Grows}
use Rattle.path_states.specs.declared.state.Number.{Number}
use Rattle.path_states.specs.States.{IsNumber, AreNumbers, IsRoomy, number_in, numbers_in}
use Rattle.path_steps.specs.Memories.{IsScalar, width_of}
use Rattle.path_forms.specs.declared.frame.Placed.{Placed}
use Rattle.path_forms.specs.Around.{env_at}

-- a scalar, which is stored in a word of this width
pub record IsScalarOf (t : ValueType) (w : Width) : Type 0 where
  pub scalar : IsScalar t
  pub width : w ≡ width_of t

-- the first address of the object that is so many places behind the base
pub record IsBehind (a b : List Shape) (offset : ℕ) (n : Node) : Type 0 where
  pub grows : Grows a b
  pub term : IsTerm b (Word W64) n
  pub is : (room : ℕ) → offset < room → (e : Environment) (v : Values) → Models b e v → IsRoomy room e
      → (v n.index).word ≡ start (e.base + offset)

-- of the object of a variable
pub record StandsAt (a b : List Shape) (frame : List Placed) (room : ℕ) (x : Watched) (n : Node) : Type 0 where
  pub grows : Grows a b
  pub term : IsTerm b (Word W64) n
  pub is : (e : Environment) (v : Values) → Models b e v → IsRoomy room e
      → (v n.index).word ≡ start (number_held (env_at frame e) x.at x.holder)
  pub low : (e : Environment) → IsRoomy room e → number_held (env_at frame e) x.at x.holder < 2 ^ 32

-- the value of a variable in a memory
pub record Sees (a b : List Shape) (frame : List Placed) (room : ℕ) (memory : Node) (x : Watched) (y : Number) : Type 0 where
  pub grows : Grows a b
  pub number : IsNumber b y
  pub is : (e : Environment) (v : Values) → Models b e v → IsRoomy room e
      → number_in v y ≡ seen (env_at frame e) (v memory.index).store x

-- the values of variables were put at the end
pub record SeesAll (a b : List Shape) (frame : List Placed) (room : ℕ) (memory : Node) (xs : List Watched) (before after : List Number)
    : Type 0 where
  pub grows : Grows a b
  pub numbers : AreNumbers b after
  pub are : (e : Environment) (v : Values) → Models b e v → IsRoomy room e
      → numbers_in v after ≡ numbers_in v before ++ seen_all (env_at frame e) (v memory.index).store xs
