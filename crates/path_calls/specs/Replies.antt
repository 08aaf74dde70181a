-- What functions outside answer, and the objects that they make.
use Rattle.std.specs.Prelude.{◌≡◌, ℕ, suc, ◌+◌, ◌%◌, ◌^◌, ◌<◌, ℤ, pos, cond, not, ◌&&◌, nat_eq, List}
use Rattle.c_store.specs.declared.object.ObjectKind.TheVariants.{Outside}
use Rattle.c_store.specs.Store.{Store, start, make, zero_range}
use Rattle.core_tree.specs.declared.expr.OutsideAnswer.{OutsideAnswer}
use Rattle.core_tree.specs.declared.expr.OutsideAnswer.TheVariants as answer
use Rattle.core_tree.specs.declared.expr.Pointee.{Pointee}
use Rattle.core_tree.specs.declared.expr.Pointee.TheVariants as pointee
use Rattle.term_bank.specs.declared.sort.Sort.TheVariants.{Memory}
use Rattle.term_bank.specs.declared.sort.Node.{Node}
use Rattle.term_bank.specs.declared.shape.Shape.{Shape}
use Rattle.term_bank.specs.Terms.{IsTerm}
use Rattle.term_bank.specs.Values.{Environment, Values, Models, Grows}
use Rattle.path_states.specs.States.{IsNumber, IsRoomy, number_in}
use Rattle.path_calls.specs.Places.{Changes}
use Rattle.path_calls.specs.declared.outside_pointers.Reply.{Reply}

-- ---- objects, where strings from outside have at most so many bytes

abbrev pub size_by : ℕ → Pointee → ℕ
size_by most pointee.Text = suc most
size_by most (pointee.Bytes n) = n

abbrev pub ended_by : ℕ → Pointee → ℕ → Store → Store
ended_by most pointee.Text q s = zero_range (start q + most) 1 s
ended_by most (pointee.Bytes n) q s = s

abbrev pub object_by : ℕ → Pointee → ℕ → Store → Store
object_by most x q s = ended_by most x q (make q (record { kind = Outside; size = size_by most x }) s)

-- an object has fewer than 2^32 bytes
pub record IsSizeOf (most : ℕ) (x : Pointee) (n : ℕ) : Type 0 where
  pub is : n ≡ size_by most x
  pub small : n < 2 ^ 32

pub record MakesObject (a b : List Shape) (most : ℕ) (x : Pointee) (place : ℕ) (m n : Node) : Type 0 where
  pub small : size_by most x < 2 ^ 32
  pub changes : Changes a b place m n (object_by most x)

-- ---- answers

-- the world's word at a place
abbrev pub word_in : Environment → ℕ → ℕ
word_in e q = e.words q % 2 ^ 64

-- what is answered, by the word of the call's first place and its number
abbrev pub value_by : OutsideAnswer → ℕ → ℕ → ℤ
value_by answer.Nothing w q = pos 0
value_by answer.Number w q = pos w
value_by (answer.Pointer never_null x) w q = cond (nat_eq w 0 && not never_null) (pos 0) (pos (start q))

-- the store that is left
abbrev pub store_by : ℕ → OutsideAnswer → ℕ → ℕ → Store → Store
store_by most answer.Nothing w q s = s
store_by most answer.Number w q s = s
store_by most (answer.Pointer never_null x) w q s = cond (nat_eq w 0 && not never_null) s (object_by most x q s)

-- an object that is made has fewer than 2^32 bytes
abbrev pub IsSmall : ℕ → OutsideAnswer → Type 0
IsSmall most answer.Nothing = Unit {0}
IsSmall most answer.Number = Unit {0}
IsSmall most (answer.Pointer never_null x) = size_by most x < 2 ^ 32

-- what a function outside answers whose first place is so many places behind the base, and the memory that it leaves
pub record Replies (a b : List Shape) (most : ℕ) (x : OutsideAnswer) (place : ℕ) (m : Node) (r : Reply) : Type 0 where
  pub grows : Grows a b
  pub number : IsNumber b r.number
  pub term : IsTerm b Memory r.memory
  pub small : IsSmall most x
  pub value : (room : ℕ) → place < room → (e : Environment) (v : Values) → Models b e v → IsRoomy room e
      → number_in v r.number ≡ value_by x (word_in e (e.base + place)) (e.base + place)
  pub store : (room : ℕ) → place < room → (e : Environment) (v : Values) → Models b e v → IsRoomy room e
      → (v r.memory.index).store ≡ store_by most x (word_in e (e.base + place)) (e.base + place) (v m.index).store
