-- Objects that calls make and end (C99 7.20.3), from a run at which the call has begun.
use Rattle.std.specs.Prelude.{◌≡◌, ℕ, ◌+◌, ◌<◌, ◌%◌, ◌^◌, pos, List, ◌∷◌, Bool, true, false, cond, not, nat_eq, nat_lt}
use Rattle.std.specs.Prelude.{Option, Some, Result, Ok, Err}
use Rattle.plain_data.specs.declared.run.Finish.TheVariants as finish
use Rattle.plain_data.specs.declared.run.Undefined.TheVariants as undefined
use Rattle.plain_data.specs.declared.width.Width.TheVariants.{W64}
use Rattle.c_store.specs.declared.object.ObjectKind.TheVariants as object
use Rattle.c_store.specs.Access.{can_free}
use Rattle.c_store.specs.Store.{Store, start, object_of, make, end}
use Rattle.core_tree.specs.declared.types.ValueType.{ValueType}
use Rattle.core_tree.specs.declared.types.ValueType.TheVariants as t
use Rattle.core_tree.specs.Callees.{zeroed_if}
use Rattle.core_tree.specs.Numbers.{converted_to}
use Rattle.core_tree.specs.States.{Done, finished, with_store}
use Rattle.term_bank.specs.declared.sort.Sort.TheVariants.{Truth, Word, Memory}
use Rattle.term_bank.specs.declared.sort.Node.{Node}
use Rattle.term_bank.specs.declared.shape.Shape.{Shape}
use Rattle.term_bank.specs.Terms.{IsTerm}
use Rattle.term_bank.specs.Values.{Environment, Values, Models, Grows}
use Rattle.path_states.specs.States.{Held, IsNumber, IsRoomy, number_in}
use Rattle.path_forms.specs.declared.calling.CallSite.{CallSite}
use Rattle.path_calls.specs.declared.requests.Request.{Request}
use Rattle.path_calls.specs.declared.heap.Allocation.{Allocation}

-- ---- runs

-- a new object of so many bytes, all of them 0 if that is asked for
abbrev pub with_object : Bool → ℕ → ℕ → Store → Store
with_object zeroes q n s = zeroed_if zeroes (start q) n (make q (record { kind = object.Heap; size = n }) s)

-- whether the world gives null at a place
abbrev pub is_null : Environment → ℕ → Bool
is_null e q = nat_eq (e.words q % 2 ^ 64) 0

-- The run goes on with null, or the first address of a new object of so many bytes at the call's place; where they are
-- more than the bound it leaves the bounds.
abbrev pub allocated : ℕ → CallSite → ℕ → Bool → Environment → Held → Option (Result Held (Done ℕ))
allocated most site n zeroes e h =
    let q = e.base + site.place in
    cond (nat_lt most n) (Some (Err (finished (finish.Left site.at) h.done)))
    (Some (Ok (record {
      operands = converted_to site.answer (pos (cond (is_null e q) 0 (start q))) ∷ h.operands;
      done = with_store (cond (is_null e q) h.done.store (with_object zeroes q n h.done.store)) h.done;
    })))

-- the store without the object at an address; at null nothing ends
abbrev pub without : ℕ → Store → Store
without a s = cond (nat_eq a 0) s (end (object_of a) s)

-- the run goes on without the object, and the call has no value; undefined where the address may not be freed
abbrev pub released : CallSite → ℕ → Held → Option (Result Held (Done ℕ))
released site a h =
    cond (not (can_free h.done.store a)) (Some (Err (finished (finish.Stopped undefined.Free site.at) h.done)))
    (Some (Ok (record { operands = pos 0 ∷ h.operands; done = with_store (without a h.done.store) h.done })))

-- whether a value is used where a call has none to give
abbrev pub misses_value : Bool → ValueType → Bool
misses_value used t.Void = false
misses_value used t.Truth = used
misses_value used (t.Word w) = used
misses_value used t.Pointer = used
misses_value used (t.Block n) = used

-- ---- how many bytes

-- one factor is above the bound, and the other isn't 0; or else the word of their product is
abbrev pub product_exceeds : ℕ → ℕ → ℕ → ℕ → Bool
product_exceeds most a b product =
    cond (cond (cond (nat_lt most a) (not (nat_eq b 0)) false) true (cond (nat_lt most b) (not (nat_eq a 0)) false)) true
    (nat_lt most product)

-- nodes of whether so many bytes are more than the bound, and else of how many they are
pub record Requests (a b : List Shape) (most : ℕ) (x : Request) (n : Values → ℕ) : Type 0 where
  pub grows : Grows a b
  pub size : IsTerm b (Word W64) x.size
  pub exceeds : IsTerm b Truth x.exceeds
  pub beyond : (e : Environment) (v : Values) → Models b e v → (v x.exceeds.index).truth ≡ nat_lt most (n v)
  pub bytes : (e : Environment) (v : Values) → Models b e v → nat_lt most (n v) ≡ false → (v x.size.index).word ≡ n v

-- ---- objects

-- a memory with the new object of the place that is so many places behind the base, if it has fewer than 2^32 bytes
pub record Remakes (a b : List Shape) (place : ℕ) (memory size : Node) (zeroes : Bool) (n : Node) : Type 0 where
  pub grows : Grows a b
  pub term : IsTerm b Memory n
  pub is : (room : ℕ) → place < room → (e : Environment) (v : Values) → Models b e v → IsRoomy room e → (v size.index).word < 2 ^ 32
      → (v n.index).store ≡ with_object zeroes (e.base + place) (v size.index).word (v memory.index).store

-- null or the new object's first address, and the memory behind the call
pub record Allots (a b : List Shape) (place : ℕ) (memory size : Node) (zeroes : Bool) (x : Allocation) : Type 0 where
  pub grows : Grows a b
  pub term : IsTerm b Memory x.memory
  pub number : IsNumber b x.pointer
  pub pointer : (room : ℕ) → place < room → (e : Environment) (v : Values) → Models b e v → IsRoomy room e
      → number_in v x.pointer ≡ pos (cond (is_null e (e.base + place)) 0 (start (e.base + place)))
  pub remade : (room : ℕ) → place < room → (e : Environment) (v : Values) → Models b e v → IsRoomy room e
      → (v size.index).word < 2 ^ 32
      → (v x.memory.index).store
      ≡ cond (is_null e (e.base + place)) (v memory.index).store
      (with_object zeroes (e.base + place) (v size.index).word (v memory.index).store)

-- the memory without the object at an address
pub record Frees (a b : List Shape) (memory at n : Node) : Type 0 where
  pub grows : Grows a b
  pub term : IsTerm b Memory n
  pub is : (e : Environment) (v : Values) → Models b e v → (v n.index).store ≡ without (v at.index).word (v memory.index).store
