-- What the leaves of expressions do to a run.
use Rattle.std.specs.Prelude.{ℕ, suc, List, ◌∷◌, ◌+◌, ◌<◌, ◌-◌, ◌^◌, ℤ, pos, negsuc, ◌≤ℤ◌, Some, Ok, unsigned_abs}
use Rattle.c_store.specs.Store.{start}
use Rattle.c_language.specs.Integers.{is_zero, number_of}
use Rattle.core_tree.specs.Memory.{operated}
use Rattle.core_tree.specs.Numbers.{converted_to, turned}
use Rattle.core_tree.specs.States.{found, or_stop}
use Rattle.term_bank.specs.declared.shape.Shape.{Shape}
use Rattle.term_bank.specs.Values.{Grows}
use Rattle.path_states.specs.declared.state.State.{State}
use Rattle.path_states.specs.declared.state.Walked.{Walked}
use Rattle.path_states.specs.States.{AreStates}
use Rattle.path_states.specs.Ways.{Trial, Tries, Walks, tried}
use Rattle.path_steps.specs.declared.leaf.Leaf.{Leaf}
use Rattle.path_steps.specs.declared.leaf.Leaf.TheVariants as leaf
use Rattle.c_means.specs.Expressions.{behind}
use Rattle.path_steps.specs.Memories.{IsScalar, load_by, put_by}
use Rattle.path_steps.specs.Operands.{on_none, on_one, on_two, top, under}

-- operands that stand otherwise
abbrev pub shifts : (List ℤ → List ℤ) → Trial
shifts f e v h = Some (Ok (record { operands = f h.operands; done = h.done }))

abbrev pub again : List ℤ → List ℤ
again zs = top zs ∷ top zs ∷ under zs

abbrev pub tucked : List ℤ → List ℤ
tucked zs = top zs ∷ top (under zs) ∷ top zs ∷ under (under zs)

abbrev pub leaf_way : Leaf → Trial
leaf_way (leaf.Constant z) = on_none (λ e d. found z d)
leaf_way (leaf.Local offset) = on_none (λ e d. found (pos (start (e.base + offset))) d)
leaf_way (leaf.Convert to) = on_one (λ e z d. found (converted_to to z) d)
leaf_way (leaf.Fixed place) = on_none (λ e d. found (pos (start place)) d)
leaf_way (leaf.Offset bytes) = on_one (λ e z d. found (pos (behind bytes (unsigned_abs z))) d)
leaf_way leaf.Not = on_one (λ e z d. found (number_of (is_zero z)) d)
leaf_way (leaf.Turn at operator word) = on_one (λ e z d. or_stop at (turned operator word z) d)
leaf_way (leaf.Operate at operator) = on_two (λ e x y d. operated at operator x y d)
leaf_way (leaf.Load access) = on_one (λ e z d. load_by access (unsigned_abs z) d)
leaf_way (leaf.Put at access) = on_two (λ e a z d. put_by at access (unsigned_abs a) z d)
leaf_way leaf.Drop = shifts under
leaf_way leaf.Again = shifts again
leaf_way leaf.Tuck = shifts tucked

-- constants are numbers of a type of C
pub record IsWithin (z : ℤ) : Type 0 where
  pub least : negsuc (2 ^ 63 - 1) ≤ℤ z
  pub most : z ≤ℤ pos (2 ^ 64 - 1)

abbrev pub IsLeaf : Leaf → Type 0
IsLeaf (leaf.Constant z) = IsWithin z
IsLeaf (leaf.Fixed place) = place < 2 ^ 32
IsLeaf (leaf.Load access) = IsScalar access.stored
IsLeaf (leaf.Put at access) = IsScalar access.stored
IsLeaf _ = Unit {0}

-- the places that a leaf names are in the room
abbrev pub HasRoom : ℕ → Leaf → Type 0
HasRoom room (leaf.Local offset) = offset < room
HasRoom room _ = Unit {0}

-- what a leaf makes of one state, in environments with the room that it asks for
pub record StepsBy (a b : List Shape) (s : State) (x : Leaf) (w : Walked) : Type 0 where
  pub tries : (room : ℕ) → HasRoom room x → Tries room a b s w (leaf_way x)

pub record WalksBy (a b : List Shape) (ss : List State) (x : Leaf) (w : Walked) : Type 0 where
  pub grows : Grows a b
  pub going : AreStates b w.going
  pub ended : AreStates b w.ended
  pub walks : (room : ℕ) → HasRoom room x → Walks room a b ss w (leaf_way x)

-- What some states became goes on with a leaf: whatever trial led to them, the leaf is behind it.
pub record Follows (b c : List Shape) (w u : Walked) (x : Leaf) : Type 0 where
  pub grows : Grows b c
  pub going : AreStates c u.going
  pub follows : (room : ℕ) → HasRoom room x → (a : List Shape) (ss : List State) (f : Trial) → Walks room a b ss w f
      → Walks room a c ss u (λ e v h. tried (f e v h) (leaf_way x e v))

-- some room is enough
abbrev pub room_for : Leaf → ℕ
room_for (leaf.Local offset) = suc offset
room_for _ = 0
