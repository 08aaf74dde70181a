-- Calls within bounds, and the places that are theirs.
use Rattle.std.specs.Prelude.{◌≡◌, ℕ, ◌+◌, ◌<◌, List}
use Rattle.plain_data.specs.declared.bounds.Bounds.{Bounds}
use Rattle.plain_data.specs.declared.width.Width.TheVariants.{W64}
use Rattle.c_store.specs.Store.{Store}
use Rattle.core_tree.specs.declared.expr.Callee.{Callee}
use Rattle.term_bank.specs.declared.sort.Sort.TheVariants.{Word, Memory}
use Rattle.term_bank.specs.declared.sort.Node.{Node}
use Rattle.term_bank.specs.declared.shape.Shape.{Shape}
use Rattle.term_bank.specs.Terms.{IsTerm}
use Rattle.term_bank.specs.Values.{Environment, Values, Models, Grows}
use Rattle.path_states.specs.declared.state.State.{State}
use Rattle.path_states.specs.declared.state.Walked.{Walked}
use Rattle.path_states.specs.States.{IsRoomy}
use Rattle.path_states.specs.Ways.{Tries}
use Rattle.path_forms.specs.declared.calling.CallSite.{CallSite}
use Rattle.path_forms.specs.declared.frame.Placed.{Placed}
use Rattle.path_forms.specs.Around.{Around}
use Rattle.path_forms.specs.Calling.{call_way}

-- ---- calls within bounds

-- the level's bounds on objects that calls make are these
pub record IsWithin (x : Around) (b : Bounds) : Type 0 where
  pub heap : x.limits.heap ≡ b.heap
  pub outside : x.limits.outside ≡ b.outside

-- a state becomes what the call makes of its run, whatever is around it that has these bounds
pub record CallsWithin (b : Bounds) (room : ℕ) (old new : List Shape) (s : State) (c : Callee) (site : CallSite) (w : Walked)
    : Type 0 where
  pub tries : (x : Around) (frame : List Placed) → IsWithin x b → Tries room old new s w (call_way x frame c site)

-- ---- places of a call

-- a word that is told by the place that is so many places behind the base, in environments that have room for it
pub record Tells (a b : List Shape) (place : ℕ) (f : ℕ → ℕ) (n : Node) : Type 0 where
  pub grows : Grows a b
  pub term : IsTerm b (Word W64) n
  pub is : (room : ℕ) → place < room → (e : Environment) (v : Values) → Models b e v → IsRoomy room e
      → (v n.index).word ≡ f (e.base + place)

-- a memory whose store is another one's, changed by that place
pub record Changes (a b : List Shape) (place : ℕ) (m n : Node) (f : ℕ → Store → Store) : Type 0 where
  pub grows : Grows a b
  pub term : IsTerm b Memory n
  pub is : (room : ℕ) → place < room → (e : Environment) (v : Values) → Models b e v → IsRoomy room e
      → (v n.index).store ≡ f (e.base + place) (v m.index).store
