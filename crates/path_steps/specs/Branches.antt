-- The sides of a branch: the operand on top is taken as a condition, and the side is noted.
use Rattle.std.specs.Prelude.{◌≡◌, ℕ, List, [], ◌∷◌, ◌++◌, cond, Some, None}
use Rattle.plain_data.specs.declared.run.Side.{Side}
use Rattle.plain_data.specs.declared.run.Side.TheVariants as taken
use Rattle.plain_data.specs.declared.run.Happening.TheVariants as happening
use Rattle.c_language.specs.Integers.{is_zero}
use Rattle.term_bank.specs.declared.sort.Node.{Node}
use Rattle.term_bank.specs.declared.shape.Shape.{Shape}
use Rattle.term_bank.specs.Values.{Grows}
use Rattle.path_states.specs.declared.state.State.{State}
use Rattle.path_states.specs.States.{Held, AreStates}
use Rattle.path_states.specs.Ways.{Way, Steps, Goes, Happened}
use Rattle.path_steps.specs.declared.parting.Parted.{Parted}
use Rattle.path_steps.specs.Operands.{top, under}

-- as the core notes it along a log, where a run's count of printed bytes is its position
abbrev pub noted_at : ℕ → Side → Held → Held
noted_at at s h = record {
  operands = under h.operands;
  done = record h.done { events = h.done.events ++ record { what = happening.Branch at s; printed = h.done.out } ∷ [] };
}

abbrev pub takes : ℕ → Way
takes at e v h = cond (is_zero (top h.operands)) None (Some (noted_at at taken.Yes h))

abbrev pub skips : ℕ → Way
skips at e v h = cond (is_zero (top h.operands)) (Some (noted_at at taken.No h)) None

-- the state where this guard is true, with a side of a branch noted
pub record IsSided (a b : List Shape) (s : State) (guard : Node) (at : ℕ) (side : Side) (t : State) : Type 0 where
  pub is : t ≡ record s { guard = guard; events = t.events }
  pub happened : Happened a b s.events t.events (record { what = happening.Branch at side; printed = s.position })

pub record PartsOne (a b : List Shape) (s : State) (at : ℕ) (p : Parted) : Type 0 where
  pub yes : (room : ℕ) → Steps room a b s p.yes (takes at)
  pub no : (room : ℕ) → Steps room a b s p.no (skips at)

pub record PartsAll (a b : List Shape) (ss : List State) (at : ℕ) (p : Parted) : Type 0 where
  pub grows : Grows a b
  pub yes_states : AreStates b p.yes
  pub no_states : AreStates b p.no
  pub yes : (room : ℕ) → Goes room a b ss p.yes (takes at)
  pub no : (room : ℕ) → Goes room a b ss p.no (skips at)
