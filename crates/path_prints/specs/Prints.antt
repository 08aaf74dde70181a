-- Where a format has been taken: the print is noted, and its length is answered.
use Rattle.std.specs.Prelude.{◌≡◌, ℕ, zero, suc, ◌-◌, ℤ, pos, List, [], ◌∷◌, ◌++◌, Some}
use Rattle.plain_data.specs.declared.run.Event.{Event}
use Rattle.plain_data.specs.declared.run.Happening.TheVariants as happening
use Rattle.printf_text.specs.declared.piece.Piece.{Piece}
use Rattle.core_tree.specs.declared.expr.Callee.TheVariants as callee
use Rattle.core_tree.specs.declared.expr.Watched.{Watched}
use Rattle.core_tree.specs.declared.types.ValueType.{ValueType}
use Rattle.core_tree.specs.declared.types.WordType.{WordType}
use Rattle.core_tree.specs.Numbers.{int, wrapped, converted_to}
use Rattle.term_bank.specs.declared.sort.Sort.TheVariants.{Events, Numbers}
use Rattle.term_bank.specs.declared.sort.Node.{Node}
use Rattle.term_bank.specs.declared.shape.Shape.{Shape}
use Rattle.term_bank.specs.Terms.{IsTerm}
use Rattle.term_bank.specs.Values.{Environment, Values, Models, Grows}
use Rattle.path_states.specs.declared.state.Number.{Number}
use Rattle.path_states.specs.declared.state.State.{State}
use Rattle.path_states.specs.declared.state.Walked.{Walked}
use Rattle.path_states.specs.States.{numbers_in}
use Rattle.path_states.specs.Ways.{Way, Goes, Tries}
use Rattle.path_forms.specs.declared.calling.CallSite.{CallSite}
use Rattle.path_forms.specs.declared.frame.Placed.{Placed}
use Rattle.path_forms.specs.Around.{Around}
use Rattle.path_forms.specs.Calling.{call_way}

-- nothing printed is no event; what was printed stands from a position on
abbrev pub print_events : ℕ → ℕ → ℕ → List ℤ → List Event
print_events at from zero shown = []
print_events at from (suc n) shown = record { what = happening.Print at (suc n) shown; printed = from } ∷ []

-- from a position on was printed what stands before the run's position
abbrev pub print_way : ℕ → ValueType → ℕ → List Number → Way
print_way at type from shown e v h = Some (record {
  operands = converted_to type (wrapped int (pos (h.done.out - from))) ∷ h.operands;
  done = record h.done { events = h.done.events ++ print_events at from (h.done.out - from) (numbers_in v shown) };
})

-- a node for the numbers, in order
pub record Gathers (a b : List Shape) (xs : List Number) (n : Node) : Type 0 where
  pub grows : Grows a b
  pub term : IsTerm b Numbers n
  pub is : (e : Environment) (v : Values) → Models b e v → (v n.index).numbers ≡ numbers_in v xs

-- events, and behind them what is noted of a print of so many bytes
pub record NotesPrint (a b : List Shape) (at from n : ℕ) (shown : List Number) (before after : Node) : Type 0 where
  pub grows : Grows a b
  pub term : IsTerm b Events after
  pub is : (e : Environment) (v : Values) → Models b e v
      → (v after.index).events ≡ (v before.index).events ++ print_events at from n (numbers_in v shown)

-- a state becomes what a log call makes of its run
pub record PrintsBy (x : Around) (room : ℕ) (a b : List Shape) (s : State) (frame : List Placed) (ps : List Piece) (before : ℕ)
    (types : List WordType) (watched : List Watched) (site : CallSite) (w : Walked) : Type 0 where
  pub tries : Tries room a b s w (call_way x frame (callee.Log ps before types watched) site)

-- the prints of some states
pub record PrintsEach (a b : List Shape) (at : ℕ) (type : ValueType) (from : ℕ) (shown : List Number) (ss ts : List State) : Type 0 where
  pub goes : (room : ℕ) → Goes room a b ss ts (print_way at type from shown)
