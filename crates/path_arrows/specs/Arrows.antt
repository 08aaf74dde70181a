-- What arrows of the core make of runs between two steps of code: such a run has no operands.
use Rattle.std.specs.Prelude.{◌≡◌, ℕ, ℤ, List, [], ◌∷◌, ◌++◌, Bool, true, false, Option, Some, None}
use Rattle.c_means.specs.declared.kind.Kind.TheVariants as k
use Rattle.core_tree.specs.States.{Done, Arrow, where_running, running, become}
use Rattle.term_bank.specs.declared.shape.Shape.{Shape}
use Rattle.term_bank.specs.Values.{Environment, Values, Grows}
use Rattle.path_states.specs.declared.kinds.StateKind.{StateKind}
use Rattle.path_states.specs.declared.kinds.StateKind.TheVariants.{Known, Exited}
use Rattle.path_states.specs.declared.state.State.{State}
use Rattle.path_states.specs.States.{Held, AreStates}
use Rattle.path_states.specs.Ways.{Way, Goes}
use Rattle.path_steps.specs.Operands.{top}
use Rattle.path_arrows.specs.declared.sifting.Sifted.{Sifted}

abbrev pub bare : Done ℕ → Held
bare d = record { operands = []; done = d }

abbrev pub bared : Option (Done ℕ) → Option Held
bared None = None
bared (Some d) = Some (bare d)

-- an arrow, that may depend on the environment
abbrev pub by_arrow : (Environment → Arrow ℕ) → Way
by_arrow f e v h = bared (f e h.done)

-- ---- runs that are running, and the others

abbrev pub is_running : StateKind → Bool
is_running (Known kind) = where_running kind true false
is_running (Exited status) = false

-- those that are running stay as they are
abbrev pub while_running : Way
while_running e v h = where_running h.done.kind (Some h) None

-- the others pass
abbrev pub unless_running : Way
unless_running e v h = where_running h.done.kind None (Some (bare h.done))

abbrev pub without_operands : State → State
without_operands s = record s { operands = [] }

abbrev pub sorted : Bool → Sifted → State → Sifted
sorted true x s = record { running = x.running ++ s ∷ []; others = x.others }
sorted false x s = record { running = x.running; others = x.others ++ without_operands s ∷ [] }

pub record Sifts (a : List Shape) (ss : List State) (x : Sifted) : Type 0 where
  pub running_states : AreStates a x.running
  pub other_states : AreStates a x.others
  pub running : (room : ℕ) → Goes room a a ss x.running while_running
  pub others : (room : ℕ) → Goes room a a ss x.others unless_running

-- ---- ends of steps

-- the value on top is what a `return` gives (C99 6.8.6.4p3)
abbrev pub gives : Held → Held
gives h = bare (record h.done { kind = k.Returning; value = Some (top h.operands) })

abbrev pub returning : Way
returning e v h = Some (gives h)
