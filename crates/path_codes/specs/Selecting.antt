-- The case of a `switch` that a value takes (C99 6.8.4.2p4, p5).
use Rattle.std.specs.Prelude.{◌≡◌, ℕ, ℤ, List, [], ◌∷◌, ◌++◌, cond, Some}
use Rattle.plain_data.specs.declared.run.Happening.TheVariants as happening
use Rattle.plain_data.specs.declared.run.Side.{Side}
use Rattle.c_means.specs.declared.kind.Kind.{Kind}
use Rattle.c_means.specs.Items.{same}
use Rattle.core_tree.specs.declared.types.WordType.{WordType}
use Rattle.core_tree.specs.Numbers.{wrapped}
use Rattle.core_tree.specs.States.{Done, Arrow, along}
use Rattle.core_tree.specs.Codes.{chosen_at}
use Rattle.term_bank.specs.declared.sort.Sort.TheVariants.{Truth}
use Rattle.term_bank.specs.declared.sort.Node.{Node}
use Rattle.term_bank.specs.declared.shape.Shape.{Shape}
use Rattle.term_bank.specs.Terms.{IsTerm}
use Rattle.term_bank.specs.Values.{Environment, Values, Models, Grows}
use Rattle.path_states.specs.declared.state.Number.{Number}
use Rattle.path_states.specs.declared.kinds.StateKind.TheVariants.{Known}
use Rattle.path_states.specs.declared.state.State.{State}
use Rattle.path_states.specs.States.{IsNumber, IsState, AreStates, number_in, done_in, standing}
use Rattle.path_states.specs.Ways.{Steps, Goes, Happened}
use Rattle.path_arrows.specs.Arrows.{bare}
use Rattle.path_codes.specs.Courses.{on_top}

-- whether a number that is one of the type is this one
pub record Tells (a b : List Shape) (n : Node) (t : WordType) (x : Number) (z : ℤ) : Type 0 where
  pub grows : Grows a b
  pub term : IsTerm b Truth n
  pub is : (e : Environment) (v : Values) → Models b e v → (w : ℤ) → number_in v x ≡ wrapped t w
      → (v n.index).truth ≡ same (wrapped t w) z

-- the state where this guard is true, on its way to a case, with a side of the `switch` noted
pub record IsOnItsWay (a b : List Shape) (s : State) (guard : Node) (kind : Kind) (at : ℕ) (side : Side) (t : State) : Type 0 where
  pub is : t ≡ record s { guard = guard; kind = Known kind; events = t.events; operands = [] }
  pub happened : Happened a b s.events t.events (record { what = happening.Branch at side; printed = s.position })

-- a run looks for the case of a number, and that is noted; along a log, its position is how many bytes were printed
abbrev pub looks : ℕ → List ℤ → ℤ → Done ℕ → Done ℕ
looks at cases z d = chosen_at (along []) at cases z d

-- the states behind others that a state becomes where a number is the value of a type
pub record Selects (a b : List Shape) (at : ℕ) (t : WordType) (x : Number) (cases : List ℤ) (s : State) (before after : List State)
    : Type 0 where
  pub grows : Grows a b
  pub states : AreStates b after
  pub stands : (e : Environment) (v : Values) → Models b e v → (w : ℤ) → number_in v x ≡ wrapped t w
      → standing v after
      ≡ standing v before ++ cond (v s.guard.index).truth (bare (looks at cases (wrapped t w) (done_in v s)) ∷ []) []

-- What a state becomes at one case: it is chosen, or another state goes on to those that are left.
pub record SelectsCase (a b : List Shape) (at : ℕ) (t : WordType) (x : Number) (case : ℤ) (s : State) (before now : List State)
    (other : State) : Type 0 where
  pub grows : Grows a b
  pub state : IsState b other
  pub number : IsNumber b x
  pub states : AreStates b now
  pub next : (c : List Shape) (rest : List ℤ) (after : List State) → Selects b c at t x rest other now after
      → Selects a c at t x (case ∷ rest) s before after

abbrev pub selects : ℕ → WordType → List ℤ → Environment → ℤ → Arrow ℕ
selects at t cases e z d = Some (looks at cases (wrapped t z) d)

pub record SelectsOne (a b : List Shape) (at : ℕ) (t : WordType) (cases : List ℤ) (s : State) (ts : List State) : Type 0 where
  pub steps : (room : ℕ) → Steps room a b s ts (on_top (selects at t cases))

pub record SelectsAll (a b : List Shape) (at : ℕ) (t : WordType) (cases : List ℤ) (ss ts : List State) : Type 0 where
  pub grows : Grows a b
  pub states : AreStates b ts
  pub goes : (room : ℕ) → Goes room a b ss ts (on_top (selects at t cases))
