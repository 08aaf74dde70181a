-- Where a step ends the run: the first exit whose truth is true, else what follows.
use Rattle.std.specs.Prelude.{◌≡◌, ℕ, List, [], ◌∷◌, ◌++◌, Bool, false, cond, not, Option, Some, None, Result, Ok, Err}
use Rattle.plain_data.specs.declared.run.Finish.TheVariants as finish
use Rattle.core_tree.specs.States.{Done, finished}
use Rattle.term_bank.specs.declared.sort.Sort.TheVariants.{Truth}
use Rattle.term_bank.specs.declared.sort.Node.{Node}
use Rattle.term_bank.specs.declared.shape.Shape.{Shape}
use Rattle.term_bank.specs.Terms.{IsTerm}
use Rattle.term_bank.specs.Values.{Environment, Values, Models, Grows}
use Rattle.path_states.specs.declared.state.State.{State}
use Rattle.path_states.specs.declared.state.Walked.{Walked}
use Rattle.path_states.specs.States.{Held, AreStates, run_in, done_in, standing}
use Rattle.path_states.specs.Ways.{to_list, going, ending}
use Rattle.path_numbers.specs.declared.tested.Fault.{Fault}
use Rattle.path_steps.specs.declared.settling.Exit.{Exit}

pub record IsExit (b : List Shape) (x : Exit) : Type 0 where
  pub term : IsTerm b Truth x.truth

abbrev pub IsMaybeExit : List Shape → Option Exit → Type 0
IsMaybeExit b None = Unit {0}
IsMaybeExit b (Some x) = IsExit b x

abbrev pub exit_in : Values → Option Exit → Done ℕ → Option (Result Held (Done ℕ)) → Option (Result Held (Done ℕ))
exit_in v None d r = r
exit_in v (Some x) d r = cond (v x.truth.index).truth (Some (Err (finished x.finish d))) r

-- a run leaves by one of two exits, or goes on as the next state says
abbrev pub settled_in : Values → State → State → Option Exit → Option Exit → Option (Result Held (Done ℕ))
settled_in v s next x y = exit_in v x (done_in v s) (exit_in v y (done_in v s) (Some (Ok (run_in v next))))

pub record Settles (a b : List Shape) (s next : State) (x y : Option Exit) (w : Walked) : Type 0 where
  pub grows : Grows a b
  pub going_states : AreStates b w.going
  pub ended_states : AreStates b w.ended
  pub going_is : (e : Environment) (v : Values) → Models b e v
      → standing v w.going ≡ cond (v s.guard.index).truth (to_list (going (settled_in v s next x y))) []
  pub ended_is : (e : Environment) (v : Values) → Models b e v
      → standing v w.ended ≡ cond (v s.guard.index).truth (to_list (ending (settled_in v s next x y))) []

-- ---- one exit

-- what the state that left says, where the guard is true
abbrev pub exited : Values → State → Node → Option Exit → List Held
exited v s g None = []
exited v s g (Some x) =
    cond (cond (v g.index).truth (v x.truth.index).truth false)
    (record { operands = []; done = finished x.finish (done_in v s) } ∷ []) []

-- whether the guard is true and the run doesn't leave
abbrev pub remains : Values → Node → Option Exit → Bool
remains v g None = (v g.index).truth
remains v g (Some x) = cond (v g.index).truth (not (v x.truth.index).truth) false

pub record Leaves (a b : List Shape) (s : State) (g h : Node) (x : Option Exit) (before after : List State) : Type 0 where
  pub grows : Grows a b
  pub guard : IsTerm b Truth h
  pub states : AreStates b after
  pub guard_is : (e : Environment) (v : Values) → Models b e v → (v h.index).truth ≡ remains v g x
  pub ended : (e : Environment) (v : Values) → Models b e v → standing v after ≡ standing v before ++ exited v s g x

-- a fault as an exit at a token
abbrev pub exit_at : ℕ → Option Fault → Option Exit
exit_at at None = None
exit_at at (Some f) = Some (record { truth = f.truth; finish = finish.Stopped f.kind at })
