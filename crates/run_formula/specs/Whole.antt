-- All runs of a program along a log at once.
use Rattle.std.specs.Prelude.{◌≡◌, ℕ, suc, ◌+◌, ◌-◌, ◌<◌, ◌≤◌, ◌^◌, List, [], ◌∷◌, Bool, true, cond, Option, Some, slice_get}
use Rattle.c_means.specs.Parts.{World, Limits}
use Rattle.core_tree.specs.declared.program.Core.{Core}
use Rattle.core_tree.specs.Programs.{argument_count, end_of, entry_room, given_arguments, main_arguments}
use Rattle.core_tree.specs.States.{Done, Arrow, running}
use Rattle.term_bank.specs.declared.sort.Node.{Node}
use Rattle.term_bank.specs.declared.shape.Shape.{Shape}
use Rattle.term_bank.specs.Values.{Environment, Values, Models, Grows}
use Rattle.path_states.specs.declared.state.State.{State}
use Rattle.path_states.specs.States.{Held, AreStates, IsSized, run_in, standing}
use Rattle.path_states.specs.Ways.{to_list}
use Rattle.path_arrows.specs.Arrows.{bared}
use Rattle.summary_compose.specs.declared.summary.Summary.{Summary}
use Rattle.summary_compose.specs.Renaming.{each_of}
use Rattle.summary_compose.specs.Summaries.{world_in}
use Rattle.log_expr.specs.Tours.{Tour}
use Rattle.path_summaries.specs.Tours.{StandsFor, machine_in, does, room_in}
use Rattle.run_formula.specs.Arguments.{TakesGiven, places_given}

-- the run along the log, in the world of an environment
abbrev pub run_in_world : Tour → Environment → Option (Done ℕ)
run_in_world t e = end_of (machine_in t (world_in e)) 0

-- In each environment at most one of the states stands: one does exactly where the run prints on along the log, and
-- says how it ends. Nothing but the environment's world decides.
pub record RunsAll (t : Tour) (a b : List Shape) (ss : List State) : Type 0 where
  pub grows : Grows a b
  pub states : AreStates b ss
  pub stand : (e : Environment) (v : Values) → Models b e v → standing v ss ≡ to_list (bared (run_in_world t e))

-- ---- `main`, with the arguments that it is given, if any

-- from a store in which these stand
abbrev pub main_from : Tour → Environment → Arrow ℕ
main_from t e d =
    does t (t.depth - 1) (world_in e) t.core.main
    (main_arguments t.core.has_arguments (world_in e) t.limits (suc t.core.places))
    (suc t.core.places + entry_room t.core t.limits) d.store d.out

abbrev pub main_arrow : Tour → Environment → Arrow ℕ
main_arrow t e d = main_from t e (given_arguments t.core.has_arguments (machine_in t (world_in e)) (suc t.core.places) d)

-- what becomes of a run behind what was before `main` is called: where it is running, `main` is
abbrev pub main_list : Tour → Environment → Held → List Held
main_list t e h = to_list (bared (running (main_arrow t e) h.done))

-- The summary of `main` at the log's start, in a program that gives it arguments or none; and the place from which on
-- what it is given, and its own places, have numbers below 2^32.
pub record IsMain (given : Bool) (l : Limits) (t : Tour) (b : List Shape) (s : Summary) (place : ℕ) : Type 0 where
  pub begun : List Shape
  pub grown : Grows begun b
  pub stands : StandsFor t begun t.core.main (t.depth - 1) 0 s
  pub has : t.core.has_arguments ≡ given
  pub limits : t.limits ≡ l
  pub few : (w : World) (p : ℕ) → argument_count w l p < 2 ^ 31
  pub takes : TakesGiven given s.parameters
  pub behind : place ≡ suc t.core.places
  pub within : (place + places_given given l) + room_in t (t.depth - 1) stands.function ≤ 2 ^ 32

abbrev pub AllSizedIn : List Held → Type 0
AllSizedIn [] = Unit {0}
AllSizedIn (h ∷ hs) = IsSized h.done.store × AllSizedIn hs

-- the same states, where a guard is true besides their own
pub record Guards (a b : List Shape) (guard : Node) (ss ts : List State) : Type 0 where
  pub grows : Grows a b
  pub states : AreStates b ts
  pub stand : (e : Environment) (v : Values) → Models b e v
      → standing v ts ≡ cond (v guard.index).truth (standing v ss) []

-- the ends of the runs of a state, by the summary of `main`
pub record EntersOne (given : Bool) (l : Limits) (a b : List Shape) (m : Summary) (place : ℕ) (s : State) (ts : List State) : Type 0 where
  pub grows : Grows a b
  pub states : AreStates b ts
  pub stand : (t : Tour) → IsMain given l t a m place → (e : Environment) (v : Values) → Models b e v
      → ((v s.guard.index).truth ≡ true → IsSized (run_in v s).done.store)
      → standing v ts ≡ cond (v s.guard.index).truth (main_list t e (run_in v s)) []

-- the ends of the runs of all
pub record EntersAll (given : Bool) (l : Limits) (a b : List Shape) (m : Summary) (place : ℕ) (ss ts : List State) : Type 0 where
  pub grows : Grows a b
  pub states : AreStates b ts
  pub stand : (t : Tour) → IsMain given l t a m place → (e : Environment) (v : Values) → Models b e v
      → AllSizedIn (standing v ss)
      → standing v ts ≡ each_of (main_list t e) (standing v ss)

-- the place behind those of what lives throughout the run, from which on what `main` is given, and its own places, have
-- numbers below 2^32
pub record HasRoom (p : Core) (l : Limits) (rooms : List (Option ℕ)) (place : ℕ) : Type 0 where
  pub room : ℕ
  pub behind : place ≡ suc p.places
  pub told : slice_get rooms p.main ≡ Some (Some room)
  pub within : (place + places_given p.has_arguments l) + room ≤ 2 ^ 32
