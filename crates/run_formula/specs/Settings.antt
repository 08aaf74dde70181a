-- Initializers of what lives throughout the run, in order, before `main` is called (C99 5.1.2, 6.7.8p4).
use Rattle.std.specs.Prelude.{◌≡◌, ℕ, ◌+◌, List, [], ◌∷◌, Option, Some, None}
use Rattle.plain_data.specs.declared.bounds.Bounds.{Bounds}
use Rattle.c_store.specs.Store.{start, initial}
use Rattle.c_means.specs.Units.{limits_of}
use Rattle.core_tree.specs.declared.program.LastingSetting.{LastingSetting}
use Rattle.core_tree.specs.Codes.{sets}
use Rattle.core_tree.specs.Programs.{prepared}
use Rattle.core_tree.specs.States.{Done, Arrow, along, entered, onward, running}
use Rattle.term_bank.specs.declared.shape.Shape.{Shape}
use Rattle.term_bank.specs.Values.{Environment, Values, Models, Grows}
use Rattle.path_states.specs.declared.state.State.{State}
use Rattle.path_states.specs.States.{AreStates, AllSized, standing}
use Rattle.path_states.specs.Ways.{Goes, to_list}
use Rattle.path_arrows.specs.Arrows.{bare, bared, by_arrow}
use Rattle.path_forms.specs.Around.{Around, level_at, env_at}
use Rattle.summary_compose.specs.Summaries.{world_in}
use Rattle.log_expr.specs.Tours.{Tour}
use Rattle.path_summaries.specs.Tours.{machine_in}

-- where no function runs, and none is called
abbrev pub still_around : List ℕ → Bounds → Around
still_around log b = record {
  measures = record { turns = (limits_of b).turns; size = λ g. 0; room = λ g. 0 };
  log = log;
  limits = limits_of b;
  calls = λ e. None;
}

-- one initializer, of the object of a place behind the base, by a run that is running
abbrev pub one_set : Around → LastingSetting → Environment → Arrow ℕ
one_set x s e =
    running (sets s.setting (start (e.base + s.place)) (level_at x e) (env_at [] e) (e.base + 0))

abbrev pub all_set : Around → List LastingSetting → Environment → Arrow ℕ
all_set x [] e d = Some d
all_set x (s ∷ ss) e d = onward (one_set x s e d) (all_set x ss e)

-- the states behind these initializers
pub record Sets (x : Around) (room : ℕ) (xs : List LastingSetting) (a b : List Shape) (ss ts : List State) : Type 0 where
  pub grows : Grows a b
  pub states : AreStates b ts
  pub goes : Goes room a b ss ts (by_arrow (all_set x xs))

-- one state, in which each run begins over the memory that the entry finds
pub record Starts (log : List ℕ) (a b : List Shape) (ss : List State) : Type 0 where
  pub grows : Grows a b
  pub states : AreStates b ss
  pub stand : (e : Environment) (v : Values) → Models b e v → standing v ss ≡ bare (entered (along log) e.entry 0) ∷ []

-- what is before `main` is called, in the world of an environment
abbrev pub readied : Tour → Environment → Option (Done ℕ)
readied t e = prepared (machine_in t (world_in e)) (entered (along t.log) (initial e.bytes) 0)

-- the states before `main` is called, in each environment as in its world
pub record Readies (t : Tour) (a b : List Shape) (ss : List State) : Type 0 where
  pub grows : Grows a b
  pub states : AreStates b ss
  pub stand : (e : Environment) (v : Values) → Models b e v → standing v ss ≡ to_list (bared (readied t e))
  pub sized : (e : Environment) (v : Values) → Models b e v → AllSized (bared (readied t e))
