-- What functions do along a log, with so many levels of calls left below them, as the summaries say it.
use Rattle.std.specs.Prelude.{◌≡◌, ℕ, zero, suc, List, [], ◌∷◌, map, Option, Some, None, slice_get}
use Rattle.plain_data.specs.declared.bounds.Bounds.{Bounds}
use Rattle.c_means.specs.Parts.{World, Limits}
use Rattle.c_store.specs.Store.{Store}
use Rattle.c_means.specs.Units.{silent, limits_of}
use Rattle.core_tree.specs.declared.program.Core.{Core}
use Rattle.core_tree.specs.declared.program.Function.{Function}
use Rattle.core_tree.specs.declared.program.Parameter.{Parameter}
use Rattle.core_tree.specs.declared.types.ValueType.{ValueType}
use Rattle.core_tree.specs.Programs.{Machine, machine, measures_of, calls_of, body_of, body_room}
use Rattle.core_tree.specs.States.{Calls, Measures, along}
use Rattle.log_expr.specs.declared.table.Ends.{Ends}
use Rattle.log_expr.specs.declared.table.Entry.{Entry}
use Rattle.log_expr.specs.Sound.{run_at, where_known}
use Rattle.log_expr.specs.Tables.{ends_at}
use Rattle.log_expr.specs.Tours.{Tour}
use Rattle.term_bank.specs.declared.shape.Shape.{Shape}
use Rattle.term_bank.specs.Values.{Environment, Values, Models}
use Rattle.path_states.specs.States.{AreStates, IsRoomy, IsSized, AllSized, standing}
use Rattle.path_states.specs.Ways.{to_list}
use Rattle.path_steps.specs.Memories.{IsScalar}
use Rattle.path_arrows.specs.Arrows.{bared}
use Rattle.path_forms.specs.Around.{Around}
use Rattle.summary_compose.specs.declared.summary.Summary.{Summary}
use Rattle.summary_compose.specs.Summaries.{world_in, entry_values}

abbrev pub machine_in : Tour → World → Machine ℕ
machine_in t w = machine (along t.log) t.core w t.limits t.depth

-- of every world alike
abbrev pub measures_in : Tour → ℕ → Function → Measures
measures_in t n f = measures_of (machine_in t silent) n f

-- how many places a function takes with so many levels left below it
abbrev pub room_in : Tour → ℕ → Function → ℕ
room_in t n f = body_room {O = ℕ} (body_of f) (measures_in t n f)

-- what a function does with so many levels left below it
abbrev pub does : Tour → ℕ → World → Calls ℕ
does t n w f vs base s o = run_at (machine_in t w) n (calls_of (machine_in t w) n) f vs base s o

-- calls, with so many levels left: those without an entry are made by no run, and have no outcome here
abbrev pub known : Tour → ℕ → World → Option (Calls ℕ)
known t zero w = None
known t (suc n) w = Some (λ f vs base s o. where_known (ends_at t.ends f (suc n) o) (does t n w f vs base s o) None)

abbrev pub around_in : Tour → ℕ → Function → Around
around_in t n f = record {
  measures = measures_in t n f;
  log = t.log;
  limits = t.limits;
  calls = λ e. known t n (world_in e);
}

-- ---- summaries of keys

abbrev pub types_of : List Parameter → List ValueType
types_of ps = map (λ p. p.stored) ps

abbrev pub AreScalar : List ValueType → Type 0
AreScalar [] = Unit {0}
AreScalar (t ∷ ts) = IsScalar t × AreScalar ts

-- The ends of a function from a position in the log on, with so many levels of calls left below it: in each environment
-- with the room at most one state stands, and one does exactly where the run of the body goes on along the log.
pub record StandsFor (t : Tour) (b : List Shape) (f n start : ℕ) (s : Summary) : Type 0 where
  pub function : Function
  pub is : slice_get t.core.functions f ≡ Some function
  pub parameters : s.parameters ≡ types_of function.parameters
  pub scalars : AreScalar s.parameters
  pub states : AreStates b s.states
  pub stands : (e : Environment) (v : Values) → Models b e v → IsRoomy (room_in t n function) e → IsSized e.entry
      → standing v s.states
      ≡ to_list (bared (does t n (world_in e) f (entry_values e 0 s.parameters) e.base e.entry start))
  pub sized : (e : Environment) → IsRoomy (room_in t n function) e → (q : Store) → IsSized q
      → AllSized (bared (does t n (world_in e) f (entry_values e 0 s.parameters) e.base q start))

-- each key with so many levels left has a summary
abbrev pub IsComplete : Tour → List Shape → ℕ → Type 0
IsComplete t b zero = Unit {0}
IsComplete t b (suc n) = (f start : ℕ) (e : Ends) → ends_at t.ends f (suc n) start ≡ Some e → (s : Summary) × StandsFor t b f n start s
