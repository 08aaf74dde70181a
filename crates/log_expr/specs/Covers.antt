-- Positions that hold every run of a part of a program along a log, whatever the calls do that a table has no entry
-- for: such calls aren't made.
use Rattle.std.specs.Prelude.{◌≡◌, ℕ, zero, suc, ℤ, true, cond, List, Option, Some, None, Ok, Err, slice_get, IfSome}
use Rattle.c_means.specs.declared.kind.Kind.TheVariants as k
use Rattle.c_means.specs.Parts.{Env, World, Limits}
use Rattle.c_store.specs.Store.{Store}
use Rattle.core_tree.specs.declared.program.Core.{Core}
use Rattle.core_tree.specs.declared.program.Function.{Function}
use Rattle.core_tree.specs.Codes.{Item}
use Rattle.core_tree.specs.Programs.{body_of, by_body, turns_in}
use Rattle.core_tree.specs.States.{along, Done, Calls, Level, Outcome}
use Rattle.core_tree.specs.Values.{Value, arguments}
use Rattle.positions.specs.Sets.{has}
use Rattle.log_expr.specs.declared.flow.Flow.{Flow}
use Rattle.log_expr.specs.declared.table.Ends.{Ends}
use Rattle.log_expr.specs.declared.table.Entry.{Entry}
use Rattle.log_expr.specs.Flows.{Holds, is_ended}
use Rattle.log_expr.specs.Tables.{Known, ends_at, known_at}

-- a program, a log, and the bounds
pub record Whole : Type 0 where
  pub core : Core
  pub log : List ℕ
  pub limits : Limits

-- ---- what calls leave

-- the positions at which calls come back and at which runs end hold that of this state
abbrev pub Lands : List ℕ → List ℕ → Done ℕ → Type 0
Lands back ended d = cond (is_ended d.kind) (has ended d.out) (has back d.out) ≡ true

abbrev pub IsAmong : List ℕ → List ℕ → Option (Done ℕ) → Type 0
IsAmong back ended None = Unit {0}
IsAmong back ended (Some d) = Lands back ended d

-- one outcome, which is among these
pub record CallAlike (back ended : List ℕ) (a b : Option (Done ℕ)) : Type 0 where
  pub same : a ≡ b
  pub is : IsAmong back ended a

-- where there is an entry, one outcome, which is among its ends
abbrev pub AgreeAt : Option Ends → Option (Done ℕ) → Option (Done ℕ) → Type 0
AgreeAt None a b = Unit {0}
AgreeAt (Some e) a b = CallAlike e.back e.ended a b

-- two ways to do calls, which agree wherever there is an entry
abbrev pub Agree : Known → Option (Calls ℕ) → Option (Calls ℕ) → Type 0
Agree None None None = Unit {0}
Agree (Some t) (Some a) (Some b) =
    (f : ℕ) (vs : List ℤ) (base : ℕ) (s : Store) (o : ℕ) → AgreeAt (t f o) (a f vs base s o) (b f vs base s o)
Agree _ _ _ = ⊥

-- ---- two runs of one part, which differ only in what calls without an entry do

pub record Pair (t : Known) : Type 0 where
  pub size : ℕ → ℕ
  pub room : ℕ → ℕ
  pub world : World
  pub first : Option (Calls ℕ)
  pub second : Option (Calls ℕ)
  pub agree : Agree t first second

abbrev pub level_by : Whole → ℕ → (ℕ → ℕ) → (ℕ → ℕ) → World → Option (Calls ℕ) → Level ℕ
level_by w turns size room world calls = record {
  measures = record { turns = turns; size = size; room = room };
  taking = along w.log;
  world = world;
  limits = w.limits;
  call = calls;
}

abbrev pub one : Whole → ℕ → {t : Known} → Pair t → Level ℕ
one w turns p = level_by w turns p.size p.room p.world p.first

abbrev pub two : Whole → ℕ → {t : Known} → Pair t → Level ℕ
two w turns p = level_by w turns p.size p.room p.world p.second

-- ---- expressions

abbrev pub InValue : {A : Type 0} → List ℕ → List ℕ → Outcome ℕ A → Type 0
InValue to ended None = Unit {0}
InValue to ended (Some (Ok v)) = (v.1.kind ≡ k.Running) × (has to v.1.out ≡ true)
InValue to ended (Some (Err d)) = (is_ended d.kind ≡ true) × (has ended d.out ≡ true)

pub record ValueAlike {A : Type 0} (to ended : List ℕ) (a b : Outcome ℕ A) : Type 0 where
  pub same : a ≡ b
  pub is : InValue to ended a

-- from one of the first positions on it is worth a value at one of the second, or ends at one of the last
pub record CoversValue (w : Whole) (turns : ℕ) (t : Known) (v : Value ℕ) (from to ended : List ℕ) : Type 0 where
  pub alike : (p : Pair t) (env : Env) (base : ℕ) (d : Done ℕ) → d.kind ≡ k.Running → has from d.out ≡ true
      → ValueAlike to ended (v.run (one w turns p) env base d) (v.run (two w turns p) env base d)

-- arguments
pub record CoversValues (w : Whole) (turns : ℕ) (t : Known) (xs : List (Value ℕ)) (from to ended : List ℕ) : Type 0
  where
    pub alike : (p : Pair t) (env : Env) (base : ℕ) (d : Done ℕ) → d.kind ≡ k.Running → has from d.out ≡ true
        → ValueAlike to ended (arguments xs (one w turns p) env base d) (arguments xs (two w turns p) env base d)

-- ---- code

abbrev pub InFlow : Flow → Option (Done ℕ) → Type 0
InFlow s None = Unit {0}
InFlow s (Some d) = Holds s d

pub record FlowAlike (s : Flow) (a b : Option (Done ℕ)) : Type 0 where
  pub same : a ≡ b
  pub is : InFlow s a

-- wherever a run stands that the first holds, the second holds where it stands behind
pub record CoversCode (w : Whole) (turns : ℕ) (t : Known) (x : Item ℕ) (s u : Flow) : Type 0 where
  pub alike : (p : Pair t) (env : Env) (base : ℕ) (d : Done ℕ) → Holds s d
      → FlowAlike u (x.run (one w turns p) env base d) (x.run (two w turns p) env base d)

-- ---- functions

pub record CoversBody (w : Whole) (t : Known) (fn : Function) (start : ℕ) (e : Ends) : Type 0 where
  pub alike : (p : Pair t) (vs : List ℤ) (base : ℕ) (s : Store)
      → CallAlike e.back e.ended (by_body (one w (turns_in w.limits fn) p) (body_of fn) vs base s start)
      (by_body (two w (turns_in w.limits fn) p) (body_of fn) vs base s start)

-- a key has one level at least: that of the function
abbrev pub CoversKey : Whole → List (List Entry) → ℕ → ℕ → ℕ → Ends → Type 0
CoversKey w rows f zero start e = ⊥
CoversKey w rows f (suc n) start e =
    IfSome (slice_get w.core.functions f) (λ fn. CoversBody w (known_at rows n) fn start e)

-- each entry holds what its function does, with the entries for its calls
pub record IsClosed (w : Whole) (rows : List (List Entry)) : Type 0 where
  pub covers : (f d start : ℕ) (e : Ends) → ends_at rows f d start ≡ Some e → CoversKey w rows f d start e
