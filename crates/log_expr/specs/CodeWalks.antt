-- What walks of code find.
use Rattle.std.specs.Prelude.{◌≡◌, ℕ, ℤ, Bool, true, false, List, ◌∷◌, Option}
use Rattle.c_means.specs.declared.kind.Kind.TheVariants as k
use Rattle.c_means.specs.Parts.{Env}
use Rattle.core_tree.specs.declared.code.Setting.{Setting}
use Rattle.core_tree.specs.Codes.{Item, tested, sets_all, maybe_evaluated}
use Rattle.core_tree.specs.States.{Done, Acts, Arrow, running}
use Rattle.core_tree.specs.Values.{Value}
use Rattle.positions.specs.Sets.{has}
use Rattle.log_expr.specs.declared.course.Course.{Course}
use Rattle.log_expr.specs.declared.flow.Flow.{Flow}
use Rattle.log_expr.specs.declared.table.Entry.{Entry}
use Rattle.log_expr.specs.Below.{Site, Extends, ReachesValue, ReachesCode}
use Rattle.log_expr.specs.Courses.{but_running, SetAsideStays, IsPassedMore}
use Rattle.log_expr.specs.Covers.{Whole, Pair, one, two, FlowAlike}
use Rattle.log_expr.specs.Flows.{Arrives, unchanged, Wider, Holds}
use Rattle.log_expr.specs.Tables.{Known, known_at, Grows}

-- wherever a run stands that the first holds, the second holds where it stands behind
pub record CoversActs (w : Whole) (turns : ℕ) (t : Known) (f : Acts ℕ) (s u : Flow) : Type 0 where
  pub alike : (p : Pair t) (env : Env) (base : ℕ) (d : Done ℕ) → Holds s d
      → FlowAlike u (f (one w turns p) env base d) (f (two w turns p) env base d)

-- from one of the first positions on a test leads to one of the second where it holds; where it doesn't, or where the
-- run ends in it, the flow holds it
pub record CoversTest (w : Whole) (turns : ℕ) (t : Known) (c : Option (Value ℕ)) (from to : List ℕ) (u : Flow) : Type 0
  where
    pub alike : (p : Pair t) (env : Env) (base : ℕ) (d : Done ℕ) → d.kind ≡ k.Running → has from d.out ≡ true
        → (at : ℕ) (v : Flow) (f g : Bool → Arrow ℕ) → Wider u.ended v.ended
        → ((e : Done ℕ) → e.kind ≡ k.Running → has to e.out ≡ true → FlowAlike v (f true e) (g true e))
        → ((e : Done ℕ) → e.kind ≡ k.Running → has u.running e.out ≡ true → FlowAlike v (f false e) (g false e))
        → FlowAlike v (tested at c (one w turns p) env base f d) (tested at c (two w turns p) env base g d)

-- ---- what was walked

-- an expression of runs that are running
pub record Evaluates (x : Site) (rows rows' : List (List Entry)) (v : Value ℕ) (old now : Flow) : Type 0 where
  pub rest : now ≡ record old { running = now.running; ended = now.ended }
  pub value : ReachesValue x rows rows' v old.running now.running old.ended now.ended

pub record WalksAction (x : Site) (rows rows' : List (List Entry)) (v : Value ℕ) (old now : Course) : Type 0 where
  pub stays : SetAsideStays old now
  pub evaluates : Evaluates x rows rows' v old.at now.at

pub record WalksTest (x : Site) (rows rows' : List (List Entry)) (c : Option (Value ℕ)) (old now : Course) : Type 0
  where
    pub rest : IsPassedMore old now
    pub extends_ : Extends x.whole rows rows'
    pub covers : CoversTest x.whole x.turns (known_at rows' x.left) c old.at.running now.at.running now.passing
    pub kept : now.at ≡ record old.at { running = now.at.running; ended = now.at.ended }

pub record WalksStep (x : Site) (rows rows' : List (List Entry)) (c : Option (Value ℕ)) (old now : Course) : Type 0
  where
    pub stays : SetAsideStays old now
    pub kept : now.at ≡ record old.at { running = now.at.running; ended = now.at.ended }
    pub step : ReachesCode x rows rows' (maybe_evaluated c) old.at now.at

abbrev pub setting_acts : List Setting → ℕ → Acts ℕ
setting_acts xs a l env base = running (sets_all xs a l env base)

-- what a declaration sets of an object, wherever it is: it leads on to what is set behind it
pub record WalksSetting (x : Site) (rows rows' : List (List Entry)) (s : Setting) (old now : Course) : Type 0 where
  pub stays : SetAsideStays old now
  pub extends_ : Extends x.whole rows rows'
  pub kept : Arrives unchanged (but_running old.at) (but_running now.at)
  pub leads : (rest : List Setting) (last : List (List Entry)) (u : Flow) (a : ℕ) → Grows rows' last
      → Arrives unchanged (but_running now.at) u
      → CoversActs x.whole x.turns (known_at last x.left) (setting_acts rest a) now.at u
      → CoversActs x.whole x.turns (known_at last x.left) (setting_acts (s ∷ rest) a) old.at u

-- all that it sets
pub record WalksSettings (x : Site) (rows rows' : List (List Entry)) (xs : List Setting) (old now : Course) : Type 0
  where
    pub stays : SetAsideStays old now
    pub extends_ : Extends x.whole rows rows'
    pub covers : (a : ℕ) → CoversActs x.whole x.turns (known_at rows' x.left) (setting_acts xs a) old.at now.at

-- code: nothing that was set aside was touched
pub record WalksCode (x : Site) (rows rows' : List (List Entry)) (i : Item ℕ) (old now : Course) : Type 0 where
  pub stays : SetAsideStays old now
  pub code : ReachesCode x rows rows' i old.at now.at
