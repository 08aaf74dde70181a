-- What holds the texts that code prints.
use Rattle.std.specs.Prelude.{◌≡◌, ◌++◌, ℕ, ℤ, List, ◌∷◌, Option, Some, None, Ok, Err, slice_get}
use Rattle.c_means.specs.Parts.{Env, World, Limits}
use Rattle.c_store.specs.Store.{Store}
use Rattle.core_tree.specs.declared.code.Setting.{Setting}
use Rattle.core_tree.specs.declared.expr.Callee.{Callee}
use Rattle.core_tree.specs.declared.program.Core.{Core}
use Rattle.core_tree.specs.declared.program.Function.{Function}
use Rattle.core_tree.specs.declared.types.ValueType.{ValueType}
use Rattle.core_tree.specs.Callees.{called}
use Rattle.core_tree.specs.Codes.{Item, sets_all}
use Rattle.core_tree.specs.Programs.{body_of, by_body, turns_in}
use Rattle.core_tree.specs.States.{Output, plain, Done, Calls, Level, Outcome, Acts}
use Rattle.core_tree.specs.Values.{Value, arguments}
use Rattle.log_language.specs.declared.told.Told.{Told}
use Rattle.log_language.specs.declared.tree.LogExpr.{LogExpr}
use Rattle.log_language.specs.Language.{Family, Language, texts_at}

-- what a call leaves has printed one of these texts since it began
abbrev pub EndsIn : (List ℕ → Type 0) → Option (Done Output) → Type 0
EndsIn P None = Unit {0}
EndsIn P (Some d) = P d.out.printed

abbrev pub CallsSay : (ℕ → List ℕ → Type 0) → Option (Calls Output) → Type 0
CallsSay P None = Unit {0}
CallsSay P (Some calls) = (f : ℕ) (vs : List ℤ) (base : ℕ) (s : Store) (o : Output) → EndsIn (P f) (calls f vs base s o)

-- where code runs: the turns of its loops, and how many levels are left for its calls
pub record Site : Type 0 where
  pub family : Family
  pub turns : ℕ
  pub left : ℕ

abbrev pub texts : Site → LogExpr → List ℕ → Type 0
texts x e t = Language x.turns (texts_at x.family x.left) e t

-- what runs there
pub record Talk (x : Site) : Type 0 where
  pub size : ℕ → ℕ
  pub room : ℕ → ℕ
  pub world : World
  pub call : Option (Calls Output)
  pub says : CallsSay (texts_at x.family x.left) call

abbrev pub level_by : (x : Site) → Talk x → Level Output
level_by x p = record {
  measures = record { turns = x.turns; size = p.size; room = p.room };
  taking = plain;
  world = p.world;
  limits = x.family.limits;
  call = p.call;
}

-- ---- texts behind what was printed before

pub record Prints (x : Site) (e : LogExpr) (before : List ℕ) (d : Done Output) : Type 0 where
  pub text : List ℕ
  pub is : d.out.printed ≡ before ++ text
  pub said : texts x e text

abbrev pub InOutcome : {A : Type 0} → Site → LogExpr → List ℕ → Outcome Output A → Type 0
InOutcome x e before None = Unit {0}
InOutcome x e before (Some (Ok v)) = Prints x e before v.1
InOutcome x e before (Some (Err d)) = Prints x e before d

abbrev pub InEnd : Site → LogExpr → List ℕ → Option (Done Output) → Type 0
InEnd x e before None = Unit {0}
InEnd x e before (Some d) = Prints x e before d

-- a text of the first is one of the second
abbrev pub Wider : LogExpr → LogExpr → Type 0
Wider a b = (x : Site) (t : List ℕ) → texts x a t → texts x b t

pub record SaysOutcome {A : Type 0} (x : Site) (e : LogExpr) (before : List ℕ) (o : Outcome Output A) : Type 0 where
  pub is : InOutcome x e before o

pub record SaysEnd (x : Site) (e : LogExpr) (before : List ℕ) (o : Option (Done Output)) : Type 0 where
  pub is : InEnd x e before o

-- where a text of the first was printed before, one of the second was behind
pub record TellsValue (v : Value Output) (a b : LogExpr) : Type 0 where
  pub wider : Wider a b
  pub says : (x : Site) (p : Talk x) (before : List ℕ) (env : Env) (base : ℕ) (d : Done Output) → Prints x a before d
      → SaysOutcome x b before (v.run (level_by x p) env base d)

pub record TellsValues (vs : List (Value Output)) (a b : LogExpr) : Type 0 where
  pub wider : Wider a b
  pub says : (x : Site) (p : Talk x) (before : List ℕ) (env : Env) (base : ℕ) (d : Done Output) → Prints x a before d
      → SaysOutcome x b before (arguments vs (level_by x p) env base d)

-- with what is called printed behind it
pub record TellsCall (c : Callee) (a b : LogExpr) : Type 0 where
  pub wider : Wider a b
  pub says : (x : Site) (p : Talk x) (at : ℕ) (type : ValueType) (env : Env) (vs : List ℤ) (base : ℕ) (s : Store) (o : Output)
      → EndsIn (λ u. (t : List ℕ) → texts x a t → texts x b (t ++ u)) (called (level_by x p) c at type env vs base s o)

-- a test or a step that may be missing
abbrev pub TellsMaybe : Option (Value Output) → LogExpr → LogExpr → Type 0
TellsMaybe None a b = b ≡ a
TellsMaybe (Some v) a b = TellsValue v a b

pub record TellsActs (f : Acts Output) (a b : LogExpr) : Type 0 where
  pub wider : Wider a b
  pub says : (x : Site) (p : Talk x) (before : List ℕ) (env : Env) (base : ℕ) (d : Done Output) → Prints x a before d
      → SaysEnd x b before (f (level_by x p) env base d)

-- ---- of what was gone through

pub record GoesValue (v : Value Output) (old now : Told) : Type 0 where
  pub aside : now.aside ≡ old.aside
  pub tells : TellsValue v old.so_far now.so_far

pub record GoesValues (vs : List (Value Output)) (old now : Told) : Type 0 where
  pub aside : now.aside ≡ old.aside
  pub tells : TellsValues vs old.so_far now.so_far

pub record GoesCall (c : Callee) (old now : Told) : Type 0 where
  pub aside : now.aside ≡ old.aside
  pub tells : TellsCall c old.so_far now.so_far

pub record GoesMaybe (v : Option (Value Output)) (old now : Told) : Type 0 where
  pub aside : now.aside ≡ old.aside
  pub tells : TellsMaybe v old.so_far now.so_far

abbrev pub setting_acts : List Setting → ℕ → Acts Output
setting_acts xs a l env base = sets_all xs a l env base

-- what is set of an object, wherever it is, leads on to what is set behind it
pub record GoesSetting (s : Setting) (old now : Told) : Type 0 where
  pub aside : now.aside ≡ old.aside
  pub leads : (rest : List Setting) (b : LogExpr) (n : ℕ) → TellsActs (setting_acts rest n) now.so_far b → TellsActs (setting_acts (s ∷ rest) n) old.so_far b

pub record GoesSettings (xs : List Setting) (old now : Told) : Type 0 where
  pub aside : now.aside ≡ old.aside
  pub tells : (n : ℕ) → TellsActs (setting_acts xs n) old.so_far now.so_far

pub record GoesCode (i : Item Output) (old now : Told) : Type 0 where
  pub aside : now.aside ≡ old.aside
  pub tells : TellsActs i.run old.so_far now.so_far

-- ---- functions

-- the printed bytes of each run of a function's body, however it ends, are a text of the expression, whatever texts are
-- those of the functions that it calls, with one level less
pub record IsExpression (p : Core) (f : ℕ) (e : LogExpr) : Type 0 where
  pub says : (limits : Limits) (of : ℕ → LogExpr) (n : ℕ) (fn : Function) → slice_get p.functions f ≡ Some fn
      → let x : Site = record { family = record { core = p; limits = limits; of = of }; turns = turns_in limits fn; left = n } in
      (talk : Talk x) (vs : List ℤ) (base : ℕ) (s : Store) (o : Output)
      → EndsIn (texts x e) (by_body (level_by x talk) (body_of fn) vs base s o)
