-- Expressions, code and functions, each with what it is worth, so that worked rows compute and speak of trees.
use Rattle.std.proofs.Common.{
  ◌≡◌,
  ℕ,
  zero,
  suc,
  ℤ,
  List,
  [],
  ◌∷◌,
  Bool,
  true,
  false,
  Option,
  Some,
  None,
  refl,
  ap,
  ap₂,
  ◌∙◌,
}
use Rattle.std.proofs.Math.Path.{fun_ext}
use Rattle.std.specs.Prelude.{map, option_map, slice_get}
use Rattle.c_means.specs.Parts.{World, Limits}
use Rattle.c_language.specs.Scopes.{Name}
use Rattle.core_tree.specs.declared.code.Code.{Code}
use Rattle.core_tree.specs.declared.code.Code.TheOpen as code_open
use Rattle.core_tree.specs.declared.code.Code.TheVariants as tree
use Rattle.core_tree.specs.declared.expr.Callee.{Callee}
use Rattle.core_tree.specs.declared.expr.Expr.{Expr}
use Rattle.core_tree.specs.declared.expr.Expr.TheOpen as expr_open
use Rattle.core_tree.specs.declared.expr.Expr.TheVariants as expr
use Rattle.core_tree.specs.declared.program.Core.{Core}
use Rattle.core_tree.specs.declared.program.Function.{Function}
use Rattle.core_tree.specs.declared.program.Parameter.{Parameter}
use Rattle.core_tree.specs.declared.types.Access.{Access}
use Rattle.core_tree.specs.declared.types.Answered.{Answered}
use Rattle.core_tree.specs.declared.types.Operator.{Operator}
use Rattle.core_tree.specs.declared.types.ValueType.{ValueType}
use Rattle.core_tree.specs.declared.types.WordType.{WordType}
use Rattle.core_tree.specs.States.{Taking}
use Rattle.core_tree.specs.Values.{Value, value, value_step}
use Rattle.c_means.specs.Items.{at_case}
use Rattle.core_tree.specs.Codes.{Item, code, code_step, in_turn, evaluated, arrived, if_of, switch_of, looped}
use Rattle.core_tree.specs.Codes.{repeated, return_of}
use Rattle.core_tree.specs.Programs.{Body, body_of, maybe_body, Machine, machine}
use Rattle.core_tree.proofs.Equations as eq

pub record OfExpr (O : Type 0) : Type 0 where
  pub e : Expr
  pub worth : Value O
  pub is : value e ≡ worth

pub record OfCode (O : Type 0) : Type 0 where
  pub c : Code
  pub does : Item O
  pub is : code c ≡ does

pub record OfBody (O : Type 0) : Type 0 where
  pub function : Function
  pub body : Body O
  pub is : body_of function ≡ body

-- a function of the source
abbrev pub head : ℕ → Name → List Parameter → List Code → Function
head at name ps cs = record {
  at = at;
  name = name;
  is_prelude = false;
  may_miss = false;
  parameters = ps;
  items = cs;
}

module _ {O : Type 0} where
  -- ---- lists and what may be left out

  abbrev pub exprs : List (OfExpr O) → List Expr
  exprs [] = []
  exprs (x ∷ xs) = x.e ∷ exprs xs

  abbrev pub worths : List (OfExpr O) → List (Value O)
  worths [] = []
  worths (x ∷ xs) = x.worth ∷ worths xs

  pub all_worth : (xs : List (OfExpr O)) → map value (exprs xs) ≡ worths xs
  all_worth [] = refl
  all_worth (x ∷ xs) = ap₂ (λ a b. a ∷ b) x.is (all_worth xs)

  abbrev pub codes : List (OfCode O) → List Code
  codes [] = []
  codes (x ∷ xs) = x.c ∷ codes xs

  abbrev pub does_all : List (OfCode O) → List (Item O)
  does_all [] = []
  does_all (x ∷ xs) = x.does ∷ does_all xs

  pub all_do : (xs : List (OfCode O)) → map code (codes xs) ≡ does_all xs
  all_do [] = refl
  all_do (x ∷ xs) = ap₂ (λ a b. a ∷ b) x.is (all_do xs)

  abbrev pub expr_if : Option (OfExpr O) → Option Expr
  expr_if None = None
  expr_if (Some x) = Some x.e

  abbrev pub worth_if : Option (OfExpr O) → Option (Value O)
  worth_if None = None
  worth_if (Some x) = Some x.worth

  pub maybe_worth : (x : Option (OfExpr O)) → option_map value (expr_if x) ≡ worth_if x
  maybe_worth None = refl
  maybe_worth (Some x) = ap (λ a. Some a) x.is

  -- ---- expressions

  abbrev pub number : ℤ → OfExpr O
  number z = record {
    e = expr.Constant z;
    worth = value_step (expr_open.Constant z);
    is = eq.worth-Constant z;
  }

  abbrev pub local : ℕ → OfExpr O
  local at = record { e = expr.Local at; worth = value_step (expr_open.Local at); is = eq.worth-Local at }

  abbrev pub fixed : ℕ → OfExpr O
  fixed p = record { e = expr.Fixed p; worth = value_step (expr_open.Fixed p); is = eq.worth-Fixed p }

  abbrev pub load : Access → OfExpr O → OfExpr O
  load a x = record {
    e = expr.Load a x.e;
    worth = value_step (expr_open.Load a x.worth);
    is = eq.worth-Load a x.e ∙ ap (λ w. value_step (expr_open.Load a w)) x.is;
  }

  abbrev pub operate : ℕ → Operator → OfExpr O → OfExpr O → OfExpr O
  operate at op x y = record {
    e = expr.Operate at op false x.e y.e;
    worth = value_step (expr_open.Operate at op false x.worth y.worth);
    is = eq.worth-Operate at op false x.e y.e
        ∙ ap₂ (λ a b. value_step (expr_open.Operate at op false a b)) x.is y.is;
  }

  abbrev pub store : ℕ → Access → OfExpr O → OfExpr O → OfExpr O
  store at a x y = record {
    e = expr.Store at a x.e y.e;
    worth = value_step (expr_open.Store at a x.worth y.worth);
    is = eq.worth-Store at a x.e y.e ∙ ap₂ (λ b c. value_step (expr_open.Store at a b c)) x.is y.is;
  }

  abbrev pub step : ℕ → Operator → Access → Answered → OfExpr O → OfExpr O
  step at op a answer x = record {
    e = expr.Step at op a answer x.e;
    worth = value_step (expr_open.Step at op a answer x.worth);
    is = eq.worth-Step at op a answer x.e ∙ ap (λ b. value_step (expr_open.Step at op a answer b)) x.is;
  }

  abbrev pub call : ℕ → List (OfExpr O) → Callee → ValueType → Bool → OfExpr O
  call at xs c t used = record {
    e = expr.Call at (exprs xs) c t used;
    worth = value_step (expr_open.Call at (worths xs) c t used);
    is = eq.worth-Call at (exprs xs) c t used ∙ ap (λ ws. value_step (expr_open.Call at ws c t used)) (all_worth xs);
  }

  -- ---- code

  abbrev pub does : OfExpr O → OfCode O
  does x = record {
    c = tree.Value true x.e;
    does = evaluated true x.worth;
    is = eq.does-Value true x.e ∙ ap (λ w. evaluated true w) x.is;
  }

  -- without initializer
  abbrev pub declare : ℕ → ℕ → OfCode O
  declare at size = record {
    c = tree.Declare at size false [];
    does = code_step (code_open.Declare at size false []);
    is = eq.does-Declare at size false [];
  }

  abbrev pub block : List (OfCode O) → OfCode O
  block xs = record {
    c = tree.Block true (codes xs);
    does = code_step (code_open.Block true (does_all xs));
    is = eq.does-Block true (codes xs) ∙ ap (λ is. code_step (code_open.Block true is)) (all_do xs);
  }

  abbrev pub nothing : OfCode O
  nothing = record {
    c = tree.Nothing false;
    does = code_step (code_open.Nothing false);
    is = eq.does-Nothing false;
  }

  abbrev pub label : Name → OfCode O → OfCode O
  label name x = record {
    c = tree.Label name x.c;
    does = code_step (code_open.Label name x.does);
    is = eq.does-Label name x.c ∙ ap (λ i. code_step (code_open.Label name i)) x.is;
  }

  abbrev pub case : ℤ → OfExpr O → OfCode O → OfCode O
  case z e x = record {
    c = tree.Case z e.e x.c;
    does = arrived (at_case (Some z)) e.worth.needs.size x.does;
    is = eq.does-Case z e.e x.c
        ∙ ap₂ (λ (w : Value O) i. arrived (at_case (Some z)) w.needs.size i) e.is x.is;
  }

  abbrev pub default : OfCode O → OfCode O
  default x = record {
    c = tree.Default x.c;
    does = code_step (code_open.Default x.does);
    is = eq.does-Default x.c ∙ ap (λ i. code_step (code_open.Default i)) x.is;
  }

  abbrev pub when : ℕ → OfExpr O → OfCode O → OfCode O → OfCode O
  when at e x y = record {
    c = tree.If at e.e x.c y.c;
    does = if_of at e.worth x.does y.does;
    is = eq.does-If at e.e x.c y.c
        ∙ ap (λ w. if_of at w (code x.c) (code y.c)) e.is ∙ ap₂ (λ i j. if_of at e.worth i j) x.is y.is;
  }

  abbrev pub switch : ℕ → WordType → List ℤ → OfExpr O → List (OfCode O) → OfCode O
  switch at t cases e xs = record {
    c = tree.Switch at t cases e.e true (codes xs);
    does = switch_of at t cases e.worth true (does_all xs);
    is = eq.does-Switch at t cases e.e true (codes xs)
        ∙ ap₂ (λ w is. switch_of at t cases w true is) e.is (all_do xs);
  }

  abbrev pub loop : ℕ → Option (OfExpr O) → Option (OfExpr O) → OfCode O → OfCode O
  loop at test step x = record {
    c = tree.Loop at (expr_if test) (expr_if step) x.c;
    does = looped at (worth_if test) (worth_if step) x.does;
    is = eq.does-Loop at (expr_if test) (expr_if step) x.c
        ∙ ap₂ (λ t s. looped at t s (code x.c)) (maybe_worth test) (maybe_worth step)
        ∙ ap (λ i. looped at (worth_if test) (worth_if step) i) x.is;
  }

  abbrev pub repeat : ℕ → OfCode O → OfExpr O → OfCode O
  repeat at x test = record {
    c = tree.Repeat at test.e x.c;
    does = repeated at x.does test.worth;
    is = eq.does-Repeat at test.e x.c ∙ ap₂ (λ i w. repeated at i w) x.is test.is;
  }

  abbrev pub goto : Name → OfCode O
  goto name = record { c = tree.Goto name; does = code_step (code_open.Goto name); is = eq.does-Goto name }

  abbrev pub continue : OfCode O
  continue = record { c = tree.Continue; does = code_step code_open.Continue; is = eq.does-Continue }

  abbrev pub break : OfCode O
  break = record { c = tree.Break; does = code_step code_open.Break; is = eq.does-Break }

  abbrev pub returns : Option (OfExpr O) → OfCode O
  returns e = record {
    c = tree.Return (expr_if e);
    does = return_of (worth_if e);
    is = eq.does-Return (expr_if e) ∙ ap return_of (maybe_worth e);
  }

  -- ---- functions and machines

  abbrev pub function : ℕ → Name → List Parameter → List (OfCode O) → OfBody O
  function at name ps xs = record {
    function = head at name ps (codes xs);
    body = record { function = head at name ps (codes xs); item = in_turn (does_all xs) };
    is = ap (λ is. record { function = head at name ps (codes xs); item = in_turn is }) (all_do xs);
  }

  abbrev pub functions : List (OfBody O) → List Function
  functions [] = []
  functions (x ∷ xs) = x.function ∷ functions xs

  abbrev pub bodies : List (OfBody O) → List (Body O)
  bodies [] = []
  bodies (x ∷ xs) = x.body ∷ bodies xs

  -- what is known of a function by its number is what was written beside it
  pub each_body :
      (xs : List (OfBody O)) (f : ℕ) → maybe_body (slice_get (functions xs) f) ≡ slice_get (bodies xs) f
  each_body [] f = refl
  each_body (x ∷ xs) zero = ap (λ b. Some b) x.is
  each_body (x ∷ xs) (suc f) = each_body xs f

  -- no object lives throughout the run
  abbrev pub core : ℕ → List (OfBody O) → Core
  core main xs = record {
    functions = functions xs;
    met = [];
    objects = [];
    settings = [];
    places = 0;
    main = main;
    has_arguments = false;
  }

  abbrev pub given : Taking O → ℕ → List (OfBody O) → World → Limits → ℕ → Machine O
  given t main xs world limits depth =
      record (machine t (core main xs) world limits depth) { body = λ f. slice_get (bodies xs) f }

  -- a machine is what was written beside its program
  pub is_given :
      (t : Taking O) (main : ℕ) (xs : List (OfBody O)) (world : World) (limits : Limits) (depth : ℕ)
      → machine t (core main xs) world limits depth ≡ given t main xs world limits depth
  is_given t main xs world limits depth =
      ap (λ b. record (machine t (core main xs) world limits depth) { body = b }) (fun_ext (each_body xs))
