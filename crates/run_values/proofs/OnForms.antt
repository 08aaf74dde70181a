-- What an expression is worth, by its form and by what its parts are worth.
use Rattle.std.proofs.Common.{◌≡◌, ℕ, ℤ, Bool, List, ap, ◌∙◌}
use Rattle.core_tree.specs.declared.expr.Callee.{Callee}
use Rattle.core_tree.specs.declared.expr.Expr.{Expr}
use Rattle.core_tree.specs.declared.expr.Expr.TheVariants as expr
use Rattle.core_tree.specs.declared.types.Access.{Access}
use Rattle.core_tree.specs.declared.types.Answered.{Answered}
use Rattle.core_tree.specs.declared.types.Operator.{Operator}
use Rattle.core_tree.specs.declared.types.Turning.{Turning}
use Rattle.core_tree.specs.declared.types.ValueType.{ValueType}
use Rattle.core_tree.specs.declared.types.WordType.{WordType}
use Rattle.core_tree.specs.States.{Output}
use Rattle.core_tree.specs.Values.{Value, value}
use Rattle.core_tree.specs.Values as core
use Rattle.core_tree.proofs.Equations as eq
use Rattle.run_values.specs.Arguments.{values_of}

abbrev worth : Expr → Value Output
worth e = value e

by_form : (e f : Expr) (v : Value Output) → e ≡ f → worth f ≡ v → worth e ≡ v
by_form e f v is means = ap worth is ∙ means

module _ (e : Expr) where
  pub on_Constant : (z : ℤ) → e ≡ expr.Constant z →
      worth e ≡ core.constant z
  on_Constant z is = by_form e (expr.Constant z) _ is (eq.worth-Constant z)

  pub on_Fixed : (place : ℕ) → e ≡ expr.Fixed place →
      worth e ≡ core.fixed place
  on_Fixed place is = by_form e (expr.Fixed place) _ is (eq.worth-Fixed place)

  pub on_Local : (at : ℕ) → e ≡ expr.Local at →
      worth e ≡ core.local at
  on_Local at is = by_form e (expr.Local at) _ is (eq.worth-Local at)

  pub on_Load : (access : Access) (x : Expr) (x' : Expr) → e ≡ expr.Load access x → x' ≡ x →
      worth e ≡ core.loaded access (worth x')
  on_Load access x x' is h0 = rw (h0) (by_form e (expr.Load access x) _ is (eq.worth-Load access x))

  pub on_Target : (x : Expr) (x' : Expr) → e ≡ expr.Target x → x' ≡ x →
      worth e ≡ core.target (worth x')
  on_Target x x' is h0 = rw (h0) (by_form e (expr.Target x) _ is (eq.worth-Target x))

  pub on_Pointer : (x : Expr) (x' : Expr) → e ≡ expr.Pointer x → x' ≡ x →
      worth e ≡ core.pointer (worth x')
  on_Pointer x x' is h0 = rw (h0) (by_form e (expr.Pointer x) _ is (eq.worth-Pointer x))

  pub on_Offset : (bytes : ℕ) (x : Expr) (x' : Expr) → e ≡ expr.Offset bytes x → x' ≡ x →
      worth e ≡ core.offset bytes (worth x')
  on_Offset bytes x x' is h0 = rw (h0) (by_form e (expr.Offset bytes x) _ is (eq.worth-Offset bytes x))

  pub on_Extract : (bytes : ℕ) (member : ValueType) (x : Expr) (x' : Expr) → e ≡ expr.Extract bytes member x → x' ≡ x →
      worth e ≡ core.extract bytes member (worth x')
  on_Extract bytes member x x' is h0 = rw (h0) (by_form e (expr.Extract bytes member x) _ is (eq.worth-Extract bytes member x))

  pub on_Convert : (to : ValueType) (x : Expr) (x' : Expr) → e ≡ expr.Convert to x → x' ≡ x →
      worth e ≡ core.convert to (worth x')
  on_Convert to x x' is h0 = rw (h0) (by_form e (expr.Convert to x) _ is (eq.worth-Convert to x))

  pub on_Cast : (to : ValueType) (x : Expr) (x' : Expr) → e ≡ expr.Cast to x → x' ≡ x →
      worth e ≡ core.cast to (worth x')
  on_Cast to x x' is h0 = rw (h0) (by_form e (expr.Cast to x) _ is (eq.worth-Cast to x))

  pub on_Turn : (at : ℕ) (op : Turning) (word : WordType) (is_constant : Bool) (x : Expr) (x' : Expr) → e ≡ expr.Turn at op word is_constant x → x' ≡ x →
      worth e ≡ core.turn at op word (worth x')
  on_Turn at op word is_constant x x' is h0 = rw (h0) (by_form e (expr.Turn at op word is_constant x) _ is (eq.worth-Turn at op word is_constant x))

  pub on_Not : (x : Expr) (x' : Expr) → e ≡ expr.Not x → x' ≡ x →
      worth e ≡ core.negated (worth x')
  on_Not x x' is h0 = rw (h0) (by_form e (expr.Not x) _ is (eq.worth-Not x))

  pub on_Operate : (at : ℕ) (op : Operator) (is_constant : Bool) (x : Expr) (y : Expr) (x' : Expr) (y' : Expr) → e ≡ expr.Operate at op is_constant x y → x' ≡ x → y' ≡ y →
      worth e ≡ core.operate at op (worth x') (worth y')
  on_Operate at op is_constant x y x' y' is h0 h1 = rw (h0, h1) (by_form e (expr.Operate at op is_constant x y) _ is (eq.worth-Operate at op is_constant x y))

  pub on_And : (at : ℕ) (x : Expr) (y : Expr) (x' : Expr) (y' : Expr) → e ≡ expr.And at x y → x' ≡ x → y' ≡ y →
      worth e ≡ core.both at (worth x') (worth y')
  on_And at x y x' y' is h0 h1 = rw (h0, h1) (by_form e (expr.And at x y) _ is (eq.worth-And at x y))

  pub on_Or : (at : ℕ) (x : Expr) (y : Expr) (x' : Expr) (y' : Expr) → e ≡ expr.Or at x y → x' ≡ x → y' ≡ y →
      worth e ≡ core.either at (worth x') (worth y')
  on_Or at x y x' y' is h0 h1 = rw (h0, h1) (by_form e (expr.Or at x y) _ is (eq.worth-Or at x y))

  pub on_Choose : (at : ℕ) (x : Expr) (y : Expr) (z : Expr) (x' : Expr) (y' : Expr) (z' : Expr) → e ≡ expr.Choose at x y z → x' ≡ x → y' ≡ y → z' ≡ z →
      worth e ≡ core.choose at (worth x') (worth y') (worth z')
  on_Choose at x y z x' y' z' is h0 h1 h2 = rw (h0, h1, h2) (by_form e (expr.Choose at x y z) _ is (eq.worth-Choose at x y z))

  pub on_Store : (at : ℕ) (access : Access) (x : Expr) (y : Expr) (x' : Expr) (y' : Expr) → e ≡ expr.Store at access x y → x' ≡ x → y' ≡ y →
      worth e ≡ core.store at access (worth x') (worth y')
  on_Store at access x y x' y' is h0 h1 = rw (h0, h1) (by_form e (expr.Store at access x y) _ is (eq.worth-Store at access x y))

  pub on_Update : (at : ℕ) (op : Operator) (access : Access) (x : Expr) (y : Expr) (x' : Expr) (y' : Expr) → e ≡ expr.Update at op access x y → x' ≡ x → y' ≡ y →
      worth e ≡ core.update at op access (worth x') (worth y')
  on_Update at op access x y x' y' is h0 h1 = rw (h0, h1) (by_form e (expr.Update at op access x y) _ is (eq.worth-Update at op access x y))

  pub on_Step : (at : ℕ) (op : Operator) (access : Access) (answer : Answered) (x : Expr) (x' : Expr) → e ≡ expr.Step at op access answer x → x' ≡ x →
      worth e ≡ core.step at op access answer (worth x')
  on_Step at op access answer x x' is h0 = rw (h0) (by_form e (expr.Step at op access answer x) _ is (eq.worth-Step at op access answer x))

  pub on_Comma : (x : Expr) (y : Expr) (x' : Expr) (y' : Expr) → e ≡ expr.Comma x y → x' ≡ x → y' ≡ y →
      worth e ≡ core.comma (worth x') (worth y')
  on_Comma x y x' y' is h0 h1 = rw (h0, h1) (by_form e (expr.Comma x y) _ is (eq.worth-Comma x y))

  pub on_Call : (at : ℕ) (xs : List Expr) (callee : Callee) (answer : ValueType) (is_used : Bool) (xs' : List Expr) → e ≡ expr.Call at xs callee answer is_used → xs' ≡ xs →
      worth e ≡ core.call at (values_of xs') callee answer is_used
  on_Call at xs callee answer is_used xs' is h0 = rw (h0) (by_form e (expr.Call at xs callee answer is_used) _ is (eq.worth-Call at xs callee answer is_used))
