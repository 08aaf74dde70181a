-- A form, by what its parts are where they are handed on.
use Rattle.std.proofs.Common.{◌≡◌, ℕ, ℤ, Bool, List, sym, ap, ◌∙◌}
use Rattle.core_tree.specs.declared.expr.Callee.{Callee}
use Rattle.core_tree.specs.declared.expr.Expr.{Expr}
use Rattle.core_tree.specs.declared.expr.Expr.TheVariants as expr
use Rattle.core_tree.specs.declared.types.Access.{Access}
use Rattle.core_tree.specs.declared.types.Answered.{Answered}
use Rattle.core_tree.specs.declared.types.Operator.{Operator}
use Rattle.core_tree.specs.declared.types.Turning.{Turning}
use Rattle.core_tree.specs.declared.types.ValueType.{ValueType}
use Rattle.core_tree.specs.declared.types.WordType.{WordType}

module _ (e : Expr) where
  pub on_Constant : (z : ℤ) → e ≡ expr.Constant z → expr.Constant z ≡ e
  on_Constant z is = sym is

  pub on_Fixed : (place : ℕ) → e ≡ expr.Fixed place → expr.Fixed place ≡ e
  on_Fixed place is = sym is

  pub on_Local : (at : ℕ) → e ≡ expr.Local at → expr.Local at ≡ e
  on_Local at is = sym is

  pub on_Load : (access : Access) (x x' : Expr) → e ≡ expr.Load access x → x' ≡ x → expr.Load access x' ≡ e
  on_Load access x x' is hx = ap (λ w. expr.Load access w) hx ∙ sym is

  pub on_Target : (x x' : Expr) → e ≡ expr.Target x → x' ≡ x → expr.Target x' ≡ e
  on_Target x x' is hx = ap (λ w. expr.Target w) hx ∙ sym is

  pub on_Pointer : (x x' : Expr) → e ≡ expr.Pointer x → x' ≡ x → expr.Pointer x' ≡ e
  on_Pointer x x' is hx = ap (λ w. expr.Pointer w) hx ∙ sym is

  pub on_Offset : (bytes : ℕ) (x x' : Expr) → e ≡ expr.Offset bytes x → x' ≡ x → expr.Offset bytes x' ≡ e
  on_Offset bytes x x' is hx = ap (λ w. expr.Offset bytes w) hx ∙ sym is

  pub on_Convert : (to : ValueType) (x x' : Expr) → e ≡ expr.Convert to x → x' ≡ x → expr.Convert to x' ≡ e
  on_Convert to x x' is hx = ap (λ w. expr.Convert to w) hx ∙ sym is

  pub on_Cast : (to : ValueType) (x x' : Expr) → e ≡ expr.Cast to x → x' ≡ x → expr.Cast to x' ≡ e
  on_Cast to x x' is hx = ap (λ w. expr.Cast to w) hx ∙ sym is

  pub on_Turn : (at : ℕ) (operator : Turning) (word : WordType) (is_constant : Bool) (x x' : Expr)
      → e ≡ expr.Turn at operator word is_constant x → x' ≡ x → expr.Turn at operator word is_constant x' ≡ e
  on_Turn at operator word is_constant x x' is hx = ap (λ w. expr.Turn at operator word is_constant w) hx ∙ sym is

  pub on_Not : (x x' : Expr) → e ≡ expr.Not x → x' ≡ x → expr.Not x' ≡ e
  on_Not x x' is hx = ap (λ w. expr.Not w) hx ∙ sym is

  pub on_Operate : (at : ℕ) (operator : Operator) (is_constant : Bool) (x y x' y' : Expr)
      → e ≡ expr.Operate at operator is_constant x y → x' ≡ x → y' ≡ y → expr.Operate at operator is_constant x' y' ≡ e
  on_Operate at operator is_constant x y x' y' is hx hy =
      ap (λ w. expr.Operate at operator is_constant w y') hx ∙ ap (λ w. expr.Operate at operator is_constant x w) hy
      ∙ sym is

  pub on_And : (at : ℕ) (x y x' y' : Expr) → e ≡ expr.And at x y → x' ≡ x → y' ≡ y → expr.And at x' y' ≡ e
  on_And at x y x' y' is hx hy = ap (λ w. expr.And at w y') hx ∙ ap (λ w. expr.And at x w) hy ∙ sym is

  pub on_Or : (at : ℕ) (x y x' y' : Expr) → e ≡ expr.Or at x y → x' ≡ x → y' ≡ y → expr.Or at x' y' ≡ e
  on_Or at x y x' y' is hx hy = ap (λ w. expr.Or at w y') hx ∙ ap (λ w. expr.Or at x w) hy ∙ sym is

  pub on_Choose : (at : ℕ) (x y z x' y' z' : Expr)
      → e ≡ expr.Choose at x y z → x' ≡ x → y' ≡ y → z' ≡ z → expr.Choose at x' y' z' ≡ e
  on_Choose at x y z x' y' z' is hx hy hz =
      ap (λ w. expr.Choose at w y' z') hx ∙ ap (λ w. expr.Choose at x w z') hy ∙ ap (λ w. expr.Choose at x y w) hz
      ∙ sym is

  pub on_Store : (at : ℕ) (access : Access) (x y x' y' : Expr)
      → e ≡ expr.Store at access x y → x' ≡ x → y' ≡ y → expr.Store at access x' y' ≡ e
  on_Store at access x y x' y' is hx hy =
      ap (λ w. expr.Store at access w y') hx ∙ ap (λ w. expr.Store at access x w) hy ∙ sym is

  pub on_Update : (at : ℕ) (operator : Operator) (access : Access) (x y x' y' : Expr)
      → e ≡ expr.Update at operator access x y → x' ≡ x → y' ≡ y → expr.Update at operator access x' y' ≡ e
  on_Update at operator access x y x' y' is hx hy =
      ap (λ w. expr.Update at operator access w y') hx ∙ ap (λ w. expr.Update at operator access x w) hy ∙ sym is

  pub on_Step : (at : ℕ) (operator : Operator) (access : Access) (answer : Answered) (x x' : Expr)
      → e ≡ expr.Step at operator access answer x → x' ≡ x → expr.Step at operator access answer x' ≡ e
  on_Step at operator access answer x x' is hx = ap (λ w. expr.Step at operator access answer w) hx ∙ sym is

  pub on_Comma : (x y x' y' : Expr) → e ≡ expr.Comma x y → x' ≡ x → y' ≡ y → expr.Comma x' y' ≡ e
  on_Comma x y x' y' is hx hy = ap (λ w. expr.Comma w y') hx ∙ ap (λ w. expr.Comma x w) hy ∙ sym is

  pub on_Call : (at : ℕ) (xs ys : List Expr) (callee : Callee) (answer : ValueType) (is_used : Bool)
      → e ≡ expr.Call at xs callee answer is_used → ys ≡ xs
      → expr.Call at ys callee answer is_used ≡ e
  on_Call at xs ys callee answer is_used is h = ap (λ w. expr.Call at w callee answer is_used) h ∙ sym is
