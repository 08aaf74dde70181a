-- What stands at the tokens of each kind of expression, by what stands in it.
use Rattle.std.proofs.Common.{◌≡◌, ℕ, ℤ, Bool, List, [], ◌++◌, Option, sym, ap, ◌∙◌}
use Rattle.core_tree.specs.declared.expr.Expr.{Expr, fold-roll-Expr}
use Rattle.core_tree.specs.declared.types.WordType.{WordType}
use Rattle.core_marks.specs.declared.mark.Mark.{Mark}
use Rattle.core_tree.specs.declared.expr.Expr.TheOpen as expr_open
use Rattle.core_tree.specs.declared.expr.Expr.TheVariants as expr
use Rattle.core_tree.specs.declared.expr.Expr.TheVariants.{rolls-Constant, rolls-Fixed, rolls-Local, rolls-Load, rolls-Target, rolls-Pointer, rolls-Offset, rolls-Extract, rolls-Convert, rolls-Cast, rolls-Turn, rolls-Not, rolls-Operate, rolls-And, rolls-Or, rolls-Choose, rolls-Store, rolls-Update, rolls-Step, rolls-Comma, rolls-Call}
use Rattle.core_tree.specs.declared.expr.Callee.{Callee}
use Rattle.core_tree.specs.declared.types.Access.{Access}
use Rattle.core_tree.specs.declared.types.Answered.{Answered}
use Rattle.core_tree.specs.declared.types.Operator.{Operator}
use Rattle.core_tree.specs.declared.types.Turning.{Turning}
use Rattle.core_tree.specs.declared.types.ValueType.{ValueType}
use Rattle.core_marks.specs.Kinds.{unless, operator_kinds, turning_kinds}
use Rattle.core_marks.specs.Marks.{stops, sides, read_marks, write_marks, call_marks, value_step, value_marks, values_marks}

module _ (e : Expr) where
  pub marks-Constant : (z : ℤ) → e ≡ expr.Constant z
      → value_marks e ≡ []
  unfolding value_marks
  marks-Constant z is = ap value_marks (is ∙ sym (rolls-Constant z)) ∙ fold-roll-Expr (List Mark) value_step (expr_open.Constant z)

  pub marks-Fixed : (place : ℕ) → e ≡ expr.Fixed place
      → value_marks e ≡ []
  unfolding value_marks
  marks-Fixed place is = ap value_marks (is ∙ sym (rolls-Fixed place)) ∙ fold-roll-Expr (List Mark) value_step (expr_open.Fixed place)

  pub marks-Local : (at : ℕ) → e ≡ expr.Local at
      → value_marks e ≡ []
  unfolding value_marks
  marks-Local at is = ap value_marks (is ∙ sym (rolls-Local at)) ∙ fold-roll-Expr (List Mark) value_step (expr_open.Local at)

  pub marks-Load : (access : Access) (x : Expr) → e ≡ expr.Load access x
      → value_marks e ≡ read_marks access ++ value_marks x
  unfolding value_marks
  marks-Load access x is = ap value_marks (is ∙ sym (rolls-Load access x)) ∙ fold-roll-Expr (List Mark) value_step (expr_open.Load access x)

  pub marks-Target : (x : Expr) → e ≡ expr.Target x
      → value_marks e ≡ value_marks x
  unfolding value_marks
  marks-Target x is = ap value_marks (is ∙ sym (rolls-Target x)) ∙ fold-roll-Expr (List Mark) value_step (expr_open.Target x)

  pub marks-Pointer : (x : Expr) → e ≡ expr.Pointer x
      → value_marks e ≡ value_marks x
  unfolding value_marks
  marks-Pointer x is = ap value_marks (is ∙ sym (rolls-Pointer x)) ∙ fold-roll-Expr (List Mark) value_step (expr_open.Pointer x)

  pub marks-Offset : (bytes : ℕ) (x : Expr) → e ≡ expr.Offset bytes x
      → value_marks e ≡ value_marks x
  unfolding value_marks
  marks-Offset bytes x is = ap value_marks (is ∙ sym (rolls-Offset bytes x)) ∙ fold-roll-Expr (List Mark) value_step (expr_open.Offset bytes x)

  pub marks-Extract : (bytes : ℕ) (member : ValueType) (x : Expr) → e ≡ expr.Extract bytes member x
      → value_marks e ≡ value_marks x
  unfolding value_marks
  marks-Extract bytes member x is = ap value_marks (is ∙ sym (rolls-Extract bytes member x)) ∙ fold-roll-Expr (List Mark) value_step (expr_open.Extract bytes member x)

  pub marks-Convert : (to : ValueType) (x : Expr) → e ≡ expr.Convert to x
      → value_marks e ≡ value_marks x
  unfolding value_marks
  marks-Convert to x is = ap value_marks (is ∙ sym (rolls-Convert to x)) ∙ fold-roll-Expr (List Mark) value_step (expr_open.Convert to x)

  pub marks-Cast : (to : ValueType) (x : Expr) → e ≡ expr.Cast to x
      → value_marks e ≡ value_marks x
  unfolding value_marks
  marks-Cast to x is = ap value_marks (is ∙ sym (rolls-Cast to x)) ∙ fold-roll-Expr (List Mark) value_step (expr_open.Cast to x)

  pub marks-Turn : (at : ℕ) (operator : Turning) (word : WordType) (is_constant : Bool) (x : Expr) → e ≡ expr.Turn at operator word is_constant x
      → value_marks e ≡ stops at (unless is_constant (turning_kinds operator word)) ++ value_marks x
  unfolding value_marks
  marks-Turn at operator word is_constant x is = ap value_marks (is ∙ sym (rolls-Turn at operator word is_constant x)) ∙ fold-roll-Expr (List Mark) value_step (expr_open.Turn at operator word is_constant x)

  pub marks-Not : (x : Expr) → e ≡ expr.Not x
      → value_marks e ≡ value_marks x
  unfolding value_marks
  marks-Not x is = ap value_marks (is ∙ sym (rolls-Not x)) ∙ fold-roll-Expr (List Mark) value_step (expr_open.Not x)

  pub marks-Operate : (at : ℕ) (operator : Operator) (is_constant : Bool) (x y : Expr) → e ≡ expr.Operate at operator is_constant x y
      → value_marks e ≡ stops at (unless is_constant (operator_kinds operator)) ++ (value_marks x ++ value_marks y)
  unfolding value_marks
  marks-Operate at operator is_constant x y is = ap value_marks (is ∙ sym (rolls-Operate at operator is_constant x y)) ∙ fold-roll-Expr (List Mark) value_step (expr_open.Operate at operator is_constant x y)

  pub marks-And : (at : ℕ) (x y : Expr) → e ≡ expr.And at x y
      → value_marks e ≡ sides at ++ (value_marks x ++ value_marks y)
  unfolding value_marks
  marks-And at x y is = ap value_marks (is ∙ sym (rolls-And at x y)) ∙ fold-roll-Expr (List Mark) value_step (expr_open.And at x y)

  pub marks-Or : (at : ℕ) (x y : Expr) → e ≡ expr.Or at x y
      → value_marks e ≡ sides at ++ (value_marks x ++ value_marks y)
  unfolding value_marks
  marks-Or at x y is = ap value_marks (is ∙ sym (rolls-Or at x y)) ∙ fold-roll-Expr (List Mark) value_step (expr_open.Or at x y)

  pub marks-Choose : (at : ℕ) (c x y : Expr) → e ≡ expr.Choose at c x y
      → value_marks e ≡ sides at ++ (value_marks c ++ (value_marks x ++ value_marks y))
  unfolding value_marks
  marks-Choose at c x y is = ap value_marks (is ∙ sym (rolls-Choose at c x y)) ∙ fold-roll-Expr (List Mark) value_step (expr_open.Choose at c x y)

  pub marks-Store : (at : ℕ) (access : Access) (x y : Expr) → e ≡ expr.Store at access x y
      → value_marks e ≡ write_marks at access ++ (value_marks x ++ value_marks y)
  unfolding value_marks
  marks-Store at access x y is = ap value_marks (is ∙ sym (rolls-Store at access x y)) ∙ fold-roll-Expr (List Mark) value_step (expr_open.Store at access x y)

  pub marks-Update : (at : ℕ) (operator : Operator) (access : Access) (x y : Expr) → e ≡ expr.Update at operator access x y
      → value_marks e ≡ stops at (operator_kinds operator) ++ (write_marks at access ++ (value_marks x ++ value_marks y))
  unfolding value_marks
  marks-Update at operator access x y is = ap value_marks (is ∙ sym (rolls-Update at operator access x y)) ∙ fold-roll-Expr (List Mark) value_step (expr_open.Update at operator access x y)

  pub marks-Step : (at : ℕ) (operator : Operator) (access : Access) (answer : Answered) (x : Expr) → e ≡ expr.Step at operator access answer x
      → value_marks e ≡ stops at (operator_kinds operator) ++ (write_marks at access ++ value_marks x)
  unfolding value_marks
  marks-Step at operator access answer x is = ap value_marks (is ∙ sym (rolls-Step at operator access answer x)) ∙ fold-roll-Expr (List Mark) value_step (expr_open.Step at operator access answer x)

  pub marks-Comma : (x y : Expr) → e ≡ expr.Comma x y
      → value_marks e ≡ value_marks x ++ value_marks y
  unfolding value_marks
  marks-Comma x y is = ap value_marks (is ∙ sym (rolls-Comma x y)) ∙ fold-roll-Expr (List Mark) value_step (expr_open.Comma x y)

  pub marks-Call : (at : ℕ) (xs : List Expr) (callee : Callee) (answer : ValueType) (is_used : Bool) → e ≡ expr.Call at xs callee answer is_used
      → value_marks e ≡ call_marks at callee ++ values_marks xs
  unfolding value_marks
  marks-Call at xs callee answer is_used is = ap value_marks (is ∙ sym (rolls-Call at xs callee answer is_used)) ∙ fold-roll-Expr (List Mark) value_step (expr_open.Call at xs callee answer is_used)
