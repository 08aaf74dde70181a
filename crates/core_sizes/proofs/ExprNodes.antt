-- How many nodes each kind of expression unrolls to, by how many its parts have.
use Rattle.std.proofs.Common.{◌≡◌, ℕ, suc, ◌+◌, ℤ, Bool, List, ap, ◌∙◌}
use Rattle.core_tree.specs.declared.expr.Callee.{Callee}
use Rattle.core_tree.specs.declared.expr.Expr.{Expr}
use Rattle.core_tree.specs.declared.expr.Expr.TheVariants as expr
use Rattle.core_tree.specs.declared.types.Access.{Access}
use Rattle.core_tree.specs.declared.types.Answered.{Answered}
use Rattle.core_tree.specs.declared.types.Operator.{Operator}
use Rattle.core_tree.specs.declared.types.Turning.{Turning}
use Rattle.core_tree.specs.declared.types.ValueType.{ValueType}
use Rattle.core_tree.specs.declared.types.WordType.{WordType}
use Rattle.core_tree.specs.Callees.{callee_size}
use Rattle.core_tree.specs.Values.{value}
use Rattle.core_tree.proofs.Equations as eq
use Rattle.core_tree.specs.States.{Measures}
use Rattle.core_sizes.specs.Nodes.{value_nodes, values_nodes}

module _ (m : Measures) (e : Expr) where
  pub nodes_Constant : (z : ℤ) → e ≡ expr.Constant z →
      value_nodes m e ≡ 1
  nodes_Constant z is = ap (λ v. v.needs.size m) (ap value is ∙ eq.worth-Constant z)

  pub nodes_Fixed : (place : ℕ) → e ≡ expr.Fixed place →
      value_nodes m e ≡ 1
  nodes_Fixed place is = ap (λ v. v.needs.size m) (ap value is ∙ eq.worth-Fixed place)

  pub nodes_Local : (at : ℕ) → e ≡ expr.Local at →
      value_nodes m e ≡ 1
  nodes_Local at is = ap (λ v. v.needs.size m) (ap value is ∙ eq.worth-Local at)

  pub nodes_Load : (access : Access) (x : Expr) → e ≡ expr.Load access x →
      value_nodes m e ≡ value_nodes m x
  nodes_Load access x is = ap (λ v. v.needs.size m) (ap value is ∙ eq.worth-Load access x)

  pub nodes_Target : (x : Expr) → e ≡ expr.Target x →
      value_nodes m e ≡ suc (value_nodes m x)
  nodes_Target x is = ap (λ v. v.needs.size m) (ap value is ∙ eq.worth-Target x)

  pub nodes_Pointer : (x : Expr) → e ≡ expr.Pointer x →
      value_nodes m e ≡ suc (value_nodes m x)
  nodes_Pointer x is = ap (λ v. v.needs.size m) (ap value is ∙ eq.worth-Pointer x)

  pub nodes_Offset : (bytes : ℕ) (x : Expr) → e ≡ expr.Offset bytes x →
      value_nodes m e ≡ suc (value_nodes m x)
  nodes_Offset bytes x is = ap (λ v. v.needs.size m) (ap value is ∙ eq.worth-Offset bytes x)

  pub nodes_Extract : (bytes : ℕ) (member : ValueType) (x : Expr) → e ≡ expr.Extract bytes member x →
      value_nodes m e ≡ suc (value_nodes m x)
  nodes_Extract bytes member x is = ap (λ v. v.needs.size m) (ap value is ∙ eq.worth-Extract bytes member x)

  pub nodes_Convert : (to : ValueType) (x : Expr) → e ≡ expr.Convert to x →
      value_nodes m e ≡ value_nodes m x
  nodes_Convert to x is = ap (λ v. v.needs.size m) (ap value is ∙ eq.worth-Convert to x)

  pub nodes_Cast : (to : ValueType) (x : Expr) → e ≡ expr.Cast to x →
      value_nodes m e ≡ suc (value_nodes m x)
  nodes_Cast to x is = ap (λ v. v.needs.size m) (ap value is ∙ eq.worth-Cast to x)

  pub nodes_Turn : (at : ℕ) (op : Turning) (word : WordType) (is_constant : Bool) (x : Expr) → e ≡ expr.Turn at op word is_constant x →
      value_nodes m e ≡ suc (value_nodes m x)
  nodes_Turn at op word is_constant x is = ap (λ v. v.needs.size m) (ap value is ∙ eq.worth-Turn at op word is_constant x)

  pub nodes_Not : (x : Expr) → e ≡ expr.Not x →
      value_nodes m e ≡ suc (value_nodes m x)
  nodes_Not x is = ap (λ v. v.needs.size m) (ap value is ∙ eq.worth-Not x)

  pub nodes_Operate : (at : ℕ) (op : Operator) (is_constant : Bool) (x : Expr) (y : Expr) → e ≡ expr.Operate at op is_constant x y →
      value_nodes m e ≡ suc (value_nodes m x + value_nodes m y)
  nodes_Operate at op is_constant x y is = ap (λ v. v.needs.size m) (ap value is ∙ eq.worth-Operate at op is_constant x y)

  pub nodes_And : (at : ℕ) (x : Expr) (y : Expr) → e ≡ expr.And at x y →
      value_nodes m e ≡ suc (value_nodes m x + value_nodes m y)
  nodes_And at x y is = ap (λ v. v.needs.size m) (ap value is ∙ eq.worth-And at x y)

  pub nodes_Or : (at : ℕ) (x : Expr) (y : Expr) → e ≡ expr.Or at x y →
      value_nodes m e ≡ suc (value_nodes m x + value_nodes m y)
  nodes_Or at x y is = ap (λ v. v.needs.size m) (ap value is ∙ eq.worth-Or at x y)

  pub nodes_Choose : (at : ℕ) (x : Expr) (y : Expr) (z : Expr) → e ≡ expr.Choose at x y z →
      value_nodes m e ≡ suc (value_nodes m x + (value_nodes m y + value_nodes m z))
  nodes_Choose at x y z is = ap (λ v. v.needs.size m) (ap value is ∙ eq.worth-Choose at x y z)

  pub nodes_Store : (at : ℕ) (access : Access) (x : Expr) (y : Expr) → e ≡ expr.Store at access x y →
      value_nodes m e ≡ suc (value_nodes m x + value_nodes m y)
  nodes_Store at access x y is = ap (λ v. v.needs.size m) (ap value is ∙ eq.worth-Store at access x y)

  pub nodes_Update : (at : ℕ) (op : Operator) (access : Access) (x : Expr) (y : Expr) → e ≡ expr.Update at op access x y →
      value_nodes m e ≡ suc (value_nodes m x + value_nodes m y)
  nodes_Update at op access x y is = ap (λ v. v.needs.size m) (ap value is ∙ eq.worth-Update at op access x y)

  pub nodes_Step : (at : ℕ) (op : Operator) (access : Access) (answer : Answered) (x : Expr) → e ≡ expr.Step at op access answer x →
      value_nodes m e ≡ suc (value_nodes m x)
  nodes_Step at op access answer x is = ap (λ v. v.needs.size m) (ap value is ∙ eq.worth-Step at op access answer x)

  pub nodes_Comma : (x : Expr) (y : Expr) → e ≡ expr.Comma x y →
      value_nodes m e ≡ suc (value_nodes m x + value_nodes m y)
  nodes_Comma x y is = ap (λ v. v.needs.size m) (ap value is ∙ eq.worth-Comma x y)

  pub nodes_Call : (at : ℕ) (xs : List Expr) (callee : Callee) (answer : ValueType) (is_used : Bool) → e ≡ expr.Call at xs callee answer is_used →
      value_nodes m e ≡ suc (values_nodes m xs + callee_size callee m)
  nodes_Call at xs callee answer is_used is = ap (λ v. v.needs.size m) (ap value is ∙ eq.worth-Call at xs callee answer is_used)
