-- How many places each kind of expression takes, by how many its parts take.
use Rattle.std.proofs.Common.{◌≡◌, ℕ, ◌+◌, ℤ, Bool, List, ap, ◌∙◌}
use Rattle.core_tree.specs.declared.expr.Callee.{Callee}
use Rattle.core_tree.specs.declared.expr.Expr.{Expr}
use Rattle.core_tree.specs.declared.expr.Expr.TheVariants as expr
use Rattle.core_tree.specs.declared.types.Access.{Access}
use Rattle.core_tree.specs.declared.types.Answered.{Answered}
use Rattle.core_tree.specs.declared.types.Operator.{Operator}
use Rattle.core_tree.specs.declared.types.Turning.{Turning}
use Rattle.core_tree.specs.declared.types.ValueType.{ValueType}
use Rattle.core_tree.specs.declared.types.WordType.{WordType}
use Rattle.core_tree.specs.Callees.{callee_room}
use Rattle.core_tree.specs.Values.{value}
use Rattle.core_tree.proofs.Equations as eq
use Rattle.core_tree.specs.States.{Measures}
use Rattle.path_rooms.specs.Rooms.{value_room, rooms_of}

module _ (m : Measures) (e : Expr) where
  pub room_Constant : (z : ℤ) → e ≡ expr.Constant z →
      value_room m e ≡ 0
  room_Constant z is = ap (λ v. v.needs.room m) (ap value is ∙ eq.worth-Constant z)

  pub room_Fixed : (place : ℕ) → e ≡ expr.Fixed place →
      value_room m e ≡ 0
  room_Fixed place is = ap (λ v. v.needs.room m) (ap value is ∙ eq.worth-Fixed place)

  pub room_Local : (at : ℕ) → e ≡ expr.Local at →
      value_room m e ≡ 0
  room_Local at is = ap (λ v. v.needs.room m) (ap value is ∙ eq.worth-Local at)

  pub room_Load : (access : Access) (x : Expr) → e ≡ expr.Load access x →
      value_room m e ≡ value_room m x
  room_Load access x is = ap (λ v. v.needs.room m) (ap value is ∙ eq.worth-Load access x)

  pub room_Target : (x : Expr) → e ≡ expr.Target x →
      value_room m e ≡ value_room m x
  room_Target x is = ap (λ v. v.needs.room m) (ap value is ∙ eq.worth-Target x)

  pub room_Pointer : (x : Expr) → e ≡ expr.Pointer x →
      value_room m e ≡ value_room m x
  room_Pointer x is = ap (λ v. v.needs.room m) (ap value is ∙ eq.worth-Pointer x)

  pub room_Offset : (bytes : ℕ) (x : Expr) → e ≡ expr.Offset bytes x →
      value_room m e ≡ value_room m x
  room_Offset bytes x is = ap (λ v. v.needs.room m) (ap value is ∙ eq.worth-Offset bytes x)

  pub room_Extract : (bytes : ℕ) (member : ValueType) (x : Expr) → e ≡ expr.Extract bytes member x →
      value_room m e ≡ value_room m x
  room_Extract bytes member x is = ap (λ v. v.needs.room m) (ap value is ∙ eq.worth-Extract bytes member x)

  pub room_Convert : (to : ValueType) (x : Expr) → e ≡ expr.Convert to x →
      value_room m e ≡ value_room m x
  room_Convert to x is = ap (λ v. v.needs.room m) (ap value is ∙ eq.worth-Convert to x)

  pub room_Cast : (to : ValueType) (x : Expr) → e ≡ expr.Cast to x →
      value_room m e ≡ value_room m x
  room_Cast to x is = ap (λ v. v.needs.room m) (ap value is ∙ eq.worth-Cast to x)

  pub room_Turn : (at : ℕ) (op : Turning) (word : WordType) (is_constant : Bool) (x : Expr) → e ≡ expr.Turn at op word is_constant x →
      value_room m e ≡ value_room m x
  room_Turn at op word is_constant x is = ap (λ v. v.needs.room m) (ap value is ∙ eq.worth-Turn at op word is_constant x)

  pub room_Not : (x : Expr) → e ≡ expr.Not x →
      value_room m e ≡ value_room m x
  room_Not x is = ap (λ v. v.needs.room m) (ap value is ∙ eq.worth-Not x)

  pub room_Operate : (at : ℕ) (op : Operator) (is_constant : Bool) (x : Expr) (y : Expr) → e ≡ expr.Operate at op is_constant x y →
      value_room m e ≡ value_room m x + value_room m y
  room_Operate at op is_constant x y is = ap (λ v. v.needs.room m) (ap value is ∙ eq.worth-Operate at op is_constant x y)

  pub room_And : (at : ℕ) (x : Expr) (y : Expr) → e ≡ expr.And at x y →
      value_room m e ≡ value_room m x + value_room m y
  room_And at x y is = ap (λ v. v.needs.room m) (ap value is ∙ eq.worth-And at x y)

  pub room_Or : (at : ℕ) (x : Expr) (y : Expr) → e ≡ expr.Or at x y →
      value_room m e ≡ value_room m x + value_room m y
  room_Or at x y is = ap (λ v. v.needs.room m) (ap value is ∙ eq.worth-Or at x y)

  pub room_Choose : (at : ℕ) (x : Expr) (y : Expr) (z : Expr) → e ≡ expr.Choose at x y z →
      value_room m e ≡ value_room m x + (value_room m y + value_room m z)
  room_Choose at x y z is = ap (λ v. v.needs.room m) (ap value is ∙ eq.worth-Choose at x y z)

  pub room_Store : (at : ℕ) (access : Access) (x : Expr) (y : Expr) → e ≡ expr.Store at access x y →
      value_room m e ≡ value_room m x + value_room m y
  room_Store at access x y is = ap (λ v. v.needs.room m) (ap value is ∙ eq.worth-Store at access x y)

  pub room_Update : (at : ℕ) (op : Operator) (access : Access) (x : Expr) (y : Expr) → e ≡ expr.Update at op access x y →
      value_room m e ≡ value_room m x + value_room m y
  room_Update at op access x y is = ap (λ v. v.needs.room m) (ap value is ∙ eq.worth-Update at op access x y)

  pub room_Step : (at : ℕ) (op : Operator) (access : Access) (answer : Answered) (x : Expr) → e ≡ expr.Step at op access answer x →
      value_room m e ≡ value_room m x
  room_Step at op access answer x is = ap (λ v. v.needs.room m) (ap value is ∙ eq.worth-Step at op access answer x)

  pub room_Comma : (x : Expr) (y : Expr) → e ≡ expr.Comma x y →
      value_room m e ≡ value_room m x + value_room m y
  room_Comma x y is = ap (λ v. v.needs.room m) (ap value is ∙ eq.worth-Comma x y)

  pub room_Call : (at : ℕ) (xs : List Expr) (callee : Callee) (answer : ValueType) (is_used : Bool) → e ≡ expr.Call at xs callee answer is_used →
      value_room m e ≡ rooms_of m xs + callee_room callee m
  room_Call at xs callee answer is_used is = ap (λ v. v.needs.room m) (ap value is ∙ eq.worth-Call at xs callee answer is_used)
