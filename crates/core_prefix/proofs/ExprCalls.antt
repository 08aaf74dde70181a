-- Whether each kind of expression calls functions below a bound alone, by what stands in it.
use Rattle.std.proofs.Common.{◌≡◌, ℕ, ℤ, Bool, true, ◌&&◌, List, [], ◌∷◌, map, refl, sym, ap, ◌∙◌}
use Rattle.std.specs.List.{list_all}
use Rattle.core_tree.specs.declared.expr.Callee.{Callee}
use Rattle.core_tree.specs.declared.expr.Expr.{Expr, fold-roll-Expr}
use Rattle.core_tree.specs.declared.expr.Expr.TheOpen as open_
use Rattle.core_tree.specs.declared.expr.Expr.TheVariants as expr
use Rattle.core_tree.specs.declared.expr.Expr.TheVariants.{rolls-Constant, rolls-Fixed, rolls-Local, rolls-Load}
use Rattle.core_tree.specs.declared.expr.Expr.TheVariants.{rolls-Target, rolls-Pointer, rolls-Offset, rolls-Extract}
use Rattle.core_tree.specs.declared.expr.Expr.TheVariants.{rolls-Convert, rolls-Cast, rolls-Turn, rolls-Not}
use Rattle.core_tree.specs.declared.expr.Expr.TheVariants.{rolls-Operate, rolls-And, rolls-Or, rolls-Choose}
use Rattle.core_tree.specs.declared.expr.Expr.TheVariants.{rolls-Store, rolls-Update, rolls-Step, rolls-Comma}
use Rattle.core_tree.specs.declared.expr.Expr.TheVariants.{rolls-Call}
use Rattle.core_tree.specs.declared.types.Access.{Access}
use Rattle.core_tree.specs.declared.types.Answered.{Answered}
use Rattle.core_tree.specs.declared.types.Operator.{Operator}
use Rattle.core_tree.specs.declared.types.Turning.{Turning}
use Rattle.core_tree.specs.declared.types.ValueType.{ValueType}
use Rattle.core_tree.specs.declared.types.WordType.{WordType}
use Rattle.core_prefix.specs.Calls.{all_true, callee_below, value_step, value_below}

pub all_mapped : {A : Type 0} (f : A → Bool) (xs : List A) → all_true (map f xs) ≡ list_all f xs
all_mapped f [] = refl
all_mapped f (x ∷ xs) = ap (λ b. f x && b) (all_mapped f xs)

module _ (n : ℕ) (e : Expr) where
  pub below-Constant : (z : ℤ)
      → e ≡ expr.Constant z
      → value_below n e ≡ true
  unfolding value_below
  below-Constant z is =
      ap (value_below n) (is ∙ sym (rolls-Constant z))
      ∙ fold-roll-Expr Bool (value_step n) (open_.Constant z)

  pub below-Fixed : (place : ℕ)
      → e ≡ expr.Fixed place
      → value_below n e ≡ true
  unfolding value_below
  below-Fixed place is =
      ap (value_below n) (is ∙ sym (rolls-Fixed place))
      ∙ fold-roll-Expr Bool (value_step n) (open_.Fixed place)

  pub below-Local : (at : ℕ)
      → e ≡ expr.Local at
      → value_below n e ≡ true
  unfolding value_below
  below-Local at is =
      ap (value_below n) (is ∙ sym (rolls-Local at))
      ∙ fold-roll-Expr Bool (value_step n) (open_.Local at)

  pub below-Load : (access : Access) (x : Expr)
      → e ≡ expr.Load access x
      → value_below n e ≡ value_below n x
  unfolding value_below
  below-Load access x is =
      ap (value_below n) (is ∙ sym (rolls-Load access x))
      ∙ fold-roll-Expr Bool (value_step n) (open_.Load access x)

  pub below-Target : (x : Expr)
      → e ≡ expr.Target x
      → value_below n e ≡ value_below n x
  unfolding value_below
  below-Target x is =
      ap (value_below n) (is ∙ sym (rolls-Target x))
      ∙ fold-roll-Expr Bool (value_step n) (open_.Target x)

  pub below-Pointer : (x : Expr)
      → e ≡ expr.Pointer x
      → value_below n e ≡ value_below n x
  unfolding value_below
  below-Pointer x is =
      ap (value_below n) (is ∙ sym (rolls-Pointer x))
      ∙ fold-roll-Expr Bool (value_step n) (open_.Pointer x)

  pub below-Offset : (bytes : ℕ) (x : Expr)
      → e ≡ expr.Offset bytes x
      → value_below n e ≡ value_below n x
  unfolding value_below
  below-Offset bytes x is =
      ap (value_below n) (is ∙ sym (rolls-Offset bytes x))
      ∙ fold-roll-Expr Bool (value_step n) (open_.Offset bytes x)

  pub below-Extract : (bytes : ℕ) (member : ValueType) (x : Expr)
      → e ≡ expr.Extract bytes member x
      → value_below n e ≡ value_below n x
  unfolding value_below
  below-Extract bytes member x is =
      ap (value_below n) (is ∙ sym (rolls-Extract bytes member x))
      ∙ fold-roll-Expr Bool (value_step n) (open_.Extract bytes member x)

  pub below-Convert : (to : ValueType) (x : Expr)
      → e ≡ expr.Convert to x
      → value_below n e ≡ value_below n x
  unfolding value_below
  below-Convert to x is =
      ap (value_below n) (is ∙ sym (rolls-Convert to x))
      ∙ fold-roll-Expr Bool (value_step n) (open_.Convert to x)

  pub below-Cast : (to : ValueType) (x : Expr)
      → e ≡ expr.Cast to x
      → value_below n e ≡ value_below n x
  unfolding value_below
  below-Cast to x is =
      ap (value_below n) (is ∙ sym (rolls-Cast to x))
      ∙ fold-roll-Expr Bool (value_step n) (open_.Cast to x)

  pub below-Turn : (at : ℕ) (operator : Turning) (word : WordType) (is_constant : Bool) (x : Expr)
      → e ≡ expr.Turn at operator word is_constant x
      → value_below n e ≡ value_below n x
  unfolding value_below
  below-Turn at operator word is_constant x is =
      ap (value_below n) (is ∙ sym (rolls-Turn at operator word is_constant x))
      ∙ fold-roll-Expr Bool (value_step n) (open_.Turn at operator word is_constant x)

  pub below-Not : (x : Expr)
      → e ≡ expr.Not x
      → value_below n e ≡ value_below n x
  unfolding value_below
  below-Not x is =
      ap (value_below n) (is ∙ sym (rolls-Not x))
      ∙ fold-roll-Expr Bool (value_step n) (open_.Not x)

  pub below-Operate : (at : ℕ) (operator : Operator) (is_constant : Bool) (x y : Expr)
      → e ≡ expr.Operate at operator is_constant x y
      → value_below n e ≡ (value_below n x && value_below n y)
  unfolding value_below
  below-Operate at operator is_constant x y is =
      ap (value_below n) (is ∙ sym (rolls-Operate at operator is_constant x y))
      ∙ fold-roll-Expr Bool (value_step n) (open_.Operate at operator is_constant x y)

  pub below-And : (at : ℕ) (x y : Expr)
      → e ≡ expr.And at x y
      → value_below n e ≡ (value_below n x && value_below n y)
  unfolding value_below
  below-And at x y is =
      ap (value_below n) (is ∙ sym (rolls-And at x y))
      ∙ fold-roll-Expr Bool (value_step n) (open_.And at x y)

  pub below-Or : (at : ℕ) (x y : Expr)
      → e ≡ expr.Or at x y
      → value_below n e ≡ (value_below n x && value_below n y)
  unfolding value_below
  below-Or at x y is =
      ap (value_below n) (is ∙ sym (rolls-Or at x y))
      ∙ fold-roll-Expr Bool (value_step n) (open_.Or at x y)

  pub below-Choose : (at : ℕ) (c x y : Expr)
      → e ≡ expr.Choose at c x y
      → value_below n e ≡ (value_below n c && (value_below n x && value_below n y))
  unfolding value_below
  below-Choose at c x y is =
      ap (value_below n) (is ∙ sym (rolls-Choose at c x y))
      ∙ fold-roll-Expr Bool (value_step n) (open_.Choose at c x y)

  pub below-Store : (at : ℕ) (access : Access) (x y : Expr)
      → e ≡ expr.Store at access x y
      → value_below n e ≡ (value_below n x && value_below n y)
  unfolding value_below
  below-Store at access x y is =
      ap (value_below n) (is ∙ sym (rolls-Store at access x y))
      ∙ fold-roll-Expr Bool (value_step n) (open_.Store at access x y)

  pub below-Update : (at : ℕ) (operator : Operator) (access : Access) (x y : Expr)
      → e ≡ expr.Update at operator access x y
      → value_below n e ≡ (value_below n x && value_below n y)
  unfolding value_below
  below-Update at operator access x y is =
      ap (value_below n) (is ∙ sym (rolls-Update at operator access x y))
      ∙ fold-roll-Expr Bool (value_step n) (open_.Update at operator access x y)

  pub below-Step : (at : ℕ) (operator : Operator) (access : Access) (answer : Answered) (x : Expr)
      → e ≡ expr.Step at operator access answer x
      → value_below n e ≡ value_below n x
  unfolding value_below
  below-Step at operator access answer x is =
      ap (value_below n) (is ∙ sym (rolls-Step at operator access answer x))
      ∙ fold-roll-Expr Bool (value_step n) (open_.Step at operator access answer x)

  pub below-Comma : (x y : Expr)
      → e ≡ expr.Comma x y
      → value_below n e ≡ (value_below n x && value_below n y)
  unfolding value_below
  below-Comma x y is =
      ap (value_below n) (is ∙ sym (rolls-Comma x y))
      ∙ fold-roll-Expr Bool (value_step n) (open_.Comma x y)

  pub below-Call : (at : ℕ) (xs : List Expr) (callee : Callee) (answer : ValueType) (is_used : Bool)
      → e ≡ expr.Call at xs callee answer is_used
      → value_below n e ≡ (callee_below n callee && list_all (value_below n) xs)
  unfolding value_below
  below-Call at xs callee answer is_used is =
      ap (value_below n) (is ∙ sym (rolls-Call at xs callee answer is_used))
      ∙ fold-roll-Expr Bool (value_step n) (open_.Call at xs callee answer is_used)
      ∙ ap (λ b. callee_below n callee && b) (all_mapped (value_below n) xs)
