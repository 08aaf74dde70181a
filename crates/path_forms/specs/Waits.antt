-- The side of a branch that waits while the other one is walked.
use Rattle.std.specs.Prelude.{◌≡◌, ℕ, pos, List, [], ◌∷◌, ◌++◌}
use Rattle.core_tree.specs.declared.types.ValueType.TheVariants as vt
use Rattle.term_bank.specs.declared.shape.Shape.{Shape}
use Rattle.path_states.specs.declared.state.Walked.{Walked}
use Rattle.path_steps.specs.declared.leaf.Leaf.TheVariants as leaf
use Rattle.path_steps.specs.Leaves.{leaf_way}
use Rattle.path_forms.specs.declared.sides.Waiting.{Waiting}
use Rattle.path_forms.specs.Reaching.{Ready, Branches, Meets, TurnsTo, Closes, Evaluates, EvaluatesAll}
use Rattle.core_tree.specs.declared.expr.Expr.{Expr}
use Rattle.path_forms.specs.declared.frame.Placed.{Placed}
use Rattle.path_forms.specs.Around.{Around}

pub record TakesYes (a b : List Shape) (at : ℕ) (w u : Walked) (before now : List Waiting) : Type 0 where
  pub ready : Ready b u
  pub last : Waiting
  pub waits : now ≡ before ++ last ∷ []
  pub branches : Branches a b w at (record { yes = u; no = last.side; ended = last.ended })

pub record TakesNo (a b : List Shape) (at : ℕ) (w u : Walked) (before now : List Waiting) : Type 0 where
  pub ready : Ready b u
  pub last : Waiting
  pub waits : now ≡ before ++ last ∷ []
  pub branches : Branches a b w at (record { yes = last.side; no = u; ended = last.ended })

-- the side that waits last has its nodes in the bank
pub record WaitsReady (b : List Shape) (waiting : List Waiting) : Type 0 where
  pub last : (rest : List Waiting) (x : Waiting) → waiting ≡ rest ++ x ∷ [] → Ready b x.side

pub record Changes (a b : List Shape) (w u : Walked) (before now : List Waiting) : Type 0 where
  pub ready : Ready b u
  pub last : Waiting
  pub changes : (rest : List Waiting) (x : Waiting) → before ≡ rest ++ x ∷ []
      → (now ≡ rest ++ last ∷ []) × TurnsTo a b (record { yes = w; no = x.side; ended = x.ended })
      (record { yes = last.side; no = u; ended = last.ended })

pub record MeetsWaiting (a b : List Shape) (w u : Walked) (before now : List Waiting) : Type 0 where
  pub ready : Ready b u
  pub meets : (rest : List Waiting) (x : Waiting) → before ≡ rest ++ x ∷ []
      → (now ≡ rest) × Meets a b (record { yes = x.side; no = w; ended = x.ended }) u

pub record ClosesAnd (room : ℕ) (a b : List Shape) (w u : Walked) (before now : List Waiting) : Type 0 where
  pub ready : Ready b u
  pub closes : (rest : List Waiting) (x : Waiting) → before ≡ rest ++ x ∷ []
      → (now ≡ rest) × Closes room a b (record { yes = w; no = x.side; ended = x.ended }) u
      (leaf_way (leaf.Convert vt.Truth)) (leaf_way (leaf.Constant (pos 0)))

pub record ClosesOr (room : ℕ) (a b : List Shape) (w u : Walked) (before now : List Waiting) : Type 0 where
  pub ready : Ready b u
  pub closes : (rest : List Waiting) (x : Waiting) → before ≡ rest ++ x ∷ []
      → (now ≡ rest) × Closes room a b (record { yes = x.side; no = w; ended = x.ended }) u
      (leaf_way (leaf.Constant (pos 1))) (leaf_way (leaf.Convert vt.Truth))

-- an expression is walked, and the sides that wait stay as they are
pub record EvaluatesBeside (x : Around) (frame : List Placed) (room : ℕ) (t : Expr) (a b : List Shape) (w u : Walked) (place next : ℕ)
    (before now : List Waiting) : Type 0 where
  pub ready : Ready b u
  pub same : now ≡ before
  pub evaluates : Evaluates x frame room t a b w u place next

pub record ArgumentsBeside (x : Around) (frame : List Placed) (room : ℕ) (ts : List Expr) (a b : List Shape) (w u : Walked) (place next : ℕ)
    (before now : List Waiting) : Type 0 where
  pub ready : Ready b u
  pub same : now ≡ before
  pub evaluates : EvaluatesAll x frame room ts a b w u place next
