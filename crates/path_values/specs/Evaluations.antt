-- What the walk of an expression begins with, and leads to.
use Rattle.std.specs.Prelude.{ℕ, List}
use Rattle.core_tree.specs.declared.expr.Expr.{Expr}
use Rattle.term_bank.specs.declared.shape.Shape.{Shape}
use Rattle.path_states.specs.declared.state.Walked.{Walked}
use Rattle.path_forms.specs.declared.frame.Placed.{Placed}
use Rattle.path_forms.specs.Around.{Around}
use Rattle.path_forms.specs.Calling.{Stays}
use Rattle.path_forms.specs.Reaching.{Ready, Evaluates, EvaluatesAll}
use Rattle.path_values.specs.declared.below.Below.{Below}

-- a bank of which what calls ask is so, and states whose nodes are in it
pub record Starts (P : List Shape → Type 0) (b : List Shape) (w : Walked) : Type 0 where
  pub stays : Stays P b
  pub ready : Ready b w

-- an expression is walked, and another may be behind it
pub record Evaluated (x : Around) (P : List Shape → Type 0) (frame : List Placed) (room : ℕ) (t : Expr) (a b : List Shape)
    (w u : Walked) (place next : ℕ) : Type 0 where
  pub starts : Starts P b u
  pub evaluates : Evaluates x frame room t a b w u place next

pub record AllEvaluated (x : Around) (P : List Shape → Type 0) (frame : List Placed) (room : ℕ) (ts : List Expr)
    (a b : List Shape) (w u : Walked) (place next : ℕ) : Type 0 where
  pub starts : Starts P b u
  pub evaluates : EvaluatesAll x frame room ts a b w u place next

-- ---- the same where parts are walked

abbrev pub StartsIn : {C V : Type 0} → (C → List Shape → Type 0) → Below C V → List Shape → Walked → Type 0
StartsIn ready s b w = Starts (ready s.scene.now) b w

abbrev pub EvaluatedIn : {C V : Type 0} → (C → Around) → (C → List Shape → Type 0) → Below C V → Expr → List Shape → List Shape
    → Walked → Walked → ℕ → ℕ → Type 0
EvaluatedIn around ready s t a b w u place next =
    Evaluated (around s.scene.now) (ready s.scene.now) s.frame.now s.room t a b w u place next

abbrev pub AllEvaluatedIn : {C V : Type 0} → (C → Around) → (C → List Shape → Type 0) → Below C V → List Expr → List Shape
    → List Shape → Walked → Walked → ℕ → ℕ → Type 0
AllEvaluatedIn around ready s ts a b w u place next =
    AllEvaluated (around s.scene.now) (ready s.scene.now) s.frame.now s.room ts a b w u place next
