-- What a form promises, by what it is.
use Rattle.std.proofs.Common.{ℕ, List, [], ◌∷◌}
use Rattle.core_tree.specs.declared.expr.Expr.{Expr}
use Rattle.term_bank.specs.declared.shape.Shape.{Shape}
use Rattle.term_bank.specs.Values.{Grows}
use Rattle.path_states.specs.declared.state.Walked.{Walked}
use Rattle.path_forms.specs.declared.frame.Placed.{Placed}
use Rattle.path_forms.specs.Around.{Around}
use Rattle.path_forms.specs.Reaching.{Ready, Evaluates}
use Rattle.path_forms.proofs.Started.{stays_on}
use Rattle.path_forms.proofs.ArgumentLemmas.{evaluates_none, evaluates_more}
use Rattle.path_values.specs.Evaluations.{Starts, Evaluated, AllEvaluated}

pub starts_on : (P : List Shape → Type 0) (a b : List Shape) (w u : Walked) → Starts P a w → Grows a b → Ready b u → Starts P b u
starts_on P a b w u s g h = record { stays = stays_on s.stays g; ready = h }

module _ (x : Around) (P : List Shape → Type 0) (frame : List Placed) (room : ℕ) where
  pub evaluated : (t : Expr) (a b : List Shape) (w u : Walked) (place next : ℕ) → Starts P a w
      → Evaluates x frame room t a b w u place next → Evaluated x P frame room t a b w u place next
  evaluated t a b w u place next s h = record { starts = starts_on P a b w u s h.reach.grows h.ready; evaluates = h }

  pub none_evaluated : (b : List Shape) (w : Walked) (place : ℕ) → Starts P b w
      → AllEvaluated x P frame room [] b b w w place place
  none_evaluated b w place s = record { starts = s; evaluates = evaluates_none x frame room b w place s.ready }

  pub more_evaluated : (t : Expr) (ts : List Expr) (a b c : List Shape) (w w' u : Walked) (place p next : ℕ)
      → Evaluated x P frame room t a b w w' place p → AllEvaluated x P frame room ts b c w' u p next
      → AllEvaluated x P frame room (t ∷ ts) a c w u place next
  more_evaluated t ts a b c w w' u place p next h i =
      record { starts = i.starts; evaluates = evaluates_more x frame room t ts a b c w w' u place p next h.evaluates i.evaluates }
