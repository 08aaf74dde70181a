-- The language of a log expression: the texts that code can print, whatever the functions that it calls print.
use Rattle.std.specs.Prelude.{◌≤◌, ℕ, zero, suc, List, [], ◌++◌, Option, Some, None, slice_get}
use Rattle.c_means.specs.Parts.{Limits}
use Rattle.core_tree.specs.declared.program.Core.{Core}
use Rattle.core_tree.specs.declared.program.Function.{Function}
use Rattle.core_tree.specs.Programs.{turns_in}
use Rattle.log_language.specs.declared.tree.LogExpr.{LogExpr}
use Rattle.log_language.specs.declared.tree.LogExpr.TheVariants as tree
use Rattle.printf_text.specs.declared.piece.Arg.{Arg}
use Rattle.printf_text.specs.declared.piece.Piece.{Piece}
use Rattle.printf_text.specs.Texts.{text_of}

-- so many texts of an expression, one behind the other
abbrev pub times : ℕ → LogExpr → LogExpr
times zero x = tree.Silent
times (suc n) x = tree.Sequence (times n x) x

-- the texts of an expression, in a function whose loops take so many turns, by the texts of those that are called
pub data Language (turns : ℕ) (called : ℕ → List ℕ → Type 0) : LogExpr → List ℕ → Type 0 where
  silent : Language turns called tree.Silent []
  texts : (ps : List Piece) (xs : List Arg) → Language turns called (tree.Texts ps) (text_of ps xs)
  sequence : (x y : LogExpr) (t u : List ℕ) → Language turns called x t → Language turns called y u
      → Language turns called (tree.Sequence x y) (t ++ u)
  first : (x y : LogExpr) (t : List ℕ) → Language turns called x t → Language turns called (tree.Choice x y) t
  second : (x y : LogExpr) (t : List ℕ) → Language turns called y t → Language turns called (tree.Choice x y) t
  repeats : (x : LogExpr) (n : ℕ) (t : List ℕ) → n ≤ turns → Language turns called (times n x) t
      → Language turns called (tree.Repetition x) t
  calls : (f : ℕ) (t : List ℕ) → called f t → Language turns called (tree.Called f) t

-- ---- by how many levels of calls are left

-- a program within limits, and an expression for each of its functions
pub record Family : Type 0 where
  pub core : Core
  pub limits : Limits
  pub of : ℕ → LogExpr

abbrev pub where_there : Option Function → (Function → Type 0) → Type 0
where_there None P = ⊥
where_there (Some fn) P = P fn

-- the texts of a function that is called with so many levels left, its own among them
abbrev pub texts_at : Family → ℕ → ℕ → List ℕ → Type 0
texts_at x zero f t = ⊥
texts_at x (suc n) f t =
    where_there (slice_get x.core.functions f) (λ fn. Language (turns_in x.limits fn) (texts_at x n) (x.of f) t)
