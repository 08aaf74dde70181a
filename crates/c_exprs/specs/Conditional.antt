-- The reading of a conditional expression (C99 6.5.15), in two steps.
use Rattle.std.specs.Prelude.{ℕ, Some}
use Rattle.c_language.specs.declared.token.Punctuator.TheVariants as mark
use Rattle.c_language.specs.declared.expr.Expr.{Expr}
use Rattle.c_language.specs.declared.expr.Expr.TheVariants as expr
use Rattle.c_grammar.specs.Parts.{State}
use Rattle.c_grammar.specs.Reading.{Reading, Rules, ◌>>=◌, expect}

-- the two arms, behind `?`
unfoldable pub arms_at : Rules → State → Reading (Expr × Expr)
arms_at r s = do
  positive ← r.expr 16 s
  colon ← expect mark.Colon positive.1
  negative ← r.expr 14 colon.2
  Some ((positive.0, negative.0), negative.1)

-- the whole, where its condition was read and may stand there
unfoldable pub chosen_at : Rules → ℕ → Expr → State → Reading Expr
chosen_at r at condition s = do
  arms ← arms_at r s
  Some (expr.Conditional at condition arms.0.0 arms.0.1, arms.1)
