-- The reading of statements of several parts, in two steps.
use Rattle.std.specs.Prelude.{Option, Some}
use Rattle.c_language.specs.declared.token.Punctuator.TheVariants as mark
use Rattle.c_language.specs.declared.expr.Expr.{Expr}
use Rattle.c_language.specs.declared.unit.ForStart.{ForStart}
use Rattle.c_language.specs.declared.unit.Stmt.{Stmt}
use Rattle.c_grammar.specs.Parts.{State}
use Rattle.c_grammar.specs.Reading.{Reading, Rules, ◌>>=◌, expect}
use Rattle.c_grammar.specs.UnitReading.{Turn, Inside, optional_at, substatement_at, else_at, for_start_at}

-- the two branches of an `if` statement (C99 6.8.4.1)
unfoldable pub branches_at : Turn → State → Reading (Stmt × Option Stmt)
branches_at turn s = do
  positive ← substatement_at turn s
  negative ← else_at turn positive.1
  Some ((positive.0, negative.0), negative.1)

-- the condition and the step of a `for` statement, to its `)` (C99 6.8.5.3)
unfoldable pub turning_at : Rules → State → Reading (Option Expr × Option Expr)
turning_at r s = do
  condition ← optional_at r mark.Semicolon s
  middle ← expect mark.Semicolon condition.1
  step ← optional_at r mark.RightParen middle.2
  close ← expect mark.RightParen step.1
  Some ((condition.0, step.0), close.2)

-- what stands between its parentheses, and these
unfoldable pub heading_at : Rules → Inside → State → Reading (ForStart × Option Expr × Option Expr)
heading_at r inside s = do
  open' ← expect mark.LeftParen s
  first ← for_start_at r inside open'.2
  turning ← turning_at r first.1
  Some ((first.0, turning.0.0, turning.0.1), turning.1)
