-- What is known of the function that reads the statements which stand inside.
use Rattle.std.specs.Prelude.{◌≤◌, ℕ, List, Result}
use Rattle.std.specs.declared.alloc.Global.{Global}
use denote.Ref.{Bor, MutBor}
use Rattle.c_language.specs.declared.token.Token.{Token}
use Rattle.c_language.specs.declared.unit.Stmt.{Stmt}
use Rattle.c_grammar.specs.Parts.{Frame}
use Rattle.c_grammar.specs.UnitReading.{stmt_at}
use Rattle.c_reading.specs.declared.cursor.Cursor.{Cursor}
use Rattle.c_reading.specs.declared.fault.ParseFault.{ParseFault}
use Rattle.c_exprs.specs.Below.{Reader}
use Rattle.c_reading.specs.Reads.{Reads}
use Rattle.c_parser.specs.declared.turns.Turns.{Turns}

abbrev pub StatementArguments : Type 0
StatementArguments = Global × (Bor (List Token) × (Bor Frame × (MutBor Cursor × (ℕ × (ℕ × Unit {0})))))

-- it reads statements of at most the height of the trees
pub record ReachesStatement {T : Type 0} (t : Reader StatementArguments Stmt T) (turns : Turns T) : Type 0 where
  pub callable : (alloc : Global) (old : MutBor Cursor) (rank : ℕ) → rank ≤ 1
      → t.pre turns.statement
      (alloc, (turns.trees.source.tokens, (turns.trees.source.file, (old, (turns.trees.height, (rank, tt))))))
  pub ends : (alloc : Global) (old new : MutBor Cursor) (rank : ℕ) (r : Result Stmt ParseFault)
      → t.post turns.statement
      (alloc, (turns.trees.source.tokens, (turns.trees.source.file, (old, (turns.trees.height, (rank, tt))))))
      (r, (new, tt))
      → Reads (λ x. x) turns.trees.source old.now new.now r (stmt_at turns.trees.height rank)
