use Rattle.c_means.specs.Statements.{stmt}
use Rattle.c_item_notes.specs.Levels.{judged}
use Rattle.c_stmt_notes.specs.StatementTellings.{context_in}
use Rattle.c_stmt_notes.proofs.Together.{fresh}
use Rattle.c_stmt_notes.proofs.statements.statement_notes.Goals as goal

pub returns : goal.returns
returns c =
    fresh (judged c.args.source.now) c.nothing_noted-found.result c.args.scope.now
    ((stmt c.args.stmt.now).here (context_in c.args.x.now c.args.scope.now)) _ c.nothing_noted-found.ensures
    c.in_ok-statement.ensures
