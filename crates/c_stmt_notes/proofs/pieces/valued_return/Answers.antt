use Rattle.c_means.specs.Notes.{noted}
use Rattle.c_item_notes.specs.Levels.{judged}
use Rattle.c_stmt_notes.specs.StatementTellings.{context_in}
use Rattle.c_stmt_notes.proofs.Expressions.{returned_is}
use Rattle.c_stmt_notes.proofs.pieces.valued_return.Goals as goal

pub returns : goal.returns
returns c =
    returned_is (judged c.args.source.now) c.args.at (context_in c.args.x.now c.args.scope.now) c.in_ok-y.y (noted c.args.expr.now c.args.scope.now)
    c.in_ok-breach.breach c.args.found.now c.and_evaluated.new.found c.args.scope.now c.heard.new.scope c.in_ok-y.ensures c.in_ok-breach.ensures
    c.in_ok-and_evaluated.ensures
