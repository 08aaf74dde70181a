use Rattle.c_means.specs.Notes.{noted}
use Rattle.c_item_notes.specs.Levels.{judged}
use Rattle.c_stmt_notes.proofs.Expressions.{tested_is}
use Rattle.c_stmt_notes.proofs.pieces.tested.Goals as goal

pub returns : goal.returns
returns c =
    tested_is (judged c.args.source.now) c.args.at c.in_ok-x.x (noted c.args.expr.now c.args.scope.now) c.in_ok-breach.breach c.args.found.now
    c.and_evaluated.new.found c.args.scope.now c.heard.new.scope c.in_ok-x.ensures c.in_ok-breach.ensures c.in_ok-and_evaluated.ensures
