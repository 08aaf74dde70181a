use Rattle.c_means.specs.Statements.{declaration}
use Rattle.c_item_notes.specs.Levels.{judged}
use Rattle.c_stmt_notes.proofs.Together.{adds}
use Rattle.c_stmt_notes.proofs.pieces.declared.Goals as goal

pub returns : goal.returns
returns c =
    adds (judged c.args.source.now) c.args.found.now c.and_item.new.found c.in_ok-more.more c.args.scope.now
    c.declaration_notes.new.scope (declaration c.args.declaration.now c.args.scope.now) c.in_ok-more.ensures c.in_ok-and_item.ensures
