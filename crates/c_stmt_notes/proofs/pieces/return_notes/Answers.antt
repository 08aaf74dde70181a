use Rattle.c_item_notes.specs.Levels.{judged}
use Rattle.c_stmt_notes.specs.StatementTellings.{context_in}
use Rattle.c_stmt_notes.proofs.Expressions.{no_value, a_value}
use Rattle.c_stmt_notes.proofs.pieces.return_notes.Goals as goal

pub returns-in-None : goal.returns-in-None
returns-in-None c =
    no_value (judged c.args.source.now) c.args.at (context_in c.args.x.now c.args.scope.now) c.args.value.now c.args.found.now c.and_broken.new.found
    c.bare_return.result c.in-None.is c.bare_return.ensures c.and_broken.ensures

pub returns-in_ok-valued_return-in-Some : goal.returns-in_ok-valued_return-in-Some
returns-in_ok-valued_return-in-Some c =
    a_value (judged c.args.source.now) c.args.at (context_in c.args.x.now c.args.scope.now) c.args.value.now _ c.get.result.now c.args.found.now _
    c.in-Some.is c.get.ensures c.in_ok-valued_return-in-Some.ensures
