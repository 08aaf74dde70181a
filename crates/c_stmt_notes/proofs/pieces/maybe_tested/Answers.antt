use Rattle.c_item_notes.specs.Levels.{judged}
use Rattle.c_stmt_notes.proofs.Expressions.{no_test, a_test}
use Rattle.c_stmt_notes.proofs.pieces.maybe_tested.Goals as goal

pub returns-in-None : goal.returns-in-None
returns-in-None c =
    no_test (judged c.args.source.now) c.args.at c.args.condition.now c.args.found.now c.args.scope.now c.in-None.is

pub returns-in_ok-tested-in-Some : goal.returns-in_ok-tested-in-Some
returns-in_ok-tested-in-Some c =
    a_test (judged c.args.source.now) c.args.at c.args.condition.now _ c.get.result.now c.args.found.now c.args.scope.now _
    c.in-Some.is c.get.ensures c.in_ok-tested-in-Some.ensures
