use Rattle.c_item_notes.specs.Levels.{judged}
use Rattle.c_stmt_notes.proofs.Expressions.{no_effect, an_effect}
use Rattle.c_stmt_notes.proofs.pieces.maybe_effect.Goals as goal

pub returns-in-None : goal.returns-in-None
returns-in-None c =
    no_effect (judged c.args.source.now) c.args.value.now c.args.found.now c.args.scope.now c.in-None.is

pub returns-in_ok-effect-in-Some : goal.returns-in_ok-effect-in-Some
returns-in_ok-effect-in-Some c =
    an_effect (judged c.args.source.now) c.args.value.now _ c.get.result.now c.args.found.now c.args.scope.now _ c.in-Some.is
    c.get.ensures c.in_ok-effect-in-Some.ensures
