use Rattle.std.specs.Prelude.{option_map}
use Rattle.c_means.specs.Notes.{noted}
use Rattle.c_means.specs.Statements.{maybe_value}
use Rattle.c_item_notes.specs.Levels.{judged}
use Rattle.c_stmt_notes.proofs.Together.{fresh}
use Rattle.c_stmt_notes.proofs.pieces.step_notes.Goals as goal

pub returns : goal.returns
returns c =
    fresh (judged c.args.source.now) c.nothing_noted-found.result c.args.scope.now
    (maybe_value (option_map noted c.args.step.now) c.args.scope.now) _ c.nothing_noted-found.ensures c.in_ok-maybe_effect.ensures
