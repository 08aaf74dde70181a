use Rattle.std.proofs.Common.{sym, ap, ◌∙◌}
use Rattle.c_language.specs.declared.unit.ForStart.{ForStart}
use Rattle.c_means.specs.Statements.{begun_by}
use Rattle.c_item_notes.specs.Levels.{judged}
use Rattle.c_stmt_notes.specs.StatementTellings.{gathered}
use Rattle.c_stmt_notes.proofs.pieces.for_begun.Goals as goal

pub returns-in_ok-maybe_effect-in-Value : goal.returns-in_ok-maybe_effect-in-Value
returns-in_ok-maybe_effect-in-Value c =
    c.in_ok-maybe_effect-in-Value.ensures
    ∙ ap (λ (x : ForStart). gathered (judged c.args.source.now) c.args.found.now c.args.scope.now (begun_by x c.args.scope.now)) (sym c.in-Value.is)

pub returns-in_ok-declared-in-Declared : goal.returns-in_ok-declared-in-Declared
returns-in_ok-declared-in-Declared c =
    c.in_ok-declared-in-Declared.ensures
    ∙ ap (λ (x : ForStart). gathered (judged c.args.source.now) c.args.found.now c.args.scope.now (begun_by x c.args.scope.now)) (sym c.in-Declared.is)
