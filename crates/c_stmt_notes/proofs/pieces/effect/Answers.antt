use Rattle.std.proofs.Common.{ap, ◌∙◌}
use Rattle.c_means.specs.Notes.{noted}
use Rattle.c_means.specs.Items.{typing}
use Rattle.c_checks.specs.Refusals.{least_of}
use Rattle.c_item_notes.specs.Levels.{judged}
use Rattle.c_stmt_notes.proofs.Expressions.{effect_is}
use Rattle.c_stmt_notes.proofs.pieces.effect.Goals as goal

pub returns : goal.returns
returns c =
    effect_is (judged c.args.source.now) c.in_ok-x.x (noted c.args.expr.now c.args.scope.now) c.least_fault-breach.result c.args.found.now
    c.and_evaluated.new.found c.args.scope.now c.heard.new.scope c.in_ok-x.ensures
    (c.least_fault-breach.ensures ∙ ap (λ fs. least_of (typing fs)) c.as_slice.ensures) c.in_ok-and_evaluated.ensures
