use Rattle.std.proofs.Common.{ap, ◌∙◌}
use Rattle.c_means.specs.Notes.{noted}
use Rattle.c_checks.specs.Refusals.{least_of}
use Rattle.c_checks.specs.Rules.{switch_breaches, switch_kind}
use Rattle.c_item_notes.specs.Levels.{judged}
use Rattle.c_item_notes.specs.Levels.{Heard}
use Rattle.c_stmt_notes.proofs.Expressions.{switch_value_is}
use Rattle.c_stmt_notes.proofs.pieces.switch_said.Goals as goal

pub returns-clause-notes : goal.returns-clause-notes
returns-clause-notes c =
    switch_value_is (judged c.args.source.now) c.in_ok-x.x (noted c.args.expr.now c.args.scope.now) c.args.found.now c.and_evaluated.new.found
    c.args.scope.now c.heard.new.scope c.in_ok-x.ensures c.in_ok-and_evaluated.ensures

pub returns-clause-breach : goal.returns-clause-breach
returns-clause-breach c =
    c.in_ok-said.ensures.breach ∙ ap (λ (h : Heard). least_of (switch_breaches c.args.at h.typed)) c.in_ok-x.ensures

pub returns-clause-kind : goal.returns-clause-kind
returns-clause-kind c =
    c.in_ok-said.ensures.kind ∙ ap (λ (h : Heard). switch_kind h.typed) c.in_ok-x.ensures
