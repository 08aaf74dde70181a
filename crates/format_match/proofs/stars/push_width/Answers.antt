use Rattle.std.proofs.Common.{sym, ◌∙◌}
use Rattle.format_match.proofs.StarLaws.{star_added, written_added}
use Rattle.format_match.proofs.stars.push_width.Goals as goal

pub returns-then-is_star : goal.returns-then-is_star
returns-then-is_star c =
    let a = c.args in
    star_added a.c.now.flags a.c.now.form a.width.value a.slice.now a.end a.width.range _ _ a.c.now.precision (sym c.is_star.ensures ∙ c.if-is_star.true) c.in_ok-push_star_precisions.ensures

pub returns : goal.returns
returns c =
    let a = c.args in
    written_added a.c.now.flags a.c.now.form a.width.value a.slice.now a.end a.width.range _ _ a.c.now.precision (sym c.is_star.ensures ∙ c.if-is_star.false) c.in_ok-push_written_precision.ensures
