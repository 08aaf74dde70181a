use Rattle.std.proofs.Common.{sym, ◌∙◌}
use Rattle.printf_text.specs.Texts.{size_kinds, form_kind}
use Rattle.format_match.specs.Splits.{star_marks}
use Rattle.format_match.specs.Ways.{precision_end}
use Rattle.format_match.proofs.StarLaws.{star_width_added, written_width_added}
use Rattle.format_match.proofs.stars.push_conversion.Goals as goal

pub returns-then-is_star : goal.returns-then-is_star
returns-then-is_star c =
    let a = c.args in
    star_width_added (size_kinds a.c.now.precision) (star_marks a.c.now.precision) (form_kind a.c.now.form) (λ z args. precision_end a.c.now z a.slice.now a.end args) _ _ a.c.now.width
    (sym c.is_star.ensures ∙ c.if-is_star.true) c.in_ok-push_star_widths.ensures

pub returns : goal.returns
returns c =
    let a = c.args in
    written_width_added (size_kinds a.c.now.precision) (star_marks a.c.now.precision) (form_kind a.c.now.form) (λ z args. precision_end a.c.now z a.slice.now a.end args) _ _ a.c.now.width
    (sym c.is_star.ensures ∙ c.if-is_star.false) c.in_ok-push_written_width.ensures
