use Rattle.std.proofs.Common.{sym, ◌∙◌, length, ◌≡◌}
use Rattle.std.proofs.lemmas.Bool.{eqb-true, eqb-false}
use Rattle.format_match.proofs.MetEnds.{Adds-both, Adds-same}
use Rattle.format_match.proofs.StarLaws.{star_widths, star_widths_empty, positive_length}
use Rattle.format_match.proofs.stars.push_star_widths.Goals as goal

pub returns-then-is_empty : goal.returns-then-is_empty
returns-then-is_empty c =
    let a = c.args in
    let empty : length a.slice.now ≡ 0 = eqb-true _ _ (sym c.is_empty.ensures ∙ c.if-is_empty.true) in
    Adds-same _ (Adds-both c.in_ok-push_thin_widths.ensures c.in_ok-push_right_width.ensures) (λ args h. star_widths_empty a.c.now a.slice.now a.end args h empty)

pub returns : goal.returns
returns c =
    let a = c.args in
    Adds-same _ (Adds-both (Adds-both c.in_ok-push_thin_widths.ensures c.in_ok-push_right_width.ensures) c.in_ok-push_left_width.ensures)
    (λ args h. star_widths a.c.now a.slice.now a.end args h (positive_length _ (eqb-false _ _ (sym c.is_empty.ensures ∙ c.if-is_empty.false))))
