use Rattle.std.proofs.Common.{◌≡◌, ◌∙◌, ◌||◌, ◌&&◌, ◌+◌, suc, false, get_or, ap, arith}
use Rattle.format_match.specs.Spelled.{goes_on, may_end, is_printed}
use Rattle.format_match.proofs.PlainTexts.{ends_one}
use Rattle.format_match.proofs.ending.texts_behind.Goals as goal

pub positions-preserved : goal.positions-preserved
positions-preserved c =
    let at = c.positions.at in
    let before = c.args.before.now in
    let log = c.args.log.now in
    let wanted = c.may_end-wanted.result in
    let begins = ap (λ l. get_or l at false) c.as_slice.ensures.value ∙ c.in_ok-marks.ensures.marks at in
    let w : wanted ≡ may_end before log at = c.may_end-wanted.ensures ∙ (λ i. c.positions.invariant.goes i || begins i) in
    let next : suc at ≡ at + 1 = omega arith in
    record {
      goes = c.may_go_on-goes_on.ensures ∙ ap (λ z. z && is_printed log at) w ∙ ap (goes_on before log) next;
      below = c.in_ok-push_where.ensures.below;
      ends = λ y. ends_one (may_end before log) at y _ _ wanted (c.positions.invariant.ends y) w (c.in_ok-push_where.ensures.has y);
    }
