use Rattle.std.proofs.Common.{◌≡◌, ◌<◌, ◌≤◌, ◌+◌, ◌∙◌, ◌&&◌, ◌||◌, eqb, true, length, take, get_or, sym, ap, subst, arith, rules}
use Rattle.positions.specs.Sets.{has}
use Rattle.format_match.specs.Spelled.{may_end}
use Rattle.format_ends.specs.Reached.{IsPassed, AreStarts}
use Rattle.format_ends.proofs.Order.{first_left, passed_on}
use Rattle.format_ends.proofs.TextLaws.{stops_more}
use Rattle.format_match.proofs.Reached.{stands}
use Rattle.format_ends.proofs.texts.ends_at_stops.Goals as goal

pub passed_at-passed-requires-clause-below : goal.passed_at-passed-requires-clause-below
passed_at-passed-requires-clause-below c y m =
    let stops = c.args.stops.now in
    let i = c.stops.stop-index in
    let same = c.as_slice-stop-items.ensures.value in
    subst (λ l. y ≤ get_or l i 0) (sym same)
    (c.stops.invariant.below (get_or stops i 0) (first_left stops i (subst (λ l. i < length l) same c.stops-test.true)) y
    (subst (λ l. has (take c.stops.passed l) y ≡ true) c.as_slice.ensures.value m))

pub is_reached-wanted-requires-clause-stop : goal.is_reached-wanted-requires-clause-stop
is_reached-wanted-requires-clause-stop c =
    let stops = c.args.stops.now in
    let i = c.stops.stop-index in
    let same = c.as_slice-stop-items.ensures.value in
    let h : get_or stops i 0 + c.args.len ≤ length c.args.log.now = c.requires.within (get_or stops i 0) (stands stops i (subst (λ l. i < length l) same c.stops-test.true)) in
    let long : length c.as_slice-starts.result.now ≡ length c.args.log.now + 1 = ap length c.as_slice-starts.ensures.value ∙ c.requires.texts.starts.long in
    subst (λ l. get_or l i 0 < length c.as_slice-starts.result.now) (sym same) (omega (arith, h, long))

pub overflow_add-stop : goal.overflow_add-stop
overflow_add-stop c =
    let stops = c.args.stops.now in
    let i = c.stops.stop-index in
    let same = c.as_slice-stop-items.ensures.value in
    let h : get_or stops i 0 + c.args.len ≤ length c.args.log.now = c.requires.within (get_or stops i 0) (stands stops i (subst (λ l. i < length l) same c.stops-test.true)) in
    let k : get_or c.as_slice-stop-items.result.now i 0 + c.args.len ≤ length c.args.log.now = subst (λ l. get_or l i 0 + c.args.len ≤ length c.args.log.now) (sym same) h in
    first_of (search rules, omega (arith, k))

pub stops-preserved : goal.stops-preserved
stops-preserved c =
    let log = c.args.log.now in
    let before = c.args.before.now in
    let stops = c.args.stops.now in
    let i = c.stops.stop-index in
    let same = c.as_slice-stop-items.ensures.value in
    let at : i < length stops = subst (λ l. i < length l) same c.stops-test.true in
    let passed = c.passed_at-passed.result in
    let p : IsPassed before (get_or stops i 0) passed =
    subst (λ l. IsPassed before (get_or l i 0) passed) same (subst (λ l. IsPassed l (get_or c.as_slice-stop-items.result.now i 0) passed) c.as_slice.ensures.value c.passed_at-passed.ensures) in
    let starts : AreStarts log c.as_slice-starts.result.now = subst (AreStarts log) (sym c.as_slice-starts.ensures.value) c.requires.texts.starts in
    record {
      within = p.within;
      below = passed_on before stops i passed c.as_slice-stop-items.ensures.ordered at p;
      ends = stops_more log before stops i c.args.len c.stops.ends c.put_where.new.positions c.is_reached-wanted.result at c.stops.invariant.ends
          (c.is_reached-wanted.ensures log starts (subst (λ l. IsPassed l (get_or c.as_slice-stop-items.result.now i 0) passed) (c.as_slice.ensures.value ∙ sym c.as_slice-in-stops.ensures.value) c.passed_at-passed.ensures)
          ∙ ap (λ l. may_end l log (get_or c.as_slice-stop-items.result.now i 0)) c.as_slice-in-stops.ensures.value ∙ ap (λ l. may_end before log (get_or l i 0)) same)
          (λ y. c.in_ok-put_where.ensures y ∙ ap (λ l. has c.stops.ends y || (c.is_reached-wanted.result && eqb (get_or l i 0 + c.args.len) y)) same);
    }
