use Rattle.std.proofs.Common.{◌≡◌, ◌<◌, [], Ok, length, ◌+◌, refl, ap, subst, ◌∙◌, arith}
use Rattle.std.specs.Ordering.{nat_cmp}
use Rattle.std.specs.Map.{keys_of}
use Rattle.std.specs.List.Sorted.{IsStrictlySortedBy}
use Rattle.std.proofs.lemmas.Result.{err_from_is_err_and}
use Rattle.cert_text.proofs.ReadingLemmas.{Reading, reading_more, reading_bad, reading_err, reading_world, reading_short, is_none, is_some}
use Rattle.cert_text.specs.declared.stage.Stage.TheVariants as stage
use Rattle.cert_text.proofs.reading.read_lines.Goals as goal

pub returns-in_err-stage : goal.returns-in_err-stage
returns-in_err-stage c =
    let some : 0 < length c.lines.rest.now = is_some c.is_empty.result c.lines.rest.now c.lines-test.true c.is_empty.ensures in
    let p = err_from_is_err_and c.from_residual.result c.from_residual.ensures.1 in
    let q = c.in_err-stage.ensures.err in
    reading_err c.args.bytes.now c.lines.number c.from_residual.result _ c.in_err-stage.field-0.0 p.1 p.2 (λ m. (q m).0)
    (λ m. reading_bad c.args.bytes.now c.lines.world c.lines.stage c.lines.number c.lines.rest.now c.split_at.result.0.now c.split_at.result.1.now c.line_len.result
    c.line_len.ensures.value c.split_at.ensures.front c.split_at.ensures.back some (q m).1 c.lines.invariant.0)

pub lines-preserved : goal.lines-preserved
lines-preserved c =
    let some : 0 < length c.lines.rest.now = is_some c.is_empty.result c.lines.rest.now c.lines-test.true c.is_empty.ensures in (
      reading_more c.args.bytes.now c.lines.world c.take_line.new.world c.lines.stage c.in_ok-stage.stage c.lines.number (c.lines.number + 1) c.lines.rest.now c.split_at.result.0.now c.split_at.result.1.now c.line_len.result
          refl c.line_len.ensures.value c.split_at.ensures.front c.split_at.ensures.back some c.in_ok-stage.ensures.ok c.lines.invariant.0,
      omega (arith, some, c.line_len.ensures.value, c.split_at.ensures.back_len),
    )

pub returns-in-Done : goal.returns-in-Done
returns-in-Done c =
    let none : c.lines.rest.now ≡ [] = is_none c.is_empty.result c.lines.rest.now c.lines-test.false c.is_empty.ensures in
    let same = c.in_order.ensures.same in
    let r : Reading c.args.bytes.now c.lines.world stage.Done c.lines.number c.lines.rest.now = subst (λ s. Reading c.args.bytes.now c.lines.world s c.lines.number c.lines.rest.now) c.in-Done.is c.lines.invariant.0 in
    λ m. ap Ok same ∙ reading_world c.args.bytes.now c.lines.world c.lines.number c.lines.rest.now none r
    (subst (λ w. IsStrictlySortedBy nat_cmp (keys_of w.words)) same c.in_order.ensures.words) (subst (λ w. IsStrictlySortedBy nat_cmp (keys_of w.bytes)) same c.in_order.ensures.bytes)
    (rw (← same) c.in_order.ensures.some_words) (rw (← same) c.in_order.ensures.some_bytes)

pub returns-in_default : goal.returns-in_default
returns-in_default c =
    let none : c.lines.rest.now ≡ [] = is_none c.is_empty.result c.lines.rest.now c.lines-test.false c.is_empty.ensures in
    λ m. reading_short c.args.bytes.now c.lines.world c.lines.stage c.lines.number c.lines.rest.now none c.lines.invariant.0 c.in_default.not-Done
