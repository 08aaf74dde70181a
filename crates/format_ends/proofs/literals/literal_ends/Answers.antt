use Rattle.std.proofs.Common.{◌<◌, ◌≤◌, length, get_or, sym, subst}
use Rattle.printf_text.specs.declared.piece.Piece.TheVariants.{Literal}
use Rattle.format_match.specs.Spelled.{AddsEnds}
use Rattle.format_match.proofs.Reached.{behind_more, behind_all, stands}
use Rattle.format_ends.proofs.literals.literal_ends.Goals as goal

pub put_literal_end-requires : goal.put_literal_end-requires
put_literal_end-requires c =
    let items = c.as_slice-from-items.result.now in
    let i = c.starts.from-index in
    subst (λ l. get_or l i 0 ≤ length c.args.log.now) (sym c.as_slice-from-items.ensures.value)
    (c.requires (get_or c.args.before.now i 0) (stands c.args.before.now i (subst (λ l. i < length l) c.as_slice-from-items.ensures.value c.starts-test.true)))

pub starts-preserved : goal.starts-preserved
starts-preserved c end =
    let a = c.args in
    let i = c.starts.from-index in
    let piece = Literal a.bytes.now in
    behind_more piece a.log.now a.before.now i c.starts.ends c.put_literal_end.new.out
    (subst (λ l. i < length l) c.as_slice-from-items.ensures.value c.starts-test.true) c.starts.invariant
    (subst (λ l. AddsEnds piece a.log.now (get_or l i 0) c.starts.ends c.put_literal_end.new.out) c.as_slice-from-items.ensures.value c.in_ok-put_literal_end.ensures) end

pub returns : goal.returns
returns c =
    behind_all (Literal c.args.bytes.now) c.args.log.now c.args.before.now c.starts.from-index c.starts.ends
    (subst (λ l. length l ≤ c.starts.from-index) c.as_slice-from-items.ensures.value c.starts-test.false) c.starts.invariant
