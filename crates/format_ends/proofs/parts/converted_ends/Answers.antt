use Rattle.std.proofs.Common.{◌<◌, ◌≤◌, length, get_or, sym, subst}
use Rattle.printf_text.specs.declared.piece.Piece.TheVariants.{Converted}
use Rattle.format_match.specs.Spelled.{AddsEnds}
use Rattle.format_match.proofs.Reached.{behind_more, behind_all, stands}
use Rattle.format_ends.proofs.parts.converted_ends.Goals as goal

pub put_ends-requires-clause-within : goal.put_ends-requires-clause-within
put_ends-requires-clause-within c =
    let i = c.starts.from-index in
    let same = c.as_slice-from-items.ensures.value in
    subst (λ l. get_or l i 0 ≤ length c.args.log.now) (sym same)
    (c.requires.within (get_or c.args.before.now i 0) (stands c.args.before.now i (subst (λ l. i < length l) same c.starts-test.true)))

pub starts-preserved : goal.starts-preserved
starts-preserved c =
    let a = c.args in
    let i = c.starts.from-index in
    let piece = Converted a.c in
    let same = c.as_slice-from-items.ensures.value in
    record {
      ends = behind_more piece a.log.now a.before.now i c.starts.ends c.put_ends.new.out (subst (λ l. i < length l) same c.starts-test.true) c.starts.invariant.ends
          (subst (λ l. AddsEnds piece a.log.now (get_or l i 0) c.starts.ends c.put_ends.new.out) same c.in_ok-put_ends.ensures.adds);
      known = c.in_ok-put_ends.ensures.known;
    }

pub returns-clause-ends : goal.returns-clause-ends
returns-clause-ends c =
    behind_all (Converted c.args.c) c.args.log.now c.args.before.now c.starts.from-index c.starts.ends
    (subst (λ l. length l ≤ c.starts.from-index) c.as_slice-from-items.ensures.value c.starts-test.false) c.starts.invariant.ends
