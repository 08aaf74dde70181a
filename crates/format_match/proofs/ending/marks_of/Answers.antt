use Rattle.std.proofs.Common.{◌∙◌, ◌<◌, true, false, length, get_or, set, ap, sym, subst}
use Rattle.std.proofs.Math.ListN.{length-set}
use Rattle.format_match.proofs.PlainTexts.{mark_more}
use Rattle.format_match.proofs.Reached.{stands}
use Rattle.format_match.proofs.ending.marks_of.Goals as goal

pub index_mut-requires : goal.index_mut-requires
index_mut-requires c =
    let same = c.as_slice-position-items.ensures.value in
    let i = c.marked.position-index in
    let within : i < length c.args.before.now = subst (λ l. i < length l) same c.marked-test.true in
    subst (λ n. get_or c.as_slice-position-items.result.now i 0 < n) (sym c.marked.invariant.vec)
    (subst (λ l. get_or l i 0 < c.args.len) (sym same) (c.requires (get_or c.args.before.now i 0) (stands c.args.before.now i within)))

pub marked-preserved : goal.marked-preserved
marked-preserved c =
    let same = c.as_slice-position-items.ensures.value in
    let i = c.marked.position-index in
    let before = c.args.before.now in
    let marks = c.marked.marks.items in
    let within : i < length before = subst (λ l. i < length l) same c.marked-test.true in
    let below : get_or before i 0 < length marks = subst (λ n. get_or before i 0 < n) (sym c.marked.invariant.len) (c.requires (get_or before i 0) (stands before i within)) in
    record {
      len = length-set marks (get_or c.as_slice-position-items.result.now i 0) true ∙ c.marked.invariant.len;
      vec = c.marked.invariant.vec;
      marks = λ y. ap (λ l. get_or (set marks (get_or l i 0) true) y false) same ∙ mark_more marks before i within below c.marked.invariant.marks y;
    }
