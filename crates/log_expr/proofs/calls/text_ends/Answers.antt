use Rattle.std.proofs.Common.{◌<◌, ◌≤◌, length, get_or, subst}
use Rattle.std.proofs.lemmas.List.{take_all}
use Rattle.log_expr.specs.Logs.{TextsEnd, AllTextsEnd}
use Rattle.log_expr.proofs.Enough.{texts_more}
use Rattle.log_expr.proofs.calls.text_ends.Goals as goal

pub starts-preserved : goal.starts-preserved
starts-preserved c =
    let a = c.args in
    let i = c.starts.start-index in
    let same = c.as_slice-start-items.ensures.value in
    texts_more a.pieces.now a.log.now a.enough a.from.now i c.starts.to c.put_text_ends.new.to
    (subst (λ l. i < length l) same c.starts-test.true) c.starts.invariant c.in_ok-put_text_ends.ensures.old
    (subst (λ l. TextsEnd a.pieces.now a.log.now a.enough (get_or l i 0) c.put_text_ends.new.to) same c.in_ok-put_text_ends.ensures.texts)

pub returns : goal.returns
returns c =
    let a = c.args in
    subst (λ l. AllTextsEnd a.pieces.now a.log.now a.enough l c.starts.to)
    (take_all c.starts.start-index a.from.now (subst (λ l. length l ≤ c.starts.start-index) c.as_slice-start-items.ensures.value c.starts-test.false)) c.starts.invariant
