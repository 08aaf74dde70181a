use Rattle.std.proofs.Common.{◌∙◌, ◌<◌, length, take, get_or, subst}
use Rattle.log_expr.specs.Below.{FoundEnds}
use Rattle.log_expr.proofs.Enough.{put_wider, put_kept}
use Rattle.log_expr.proofs.Growing.{extends_then, calls_more, calls_wider}
use Rattle.log_expr.proofs.callees.body_ends.Goals as goal

pub starts-preserved : goal.starts-preserved
starts-preserved g c =
    let site = g.L.Stage.site c.args.walk.now.stage.now in
    let a = c.args in
    let i = c.starts.start-index in
    let same = c.as_slice-start-items.ensures.value in
    let now = c.ends_of.new.table in
    let to = c.put_all-in-starts.new.self in
    let ended = c.put_all-in-starts-2.new.self in
    let e = c.in_ok-found.found in
    let f : FoundEnds site c.starts.table now a.function (get_or a.from.now i 0) e =
    subst (λ l. FoundEnds site c.starts.table now a.function (get_or l i 0) e) same c.in_ok-found.ensures in
    record {
      extends_ = extends_then site.whole a.table.now c.starts.table now c.starts.invariant.extends_ f.extends_;
      wider = λ y m. put_kept c.starts.ended e.ended ended c.in_ok-put_all-3.ensures y (c.starts.invariant.wider y m);
      calls = calls_more now site.left a.function a.from.now i to ended e (λ z. c.if-left-eq0.false (c.left.ensures ∙ z)) (subst (λ l. i < length l) same c.starts-test.true)
          (calls_wider c.starts.table now site.left a.function (take i a.from.now) c.starts.to to c.starts.ended ended f.extends_.grows
          (put_kept c.starts.to e.back to c.in_ok-put_all-2.ensures) (put_kept c.starts.ended e.ended ended c.in_ok-put_all-3.ensures) c.starts.invariant.calls)
          f.there (put_wider c.starts.to e.back to c.in_ok-put_all-2.ensures) (put_wider c.starts.ended e.ended ended c.in_ok-put_all-3.ensures);
    }
