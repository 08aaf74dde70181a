use Rattle.std.proofs.Common.{◌+◌, ◌≤◌, length, subst, sym}
use Rattle.printf_text.specs.Texts.{kinds}
use Rattle.log_expr.specs.Logs.{CoversCallee, AllTextsEnd}
use Rattle.log_expr.specs.Tables.{known_at}
use Rattle.log_expr.proofs.CallForms.{covers_log}
use Rattle.log_expr.proofs.Enough.{put_wider, put_kept}
use Rattle.log_expr.proofs.Growing.{extends_same}
use Rattle.log_expr.proofs.callees.walk_callee.Goals as goal

pub returns-in_ok-to-in-Log : goal.returns-in_ok-to-in-Log
returns-in_ok-to-in-Log g c =
    let site = g.L.Stage.site c.args.walk.now.stage.now in
    let a = c.args in
    let rows = a.table.now in
    let ended = c.put_all.new.self in
    let to = c.in_ok-to-in-Log.to in
    let pieces = c.in-Log.pieces in
    let before = c.in-Log.before in
    let types = c.in-Log.types in
    record {
      extends_ = extends_same site.whole rows;
      wider = put_kept a.ended.now a.from.now ended c.in_ok-put_all-in-Log.ensures;
      covers = subst (λ x. CoversCallee site.whole site.turns (known_at rows site.left) x a.count a.from.now to ended) (sym c.in-Log.is)
          (covers_log site.whole site.turns (known_at rows site.left) pieces before types c.in-Log.watched c.is_served-served.result a.count a.from.now to ended
          (λ y. let r = c.is_served-served.ensures y in (subst (λ l. length (kinds pieces) + before ≤ length l) c.as_slice.ensures r.0, r.1))
          (subst (λ l. AllTextsEnd pieces l c.is_served-served.result a.from.now to) c.log.ensures c.in_ok-to-in-Log.ensures)
          (put_wider a.ended.now a.from.now ended c.in_ok-put_all-in-Log.ensures));
    }
