use Rattle.std.proofs.Common.{◌-◌, ◌∙◌, sym, arith}
use Rattle.log_expr.specs.Tours.{tour_of}
use Rattle.path_summaries.specs.Tours.{around_in}
use Rattle.path_summaries.proofs.Answering.{none_left, never_at, answered_at}
use Rattle.path_summaries.proofs.level.call_body.Goals as goal

pub returns-then-level-eq0 : goal.returns-then-level-eq0
returns-then-level-eq0 c =
    let l = c.args.level.now in
    let t = tour_of l.core.now l.log.now l.bounds.now l.ends.now in
    λ frame.
    c.in_ok-walked.ensures (around_in t l.left l.function.now) frame c.args.room c.args.function
    (none_left t l.left l.function.now c.if-level-eq0.true)

pub returns-then-not-is_key : goal.returns-then-not-is_key
returns-then-not-is_key c =
    let l = c.args.level.now in
    let t = tour_of l.core.now l.log.now l.bounds.now l.ends.now in
    never_at t l.left (l.left - 1) c.args.function c.args.room c.in_ok-own.own c.in_ok-count.count l.function.now c.args.site
    c.args.bank.now l.table.now c.args.state.now c.never-walked.result (omega (arith, c.if-level-eq0.false)) c.requires.ready
    c.in_ok-count.ensures c.if-count-site.false c.in_ok-own.ensures (c.is_within.ensures c.if-not-is_within.false)
    (sym c.is_key.ensures ∙ c.if-not-is_key.true) c.never-walked.ensures

pub returns-in_ok-walked-in-Some : goal.returns-in_ok-walked-in-Some
returns-in_ok-walked-in-Some c =
    let l = c.args.level.now in
    let t = tour_of l.core.now l.log.now l.bounds.now l.ends.now in
    λ frame.
    c.in_ok-walked-in-Some.ensures (around_in t l.left l.function.now) frame c.args.room c.args.function
    (answered_at t l.left (l.left - 1) c.args.function c.args.room c.in_ok-own.own l.function.now c.args.site c.args.bank.now l.table.now
    c.args.state.now.position c.in-Some.summary.now (omega (arith, c.if-level-eq0.false)) c.requires.ready c.in_ok-own.ensures
    (c.is_within.ensures c.if-not-is_within.false) (sym c.is_key.ensures ∙ c.if-not-is_key.false)
    (c.in-Some.ensures t c.args.bank.now c.requires.ready.stand))
