use Rattle.log_expr.proofs.Enough.{texts_wider, put_wider}
use Rattle.log_expr.proofs.LogTexts.{ends_hold, all_hold}
use Rattle.log_expr.proofs.calls.put_text_ends.Goals as goal

pub returns-then-not-enough-clause-texts : goal.returns-then-not-enough-clause-texts
returns-then-not-enough-clause-texts c =
    all_hold c.args.pieces.now c.args.log.now c.args.enough c.args.from c.put_all_positions.new.to c.in_ok-put_all_positions.ensures.here c.in_ok-put_all_positions.ensures.all

pub returns-clause-texts : goal.returns-clause-texts
returns-clause-texts c =
    texts_wider c.args.pieces.now c.args.log.now c.args.enough c.args.from c.in_ok-found.found c.put_all.new.self
    (put_wider c.args.to.now c.in_ok-found.found c.put_all.new.self c.in_ok-put_all.ensures)
    (ends_hold c.args.pieces.now c.args.log.now c.args.enough c.args.from c.in_ok-found.found c.if-from-log.false c.if-not-enough.false c.in_ok-found.ensures)
