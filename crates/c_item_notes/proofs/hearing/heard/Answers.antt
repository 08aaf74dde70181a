use Rattle.std.proofs.lemmas.Result.{IfOk-weaker}
use Rattle.c_notes.specs.Relations.{IsNoted}
use Rattle.c_item_notes.specs.Levels.{judged}
use Rattle.c_item_notes.proofs.Knowing.{heard_is}
use Rattle.c_item_notes.proofs.hearing.heard.Goals as goal

pub returns : goal.returns
returns c =
    IfOk-weaker c.noted.result
    (λ x. IsNoted (judged c.args.source.now).profile c.args.expr.now c.args.scope.now x c.noted.new.scope) _
    (λ x h. heard_is (judged c.args.source.now) c.args.expr.now c.args.scope.now x c.noted.new.scope h) c.noted.ensures
