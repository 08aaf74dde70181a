use Rattle.std.proofs.Common.{take}
use Rattle.log_expr.specs.Logs.{AllTextsEnd}
use Rattle.log_expr.proofs.calls.text_ends.Given as goal

abbrev pub invariant-starts : goal.invariant-starts
invariant-starts l = AllTextsEnd l.pieces l.log l.enough (take l.start-index l.from) l.to
