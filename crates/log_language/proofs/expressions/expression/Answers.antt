use Rattle.std.proofs.Common.{sym}
use Rattle.log_language.proofs.OnCodes.{expression_is}
use Rattle.log_language.proofs.expressions.expression.Goals as goal

pub returns-in-Some : goal.returns-in-Some
returns-in-Some c = expression_is (sym c.in-Some.ensures.value) c.as_slice.ensures c.in_ok-told.ensures c.in_ok-tell_codes-in-Some.ensures
