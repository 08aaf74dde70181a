use Rattle.log_language.proofs.OnCodes.{maybe_some, maybe_none}
use Rattle.log_language.proofs.codes.tell_maybe.Goals as goal

pub returns-in_ok-tell_value-in-Some : goal.returns-in_ok-tell_value-in-Some
returns-in_ok-tell_value-in-Some c = maybe_some c.in-Some.is c.get.ensures c.in_ok-tell_value-in-Some.ensures

pub returns-in-None : goal.returns-in-None
returns-in-None c = maybe_none c.in-None.is
