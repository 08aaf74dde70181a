use Rattle.std.proofs.Common.{refl}
use Rattle.sherlog.proofs.getting.pattern_of.Goals as goal

pub returns-in-Ok-clause-pattern : goal.returns-in-Ok-clause-pattern
returns-in-Ok-clause-pattern c = rw c.in-Some.is (c.in-Ok.pattern, (rw c.as_str.ensures at c.in-Ok.ensures.read, refl))
