use Rattle.std.proofs.Common.{arith}
use Rattle.printf_text.specs.Texts.{conversion_text}
use Rattle.format_match.proofs.Following.{begins_short}
use Rattle.format_match.proofs.reaching.field_within.Goals as goal

pub returns-in-Some-clause-reached : goal.returns-in-Some-clause-reached
returns-in-Some-clause-reached c = λ args h b.
    omega (arith, c.in-Some.ensures args h, c.min.ensures, begins_short (conversion_text c.args.c.now args) c.args.rest.now b)

pub returns-in-None-clause-reached : goal.returns-in-None-clause-reached
returns-in-None-clause-reached c = λ args h b. begins_short (conversion_text c.args.c.now args) c.args.rest.now b
