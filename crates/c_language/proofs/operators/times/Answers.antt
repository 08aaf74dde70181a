use Rattle.c_language.proofs.Words.{product_passed}
use Rattle.c_language.proofs.operators.times.Goals as goal

pub returns : goal.returns
returns c = product_passed c.args.a c.args.b c.requires.a_low c.requires.a_high c.requires.b_low c.requires.b_high
