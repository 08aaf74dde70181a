use Rattle.std.proofs.Common.{None, arith, sym}
use Rattle.std.proofs.lemmas.Str.Pattern.{split_parts}
use Rattle.sl_config.proofs.Parts.{without_value}
use Rattle.sl_config.proofs.step.name_and_value.Goals as goal

pub returns-in-None : goal.returns-in-None
returns-in-None c = sym (without_value c.args.word.now (split_parts 61 c.args.word.now None c.in-None.ensures.cases (omega arith)))
