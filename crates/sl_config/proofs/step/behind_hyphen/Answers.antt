use Rattle.std.proofs.Common.{arith}
use Rattle.std.proofs.lemmas.Str.Pattern.{strip_prefix_char}
use Rattle.sl_config.proofs.Parts.{stripped_hyphen}
use Rattle.sl_config.proofs.step.behind_hyphen.Goals as goal

pub returns : goal.returns
returns c = stripped_hyphen c.args.word.now c.strip_prefix.result (strip_prefix_char 45 c.args.word.now c.strip_prefix.result c.strip_prefix.ensures.cases (omega arith))
