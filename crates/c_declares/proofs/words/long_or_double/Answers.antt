use Rattle.std.proofs.Common.{◌∙◌, ap, sym}
use Rattle.c_language.specs.Declares.{double_kind, is_long}
use Rattle.c_declares.proofs.Counts.{has_any}
use Rattle.c_declares.proofs.words.long_or_double.Goals as goal

pub returns : goal.returns
returns c = c.double_kind.ensures ∙ ap double_kind (c.has_long.ensures ∙ sym (has_any is_long c.args.words.now))
