use Rattle.std.proofs.Common.{ap, ◌∙◌}
use Rattle.c_lexer.specs.Tables.{lookup, reserved}
use Rattle.c_lexer.proofs.Vocabulary.{reserved_table}
use Rattle.c_lexer.proofs.lookup.reserved.Goals as goal

pub returns : goal.returns
unfolding reserved
returns c = c.lookup.ensures ∙ ap (λ rows. lookup rows c.args.word.now) reserved_table
