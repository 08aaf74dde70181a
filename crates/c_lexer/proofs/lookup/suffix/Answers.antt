use Rattle.std.proofs.Common.{ap, ◌∙◌}
use Rattle.c_lexer.specs.Tables.{lookup, suffix}
use Rattle.c_lexer.proofs.Vocabulary.{suffix_table}
use Rattle.c_lexer.proofs.lookup.suffix.Goals as goal

pub returns : goal.returns
unfolding suffix
returns c = c.lookup.ensures ∙ ap (λ rows. lookup rows c.args.word.now) suffix_table
