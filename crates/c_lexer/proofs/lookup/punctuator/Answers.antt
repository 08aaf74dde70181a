use Rattle.std.proofs.Common.{length, ap, ◌∙◌}
use Rattle.c_lexer.specs.Tables.{first_prefix, punctuator}
use Rattle.c_lexer.proofs.Spellings.{punctuator_long, within_both}
use Rattle.c_lexer.proofs.Vocabulary.{punctuator_table}
use Rattle.c_lexer.proofs.lookup.punctuator.Goals as goal

pub returns-clause-value : goal.returns-clause-value
unfolding punctuator
returns-clause-value c = c.first_prefix.ensures.value ∙ ap (λ rows. first_prefix rows c.args.text.now) punctuator_table

pub returns-clause-within : goal.returns-clause-within
unfolding punctuator
returns-clause-within c =
    within_both c.first_prefix.result (length c.args.text.now)
    (rw (c.first_prefix.ensures.value ∙ ap (λ rows. first_prefix rows c.args.text.now) punctuator_table)
    (punctuator_long c.args.text.now))
    c.first_prefix.ensures.within
