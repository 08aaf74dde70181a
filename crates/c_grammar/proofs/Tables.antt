-- The tables of the grammar are those that C99 lists.
use Rattle.std.proofs.Common.{◌≡◌, rules}
use Rattle.c_language.specs.declared.token.Keyword.{Keyword}
use Rattle.c_language.specs.declared.expr.BinaryOperator.{BinaryOperator}
use Rattle.c_grammar.specs.Spelling.{rank_of}
use Rattle.c_grammar.specs.Parts.{begins_type}
use Rattle.c_grammar.specs.Tables.{binary_levels, level_from, specifier_words, is_word_of}

pub ranked_as_listed : (operator : BinaryOperator) → rank_of operator ≡ level_from 4 operator binary_levels
ranked_as_listed operator = grind rules

pub begins_as_listed : (k : Keyword) → begins_type k ≡ is_word_of k specifier_words
begins_as_listed k = grind rules
