-- The code's tables are the standard's.
use Rattle.std.proofs.Common.{◌≡◌, map, refl}
use Rattle.c_lexer.specs.Vocabulary.{reserved_words, suffixes, punctuators, longest_first, decimal_types, other_types}
use Rattle.c_lexer.specs.Vocabulary.{unsigned_types}
use Rattle.c_lexer.specs.declared.number.TheConstants.{DECIMAL, ANY, UNSIGNED}
use Rattle.c_lexer.specs.declared.table.TheConstants.{RESERVED, SUFFIXES, PUNCTUATORS}

pub reserved_table : map (λ row. (row.0.now, row.1)) RESERVED ≡ reserved_words
reserved_table = refl

pub suffix_table : map (λ row. (row.0.now, row.1)) SUFFIXES ≡ suffixes
suffix_table = refl

pub punctuator_table : map (λ row. (row.0.now, row.1)) PUNCTUATORS ≡ longest_first punctuators
punctuator_table = refl

pub decimal_table : DECIMAL ≡ decimal_types
decimal_table = refl

pub other_table : ANY ≡ other_types
other_table = refl

pub unsigned_table : UNSIGNED ≡ unsigned_types
unsigned_table = refl
