-- The laws of expressions, specifiers and declarators, as those of units take them.
use Rattle.std.proofs.Common.{ℕ}
use Rattle.c_grammar.specs.declared.declarator_place.DeclaratorPlace.TheVariants as place
use Rattle.c_grammar.specs.Reading.{rules}
use Rattle.c_grammar.proofs.IsSound.{specification_takes}
use Rattle.c_grammar.proofs.Sound.{rules_sound}
use Rattle.c_grammar.proofs.Complete.{expr_complete, declarator_complete, specification_complete}
use Rattle.c_grammar.proofs.UnitSteps.{SoundBelow}
use Rattle.c_grammar.proofs.UnitBegins.{CompleteBelow}

pub below_sound : (limit : ℕ) → SoundBelow limit (rules limit)
below_sound limit = record {
  expr = (rules_sound limit).expr;
  specifiers = specification_takes limit (rules limit) (rules_sound limit);
  declarator = (rules_sound limit).declarator;
}

pub below_complete : (limit : ℕ) → CompleteBelow limit (rules limit)
below_complete limit = record {
  expr = expr_complete limit;
  specifiers = specification_complete limit;
  declarator = declarator_complete limit place.Declaration;
}
