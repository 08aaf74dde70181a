-- What is read is derived.
use Rattle.std.proofs.Common.{ℕ, zero, suc}
use Rattle.c_grammar.specs.Reading.{Rules, nothing, next_rules, rules}
use Rattle.c_grammar.proofs.IsSound.{IsSound}
use Rattle.c_grammar.proofs.SoundExpr.{expr_takes}
use Rattle.c_grammar.proofs.SoundSpecifier.{specifier_takes}
use Rattle.c_grammar.proofs.SoundDeclarator.{declarator_takes}

pub next_sound : (below : ℕ) (r : Rules) → IsSound below r → IsSound (suc below) (next_rules r (suc below))
next_sound below r sound = record {
  expr = expr_takes below r sound;
  specifier = λ typed s z x c h. specifier_takes below r sound typed s.0 s.1 z x c h;
  declarator = declarator_takes below r sound;
}

nothing_sound : IsSound zero nothing
nothing_sound = record {
  expr = λ rank s z e h. cc;
  specifier = λ typed s z x c h. cc;
  declarator = λ where_ s z d h. cc;
}

pub rules_sound : (limit : ℕ) → IsSound limit (rules limit)
unfolding rules
rules_sound zero = nothing_sound
rules_sound (suc below) = next_sound below (rules below) (rules_sound below)
