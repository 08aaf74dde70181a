-- Qualifiers that words say together.
use Rattle.std.proofs.Common.{◌≡◌, refl, Bool, true, false}
use Rattle.std.specs.Prelude.{◌||◌}
use Rattle.c_language.specs.declared.ctype.Qualifiers.{Qualifiers}
use Rattle.c_language.specs.Types.{unqualified, with_both}

or_assoc : (a b c : Bool) → ((a || b) || c) ≡ (a || (b || c))
or_assoc true b c = refl
or_assoc false b c = refl

or_false : (a : Bool) → (a || false) ≡ a
or_false true = refl
or_false false = refl

pub both_assoc : (p q r : Qualifiers) → with_both (with_both p q) r ≡ with_both p (with_both q r)
both_assoc p q r =
    rw (
      or_assoc p.is_const q.is_const r.is_const,
      or_assoc p.is_volatile q.is_volatile r.is_volatile,
      or_assoc p.is_restrict q.is_restrict r.is_restrict,
    ) refl

pub both_none : (p : Qualifiers) → with_both p unqualified ≡ p
both_none p = rw (or_false p.is_const, or_false p.is_volatile, or_false p.is_restrict) refl
