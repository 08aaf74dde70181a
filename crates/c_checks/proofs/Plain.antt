-- What a type is as a plain one, by the kind of integer that it is.
use Rattle.std.proofs.Common.{◌≡◌, List, [], ◌∷◌, Bool, false, Option, Some, None, refl}
use Rattle.c_language.specs.declared.ctype.Base.{Base}
use Rattle.c_language.specs.declared.ctype.Base.TheVariants as base
use Rattle.c_language.specs.declared.ctype.CType.{CType}
use Rattle.c_language.specs.declared.ctype.Derivation.{Derivation}
use Rattle.c_language.specs.declared.ctype.Derivation.TheVariants as d
use Rattle.c_language.specs.declared.ctype.IntegerKind.{IntegerKind}
use Rattle.c_language.specs.declared.ctype.IntegerKind.TheVariants as int_
use Rattle.c_means.specs.Rules.{plain_from, plain_type, same_plain, same_kind, PlainInteger}
use Rattle.c_means.specs.Checks.{is_int, is_char}
use Rattle.c_checks.specs.PlainTypes.{kind_from, plain_kind}

abbrev pub same_if : Option IntegerKind → IntegerKind → Bool
same_if None k = false
same_if (Some kind) k = same_kind kind k

same_from : (b : Base) (ds : List Derivation) (k : IntegerKind) →
    same_if (kind_from b ds) k ≡ same_plain (plain_from b ds) (Some (PlainInteger k))
same_from base.Void [] k = refl
same_from (base.Integer kind) [] k = refl
same_from (base.Floating kind) [] k = refl
same_from base.VaList [] k = refl
same_from (base.Enumerated n) [] k = refl
same_from (base.Aggregate n) [] k = refl
same_from b (d.Pointer q ∷ ds) k = refl
same_from b (d.Array n ∷ ds) k = refl
same_from b (d.Function n ∷ ds) k = refl

pub int_is : (t : CType) → same_if (plain_kind t) int_.Int ≡ is_int (plain_type t)
int_is t = same_from t.base t.derivations int_.Int

pub char_is : (t : CType) → same_if (plain_kind t) int_.Char ≡ is_char t
char_is t = same_from t.base t.derivations int_.Char

pub unsigned_long_is : (t : CType) →
    same_if (plain_kind t) int_.UnsignedLong ≡ same_plain (plain_type t) (Some (PlainInteger int_.UnsignedLong))
unsigned_long_is t = same_from t.base t.derivations int_.UnsignedLong
