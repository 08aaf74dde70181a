-- Types that are an integer type other than an enumerated one.
use Rattle.std.specs.Prelude.{List, [], ◌∷◌, Option, Some, None}
use Rattle.c_language.specs.declared.ctype.Base.{Base}
use Rattle.c_language.specs.declared.ctype.Base.TheVariants as base
use Rattle.c_language.specs.declared.ctype.CType.{CType}
use Rattle.c_language.specs.declared.ctype.Derivation.{Derivation}
use Rattle.c_language.specs.declared.ctype.Derivation.TheVariants as d
use Rattle.c_language.specs.declared.ctype.IntegerKind.{IntegerKind}

abbrev pub kind_of_base : Base → Option IntegerKind
kind_of_base (base.Integer kind) = Some kind
kind_of_base base.Void = None
kind_of_base (base.Floating kind) = None
kind_of_base base.VaList = None
kind_of_base (base.Enumerated n) = None
kind_of_base (base.Aggregate n) = None

abbrev pub kind_from : Base → List Derivation → Option IntegerKind
kind_from b [] = kind_of_base b
kind_from b (d.Pointer q ∷ ds) = None
kind_from b (d.Array n ∷ ds) = None
kind_from b (d.Function n ∷ ds) = None

abbrev pub plain_kind : CType → Option IntegerKind
plain_kind t = kind_from t.base t.derivations
