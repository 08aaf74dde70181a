-- Types as data (C99 6.2.5), how they are derived, and to which classes they belong.
use Rattle.std.specs.Prelude.{ℕ, suc, Bool, true, false, cond, ◌||◌, List, [], ◌∷◌, Option, Some, None, slice_get}
use Rattle.c_language.specs.declared.ctype.IntegerKind.{IntegerKind}
use Rattle.c_language.specs.declared.ctype.IntegerKind.TheVariants as k
use Rattle.c_language.specs.declared.ctype.FloatingKind.{FloatingKind}
use Rattle.c_language.specs.declared.ctype.Qualifiers.{Qualifiers}
use Rattle.c_language.specs.declared.ctype.Base.{Base}
use Rattle.c_language.specs.declared.ctype.Base.TheVariants as b
use Rattle.c_language.specs.declared.ctype.Derivation.{Derivation}
use Rattle.c_language.specs.declared.ctype.Derivation.TheVariants as d
use Rattle.c_language.specs.declared.ctype.CType.{CType}
use Rattle.c_language.specs.declared.class.Class.{Class}
use Rattle.c_language.specs.declared.class.Class.TheVariants as l
use Rattle.c_language.specs.declared.tables.Aggregate.{Aggregate}
use Rattle.c_language.specs.declared.tables.Content.{Content}
use Rattle.c_language.specs.declared.tables.Content.TheVariants as c
use Rattle.c_language.specs.declared.tables.Enumeration.{Enumeration}
use Rattle.c_language.specs.declared.tables.Tables.{Tables}

-- ---- qualifiers (C99 6.7.3)

abbrev pub unqualified : Qualifiers
unqualified = record { is_const = false; is_volatile = false; is_restrict = false }

-- one that is written again says nothing new (C99 6.7.3p4)
abbrev pub with_both : Qualifiers → Qualifiers → Qualifiers
with_both p q =
    record {
      is_const = p.is_const || q.is_const;
      is_volatile = p.is_volatile || q.is_volatile;
      is_restrict = p.is_restrict || q.is_restrict;
    }

-- ---- types without derivation

abbrev pub basic : Base → CType
basic base = record { derivations = []; base = base; qualifiers = unqualified }

abbrev pub void : CType
void = basic b.Void

abbrev pub integer : IntegerKind → CType
integer kind = basic (b.Integer kind)

abbrev pub floating : FloatingKind → CType
floating kind = basic (b.Floating kind)

abbrev pub enumerated : ℕ → CType
enumerated number = basic (b.Enumerated number)

abbrev pub aggregate : ℕ → CType
aggregate number = basic (b.Aggregate number)

-- ---- derived types (C99 6.2.5p20)

abbrev pub pointer : Qualifiers → CType → CType
pointer q t = record t { derivations = d.Pointer q ∷ t.derivations }

abbrev pub pointer_to : CType → CType
pointer_to t = pointer unqualified t

abbrev pub array : Option ℕ → CType → CType
array length t = record t { derivations = d.Array length ∷ t.derivations }

abbrev pub function : ℕ → CType → CType
function signature t = record t { derivations = d.Function signature ∷ t.derivations }

-- what is left of a type without its outermost derivation
abbrev pub rest_of : CType → List Derivation → CType
rest_of t ds = record t { derivations = ds }

-- ---- qualified types: an array is qualified as its elements are, a function type isn't (C99 6.7.3p8)

-- the qualifiers of a type
abbrev pub qualifiers_from : Qualifiers → List Derivation → Qualifiers
qualifiers_from q [] = q
qualifiers_from q (d.Pointer p ∷ ds) = p
qualifiers_from q (d.Array n ∷ ds) = qualifiers_from q ds
qualifiers_from q (d.Function s ∷ ds) = unqualified

abbrev pub qualifiers_of : CType → Qualifiers
qualifiers_of t = qualifiers_from t.qualifiers t.derivations

abbrev pub is_const : CType → Bool
is_const t = (qualifiers_of t).is_const

abbrev pub requalified_from : Qualifiers → List Derivation → List Derivation
requalified_from q [] = []
requalified_from q (d.Pointer p ∷ ds) = d.Pointer q ∷ ds
requalified_from q (d.Array n ∷ ds) = d.Array n ∷ requalified_from q ds
requalified_from q (d.Function s ∷ ds) = d.Function s ∷ ds

-- how many derivations stand before the first that makes no array
abbrev pub arrays_in : List Derivation → ℕ
arrays_in [] = 0
arrays_in (d.Pointer p ∷ ds) = 0
arrays_in (d.Array n ∷ ds) = suc (arrays_in ds)
arrays_in (d.Function s ∷ ds) = 0

-- the type isn't derived, or an array of such a type
abbrev pub is_array_of_base : List Derivation → Bool
is_array_of_base [] = true
is_array_of_base (d.Pointer p ∷ ds) = false
is_array_of_base (d.Array n ∷ ds) = is_array_of_base ds
is_array_of_base (d.Function s ∷ ds) = false

-- the version of the type that has these qualifiers and no other (C99 6.2.5p26)
abbrev pub requalified : Qualifiers → CType → CType
requalified q t =
    record {
      derivations = requalified_from q t.derivations;
      base = t.base;
      qualifiers = cond (is_array_of_base t.derivations) q t.qualifiers;
    }

abbrev pub unqualified_version : CType → CType
unqualified_version t = requalified unqualified t

-- the so qualified version of a type, which keeps the qualifiers that it has (C99 6.7.3p4, 6.5.2.3p3)
abbrev pub qualified : Qualifiers → CType → CType
qualified q t = requalified (with_both q (qualifiers_of t)) t

-- ---- parts of a type

abbrev pub target_in : CType → List Derivation → Option CType
target_in t [] = None
target_in t (d.Pointer q ∷ ds) = Some (rest_of t ds)
target_in t (d.Array n ∷ ds) = None
target_in t (d.Function s ∷ ds) = None

-- the type that a pointer type points to
abbrev pub target_of : CType → Option CType
target_of t = target_in t t.derivations

abbrev pub element_in : CType → List Derivation → Option CType
element_in t [] = None
element_in t (d.Pointer q ∷ ds) = None
element_in t (d.Array n ∷ ds) = Some (rest_of t ds)
element_in t (d.Function s ∷ ds) = None

-- the type of an array type's elements
abbrev pub element_of : CType → Option CType
element_of t = element_in t t.derivations

abbrev pub returned_in : CType → List Derivation → Option CType
returned_in t [] = None
returned_in t (d.Pointer q ∷ ds) = None
returned_in t (d.Array n ∷ ds) = None
returned_in t (d.Function s ∷ ds) = Some (rest_of t ds)

-- the type that a function type returns
abbrev pub returned_of : CType → Option CType
returned_of t = returned_in t t.derivations

-- ---- classes (C99 6.2.5)

-- an enumerated type is an integer type with the range of `int` (C99 6.2.5p17, 6.7.2.2p4)
abbrev pub class_of_base : Base → Class
class_of_base b.Void = l.Void
class_of_base (b.Integer kind) = l.Integer kind
class_of_base (b.Floating kind) = l.Floating
class_of_base b.VaList = l.Opaque
class_of_base (b.Enumerated number) = l.Integer k.Int
class_of_base (b.Aggregate number) = l.Aggregate number

abbrev pub class_in : Base → List Derivation → Class
class_in base [] = class_of_base base
class_in base (d.Pointer q ∷ ds) = l.Pointer
class_in base (d.Array n ∷ ds) = l.Array
class_in base (d.Function s ∷ ds) = l.Function

abbrev pub class_of : CType → Class
class_of t = class_in t.base t.derivations

abbrev pub kind_in : Class → Option IntegerKind
kind_in (l.Integer kind) = Some kind
kind_in _ = None

-- the integer type that this is, with an enumerated type taken as `int`
abbrev pub kind_of : CType → Option IntegerKind
kind_of t = kind_in (class_of t)

-- the integer type of the number by which a scalar converts: a pointer's is its 64-bit number (C99 6.3.2.3p5, p6)
abbrev pub number_kind_in : Class → Option IntegerKind
number_kind_in (l.Integer kind) = Some kind
number_kind_in l.Pointer = Some k.UnsignedLong
number_kind_in _ = None

abbrev pub number_kind : CType → Option IntegerKind
number_kind t = number_kind_in (class_of t)

abbrev pub number_in : Class → Option ℕ
number_in (l.Aggregate number) = Some number
number_in _ = None

-- the structure or union that this is
abbrev pub aggregate_of : CType → Option ℕ
aggregate_of t = number_in (class_of t)

abbrev pub is_integer_class : Class → Bool
is_integer_class (l.Integer kind) = true
is_integer_class _ = false

-- arithmetic types and pointer types (C99 6.2.5p21)
abbrev pub is_scalar_class : Class → Bool
is_scalar_class (l.Integer kind) = true
is_scalar_class l.Floating = true
is_scalar_class l.Pointer = true
is_scalar_class _ = false

abbrev pub is_arithmetic_class : Class → Bool
is_arithmetic_class (l.Integer kind) = true
is_arithmetic_class l.Floating = true
is_arithmetic_class _ = false

abbrev pub is_integer : CType → Bool
is_integer t = is_integer_class (class_of t)

abbrev pub is_arithmetic : CType → Bool
is_arithmetic t = is_arithmetic_class (class_of t)

abbrev pub is_scalar : CType → Bool
is_scalar t = is_scalar_class (class_of t)

abbrev pub is_floating : CType → Bool
is_floating t = class_is_floating (class_of t)
  where
    class_is_floating : Class → Bool
    class_is_floating l.Floating = true
    class_is_floating _ = false

abbrev pub is_pointer : CType → Bool
is_pointer t = class_is_pointer (class_of t)
  where
    class_is_pointer : Class → Bool
    class_is_pointer l.Pointer = true
    class_is_pointer _ = false

abbrev pub is_void : CType → Bool
is_void t = class_is_void (class_of t)
  where
    class_is_void : Class → Bool
    class_is_void l.Void = true
    class_is_void _ = false

abbrev pub is_array : CType → Bool
is_array t = class_is_array (class_of t)
  where
    class_is_array : Class → Bool
    class_is_array l.Array = true
    class_is_array _ = false

abbrev pub is_function : CType → Bool
is_function t = class_is_function (class_of t)
  where
    class_is_function : Class → Bool
    class_is_function l.Function = true
    class_is_function _ = false

-- ---- what the tables say

abbrev pub content_of : Tables → ℕ → Content
content_of tables number = content_in (slice_get tables.aggregates number)
  where
    content_in : Option Aggregate → Content
    content_in None = c.Incomplete
    content_in (Some a) = a.content

abbrev pub is_listed : Tables → ℕ → Bool
is_listed tables number = ended (slice_get tables.enumerations number)
  where
    ended : Option Enumeration → Bool
    ended None = false
    ended (Some e) = e.is_complete
