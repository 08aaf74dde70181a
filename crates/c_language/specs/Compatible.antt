-- When two declarations may be of one thing (C99 6.2.7), and what types become where they are used (C99 6.3.2.1,
-- 6.7.5.3).
use Rattle.std.specs.Prelude.{ℕ, zero, suc, nat_eq, length, Bool, true, false, cond, not, ◌&&◌, ◌||◌, List, [], ◌∷◌, Option, Some, None, slice_get}
use Rattle.std.specs.List.{list_all}
use Rattle.c_language.specs.declared.ctype.IntegerKind.{IntegerKind}
use Rattle.c_language.specs.declared.ctype.IntegerKind.TheVariants as k
use Rattle.c_language.specs.declared.ctype.RealKind.{RealKind}
use Rattle.c_language.specs.declared.ctype.RealKind.TheVariants as r
use Rattle.c_language.specs.declared.ctype.Domain.{Domain}
use Rattle.c_language.specs.declared.ctype.Domain.TheVariants as m
use Rattle.c_language.specs.declared.ctype.FloatingKind.{FloatingKind}
use Rattle.c_language.specs.declared.ctype.Qualifiers.{Qualifiers}
use Rattle.c_language.specs.declared.ctype.Base.{Base}
use Rattle.c_language.specs.declared.ctype.Base.TheVariants as b
use Rattle.c_language.specs.declared.ctype.Derivation.{Derivation}
use Rattle.c_language.specs.declared.ctype.Derivation.TheVariants as d
use Rattle.c_language.specs.declared.ctype.CType.{CType}
use Rattle.c_language.specs.declared.tables.Prototype.{Prototype}
use Rattle.c_language.specs.declared.tables.Prototype.TheVariants as p
use Rattle.c_language.specs.declared.tables.Signature.{Signature}
use Rattle.c_language.specs.declared.tables.Tables.{Tables}
use Rattle.c_language.specs.Types.{unqualified, pointer, pointer_to, rest_of}
use Rattle.c_language.specs.Integers.{promoted}

-- ---- conversions of whole types

-- a parameter of array type is a pointer with the qualifiers between the brackets, one of function type a pointer to
-- it (C99 6.7.5.3p7, p8)
abbrev pub adjusted_from : Qualifiers → CType → List Derivation → CType
adjusted_from q t [] = t
adjusted_from q t (d.Pointer p ∷ ds) = t
adjusted_from q t (d.Array n ∷ ds) = pointer q (rest_of t ds)
adjusted_from q t (d.Function s ∷ ds) = pointer_to t

abbrev pub adjusted : Qualifiers → CType → CType
adjusted q t = adjusted_from q t t.derivations

-- an array is a pointer to its first element, a function a pointer to it (C99 6.3.2.1p3, p4)
abbrev pub decayed : CType → CType
decayed t = adjusted unqualified t

-- ---- sameness of parts

abbrev pub agree : Bool → Bool → Bool
agree x y = cond x y (not y)

abbrev pub same_qualifiers : Qualifiers → Qualifiers → Bool
same_qualifiers p q =
    agree p.is_const q.is_const && agree p.is_volatile q.is_volatile && agree p.is_restrict q.is_restrict

-- a number for each integer type, real type and domain, so that they can be compared
abbrev pub kind_number : IntegerKind → ℕ
kind_number k.Bool = 0
kind_number k.Char = 1
kind_number k.SignedChar = 2
kind_number k.UnsignedChar = 3
kind_number k.Short = 4
kind_number k.UnsignedShort = 5
kind_number k.Int = 6
kind_number k.UnsignedInt = 7
kind_number k.Long = 8
kind_number k.UnsignedLong = 9
kind_number k.LongLong = 10
kind_number k.UnsignedLongLong = 11

abbrev pub real_number : RealKind → ℕ
real_number r.Float = 0
real_number r.Double = 1
real_number r.LongDouble = 2
real_number r.Float32 = 3
real_number r.Float64 = 4
real_number r.Float32x = 5
real_number r.Float64x = 6
real_number r.Float128 = 7

abbrev pub domain_number : Domain → ℕ
domain_number m.Real = 0
domain_number m.Complex = 1
domain_number m.Imaginary = 2

abbrev pub same_kind : IntegerKind → IntegerKind → Bool
same_kind x y = nat_eq (kind_number x) (kind_number y)

abbrev pub same_floating : FloatingKind → FloatingKind → Bool
same_floating x y =
    nat_eq (real_number x.real) (real_number y.real) && nat_eq (domain_number x.domain) (domain_number y.domain)

-- the type `float`, which the default argument promotions make `double` (C99 6.5.2.2p6)
abbrev pub is_float : FloatingKind → Bool
is_float kind = same_floating kind (record { real = r.Float; domain = m.Real })

-- a type that isn't derived is compatible with itself; an enumerated type also with `int` (C99 6.7.2.2p4)
abbrev pub bases_agree : Base → Base → Bool
bases_agree b.Void b.Void = true
bases_agree (b.Integer x) (b.Integer y) = same_kind x y
bases_agree (b.Integer x) (b.Enumerated n) = same_kind x k.Int
bases_agree (b.Enumerated n) (b.Integer y) = same_kind y k.Int
bases_agree (b.Floating x) (b.Floating y) = same_floating x y
bases_agree b.VaList b.VaList = true
bases_agree (b.Enumerated n) (b.Enumerated m) = nat_eq n m
bases_agree (b.Aggregate n) (b.Aggregate m) = nat_eq n m
bases_agree _ _ = false

-- of two arrays, where both numbers of elements are known they are equal (C99 6.7.5.2p6)
abbrev pub lengths_agree : Option ℕ → Option ℕ → Bool
lengths_agree (Some n) (Some m) = nat_eq n m
lengths_agree _ _ = true

-- ---- function types (C99 6.7.5.3p15)

-- a parameter type of which a declaration without prototype may speak: the default argument promotions leave it as it
-- is, up to compatibility (C99 6.5.2.2p6)
abbrev pub is_default_base : Base → Bool
is_default_base b.Void = true
is_default_base (b.Integer kind) = same_kind kind (promoted kind)
is_default_base (b.Floating kind) = not (is_float kind)
is_default_base b.VaList = true
is_default_base (b.Enumerated number) = true
is_default_base (b.Aggregate number) = true

abbrev pub is_default_from : Base → List Derivation → Bool
is_default_from base [] = is_default_base base
is_default_from base (x ∷ ds) = true

abbrev pub is_default : CType → Bool
is_default t = is_default_from t.base t.derivations

abbrev pub are_default : List CType → Bool
are_default ts = list_all is_default ts

abbrev pub are_none : List CType → Bool
are_none [] = true
are_none (t ∷ ts) = false

-- the parameters are as many, and compatible pair by pair
abbrev pub parameters_agree : (CType → CType → Bool) → List CType → List CType → Bool
parameters_agree types [] [] = true
parameters_agree types (t ∷ ts) (u ∷ us) = types t u && parameters_agree types ts us
parameters_agree types _ _ = false

-- what two declarations say of parameters: two prototypes, one, or none
abbrev pub prototypes_agree : (CType → CType → Bool) → Prototype → Prototype → List CType → List CType → Bool
prototypes_agree types p.Fixed p.Fixed ts us = parameters_agree types ts us
prototypes_agree types p.Fixed p.Variadic ts us = false
prototypes_agree types p.Fixed p.Unspecified ts us = are_default ts
prototypes_agree types p.Fixed p.EmptyDefinition ts us = are_none ts
prototypes_agree types p.Variadic p.Fixed ts us = false
prototypes_agree types p.Variadic p.Variadic ts us = parameters_agree types ts us
prototypes_agree types p.Variadic p.Unspecified ts us = false
prototypes_agree types p.Variadic p.EmptyDefinition ts us = false
prototypes_agree types p.Unspecified p.Fixed ts us = are_default us
prototypes_agree types p.Unspecified p.Variadic ts us = false
prototypes_agree types p.Unspecified p.Unspecified ts us = true
prototypes_agree types p.Unspecified p.EmptyDefinition ts us = true
prototypes_agree types p.EmptyDefinition p.Fixed ts us = are_none us
prototypes_agree types p.EmptyDefinition p.Variadic ts us = false
prototypes_agree types p.EmptyDefinition p.Unspecified ts us = true
prototypes_agree types p.EmptyDefinition p.EmptyDefinition ts us = true

abbrev pub both_agree : (CType → CType → Bool) → Option Signature → Option Signature → Bool
both_agree types (Some f) (Some g) = prototypes_agree types f.prototype g.prototype f.parameters g.parameters
both_agree types (Some f) None = false
both_agree types None g = false

-- ---- types (C99 6.2.7, 6.7.3p9, 6.7.5.1p2): derived alike of compatible types, with the same qualifiers

abbrev pub step_agrees : (ℕ → ℕ → Bool) → Derivation → Derivation → Bool
step_agrees signatures (d.Pointer p) (d.Pointer q) = same_qualifiers p q
step_agrees signatures (d.Pointer p) (d.Array m) = false
step_agrees signatures (d.Pointer p) (d.Function g) = false
step_agrees signatures (d.Array n) (d.Pointer q) = false
step_agrees signatures (d.Array n) (d.Array m) = lengths_agree n m
step_agrees signatures (d.Array n) (d.Function g) = false
step_agrees signatures (d.Function f) (d.Pointer q) = false
step_agrees signatures (d.Function f) (d.Array m) = false
step_agrees signatures (d.Function f) (d.Function g) = signatures f g

abbrev pub derivations_agree : (ℕ → ℕ → Bool) → CType → CType → List Derivation → List Derivation → Bool
derivations_agree signatures t u [] [] = bases_agree t.base u.base && same_qualifiers t.qualifiers u.qualifiers
derivations_agree signatures t u [] (e ∷ es) = false
derivations_agree signatures t u (x ∷ ds) [] = false
derivations_agree signatures t u (x ∷ ds) (e ∷ es) =
    step_agrees signatures x e && derivations_agree signatures t u ds es

abbrev pub types_agree : (ℕ → ℕ → Bool) → CType → CType → Bool
types_agree signatures t u = derivations_agree signatures t u t.derivations u.derivations

-- parameters are compared without their own qualifiers; they aren't arrays (C99 6.7.5.3p15)
abbrev pub unqualified_from : (ℕ → ℕ → Bool) → CType → CType → List Derivation → List Derivation → Bool
unqualified_from signatures t u [] [] = bases_agree t.base u.base
unqualified_from signatures t u (d.Pointer p ∷ ds) (d.Pointer q ∷ es) = derivations_agree signatures t u ds es
unqualified_from signatures t u ds es = derivations_agree signatures t u ds es

abbrev pub unqualified_agree : (ℕ → ℕ → Bool) → CType → CType → Bool
unqualified_agree signatures t u = unqualified_from signatures t u t.derivations u.derivations

-- two signatures agree, each with itself; a function's parameters have signatures of smaller numbers, so as many
-- levels as there are signatures are enough
abbrev pub signatures_at : ℕ → Tables → ℕ → ℕ → Bool
signatures_at zero tables f g = nat_eq f g
signatures_at (suc n) tables f g =
    nat_eq f g
    || both_agree (unqualified_agree (signatures_at n tables)) (slice_get tables.signatures f)
    (slice_get tables.signatures g)

-- parameters, where signatures are compared down to this level
abbrev pub parameters_at : ℕ → Tables → CType → CType → Bool
parameters_at n tables t u = unqualified_agree (signatures_at n tables) t u

abbrev pub compatible : Tables → CType → CType → Bool
compatible tables t u = types_agree (signatures_at (length tables.signatures) tables) t u

-- ---- the composite type of two compatible types (C99 6.2.7p3)

abbrev pub known_length : Option ℕ → Option ℕ → Option ℕ
known_length (Some n) m = Some n
known_length None m = m

abbrev pub is_prototype : Prototype → Bool
is_prototype p.Fixed = true
is_prototype p.Variadic = true
is_prototype p.Unspecified = false
is_prototype p.EmptyDefinition = false

abbrev pub has_prototype : Option Signature → Bool
has_prototype None = false
has_prototype (Some s) = is_prototype s.prototype

-- the prototype where one of the two is one
abbrev pub known_signature : Tables → ℕ → ℕ → ℕ
known_signature tables f g =
    cond (has_prototype (slice_get tables.signatures f)) f (cond (has_prototype (slice_get tables.signatures g)) g f)

-- what one of two alike derivations tells: the number of elements, or the prototype
abbrev pub merged : Tables → Derivation → Derivation → Derivation
merged tables (d.Pointer p) e = d.Pointer p
merged tables (d.Array n) (d.Pointer q) = d.Array n
merged tables (d.Array n) (d.Array m) = d.Array (known_length n m)
merged tables (d.Array n) (d.Function g) = d.Array n
merged tables (d.Function f) (d.Pointer q) = d.Function f
merged tables (d.Function f) (d.Array m) = d.Function f
merged tables (d.Function f) (d.Function g) = d.Function (known_signature tables f g)

abbrev pub composite_from : Tables → List Derivation → List Derivation → List Derivation
composite_from tables [] es = []
composite_from tables (x ∷ ds) [] = x ∷ ds
composite_from tables (x ∷ ds) (e ∷ es) = merged tables x e ∷ composite_from tables ds es

-- of two prototypes the first is taken: it says the same of each parameter, but for what a pointer among them points
-- to
abbrev pub composite : Tables → CType → CType → CType
composite tables t u = record t { derivations = composite_from tables t.derivations u.derivations }
