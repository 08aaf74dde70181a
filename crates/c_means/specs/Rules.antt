-- Which rule a call follows (C99 6.5.2.2, and the profile): `rule_of`. The first that applies counts: log function,
-- identity function, body in the source, a function of the C library that has a meaning of its own, a function of
-- the prelude, else a function outside.
use Rattle.std.specs.Prelude.{ℕ, Bool, true, false, cond, ◌&&◌, List, [], ◌∷◌, Option, Some, None, slice_get}
use Rattle.std.specs.Str.{bytes_eq}
use Rattle.c_language.specs.declared.ctype.Base.{Base}
use Rattle.c_language.specs.declared.ctype.Base.TheVariants as base
use Rattle.c_language.specs.declared.ctype.CType.{CType}
use Rattle.c_language.specs.declared.ctype.Derivation.{Derivation}
use Rattle.c_language.specs.declared.ctype.Derivation.TheVariants as d
use Rattle.c_language.specs.declared.ctype.IntegerKind.{IntegerKind}
use Rattle.c_language.specs.declared.ctype.IntegerKind.TheVariants as int_
use Rattle.c_language.specs.declared.tables.Prototype.{Prototype}
use Rattle.c_language.specs.declared.tables.Prototype.TheVariants as prototype_
use Rattle.c_language.specs.declared.tables.Signature.{Signature}
use Rattle.c_language.specs.declared.tables.Tables.{Tables}
use Rattle.c_language.specs.Types.{returned_of}
use Rattle.c_language.specs.declared.scope.Means.{Means}
use Rattle.c_language.specs.declared.scope.Means.TheVariants as means
use Rattle.c_language.specs.Scopes.{Name, last_where}
use Rattle.c_means.specs.Parts.{Site}
use Rattle.c_means.specs.declared.profile.FillFunction.{FillFunction}
use Rattle.c_means.specs.declared.profile.IdentityFunction.{IdentityFunction}
use Rattle.c_means.specs.declared.profile.LogFunction.{LogFunction}
use Rattle.c_means.specs.declared.profile.LogText.{LogText}
use Rattle.c_means.specs.declared.profile.Profile.{Profile}

-- ---- types, with every pointer taken as one to void, and without qualifiers

pub data Plain : Type 0 where
  PlainVoid : Plain
  PlainPointer : Plain
  PlainInteger : IntegerKind → Plain

abbrev pub plain_base : Base → Option Plain
plain_base base.Void = Some PlainVoid
plain_base (base.Integer kind) = Some (PlainInteger kind)
plain_base (base.Floating kind) = None
plain_base base.VaList = None
plain_base (base.Enumerated n) = None
plain_base (base.Aggregate n) = None

abbrev pub plain_from : Base → List Derivation → Option Plain
plain_from b [] = plain_base b
plain_from b (d.Pointer q ∷ ds) = Some PlainPointer
plain_from b (d.Array n ∷ ds) = None
plain_from b (d.Function n ∷ ds) = None

abbrev pub plain_type : CType → Option Plain
plain_type t = plain_from t.base t.derivations

abbrev pub plain_result : Option CType → Option Plain
plain_result None = None
plain_result (Some t) = plain_type t

-- the types of the result and of the parameters, of a function with a prototype
pub record Taking : Type 0 where
  pub result : Option Plain
  pub parameters : List (Option Plain)

abbrev pub plain_all : List CType → List (Option Plain)
plain_all [] = []
plain_all (t ∷ ts) = plain_type t ∷ plain_all ts

abbrev pub taking_with : Option Plain → Prototype → List CType → Option Taking
taking_with r prototype_.Fixed ts = Some (record { result = r; parameters = plain_all ts })
taking_with r prototype_.Variadic ts = None
taking_with r prototype_.Unspecified ts = None
taking_with r prototype_.EmptyDefinition ts = None

abbrev pub taking_by : Option Plain → Option Signature → Option Taking
taking_by r None = None
taking_by r (Some g) = taking_with r g.prototype g.parameters

abbrev pub taking_from : Tables → Option Plain → List Derivation → Option Taking
taking_from tables r (d.Function n ∷ ds) = taking_by r (slice_get tables.signatures n)
taking_from tables r _ = None

abbrev pub taking_of : Tables → CType → Option Taking
taking_of tables t = taking_from tables (plain_result (returned_of t)) t.derivations

abbrev pub same_kind : IntegerKind → IntegerKind → Bool
same_kind int_.Bool int_.Bool = true
same_kind int_.Char int_.Char = true
same_kind int_.SignedChar int_.SignedChar = true
same_kind int_.UnsignedChar int_.UnsignedChar = true
same_kind int_.Short int_.Short = true
same_kind int_.UnsignedShort int_.UnsignedShort = true
same_kind int_.Int int_.Int = true
same_kind int_.UnsignedInt int_.UnsignedInt = true
same_kind int_.Long int_.Long = true
same_kind int_.UnsignedLong int_.UnsignedLong = true
same_kind int_.LongLong int_.LongLong = true
same_kind int_.UnsignedLongLong int_.UnsignedLongLong = true
same_kind _ _ = false

abbrev pub same_plain : Option Plain → Option Plain → Bool
same_plain (Some PlainVoid) (Some PlainVoid) = true
same_plain (Some PlainPointer) (Some PlainPointer) = true
same_plain (Some (PlainInteger a)) (Some (PlainInteger b)) = same_kind a b
same_plain _ _ = false

abbrev pub all_same : List (Option Plain) → List (Option Plain) → Bool
all_same [] [] = true
all_same (x ∷ xs) (y ∷ ys) = same_plain x y && all_same xs ys
all_same [] (y ∷ ys) = false
all_same (x ∷ xs) [] = false

abbrev pub same_taking : Option Taking → Option Taking → Bool
same_taking (Some x) (Some y) = same_plain x.result y.result && all_same x.parameters y.parameters
same_taking _ _ = false

-- ---- what is known of functions

abbrev pub log_of : Profile → Name → Option LogFunction
log_of p name = last_where (λ f. bytes_eq f.name name) None p.log

abbrev pub identity_of : Profile → Name → Option IdentityFunction
identity_of p name = last_where (λ f. bytes_eq f.name name) None p.identity

abbrev pub fill_of : Profile → Name → Option FillFunction
fill_of p name = last_where (λ f. bytes_eq f.name name) None p.fills

abbrev pub is_among : Name → List Name → Bool
is_among name [] = false
is_among name (x ∷ xs) = cond (bytes_eq x name) true (is_among name xs)

abbrev pub index_of : Option IdentityFunction → Option ℕ
index_of None = None
index_of (Some f) = Some f.index

abbrev pub identity_index : Profile → Name → Option ℕ
identity_index p name = index_of (identity_of p name)

-- ---- functions of the C library with a meaning of their own (C99 7.20.3, 7.20.4)

pub data Library : Type 0 where
  Exit : Library
  Abort : Library
  Malloc : Library
  Calloc : Library
  Free : Library

abbrev pub exit' : Name
exit' = 101 ∷ 120 ∷ 105 ∷ 116 ∷ []

abbrev pub abort' : Name
abort' = 97 ∷ 98 ∷ 111 ∷ 114 ∷ 116 ∷ []

abbrev pub malloc' : Name
malloc' = 109 ∷ 97 ∷ 108 ∷ 108 ∷ 111 ∷ 99 ∷ []

abbrev pub calloc' : Name
calloc' = 99 ∷ 97 ∷ 108 ∷ 108 ∷ 111 ∷ 99 ∷ []

abbrev pub free' : Name
free' = 102 ∷ 114 ∷ 101 ∷ 101 ∷ []

abbrev pub library_named : Name → Option Library
library_named name =
    cond (bytes_eq name exit') (Some Exit)
    (cond (bytes_eq name abort') (Some Abort) (cond (bytes_eq name malloc') (Some Malloc)
    (cond (bytes_eq name calloc') (Some Calloc) (cond (bytes_eq name free') (Some Free) None))))

abbrev pub size_plain : Option Plain
size_plain = Some (PlainInteger int_.UnsignedLong)

-- void exit(int); void abort(void); void *malloc(unsigned long); void *calloc(unsigned long, unsigned long); void
-- free(void *);
abbrev pub library_type : Library → Taking
library_type Exit = record { result = Some PlainVoid; parameters = Some (PlainInteger int_.Int) ∷ [] }
library_type Abort = record { result = Some PlainVoid; parameters = [] }
library_type Malloc = record { result = Some PlainPointer; parameters = size_plain ∷ [] }
library_type Calloc = record { result = Some PlainPointer; parameters = size_plain ∷ size_plain ∷ [] }
library_type Free = record { result = Some PlainVoid; parameters = Some PlainPointer ∷ [] }

abbrev pub library_if : Option Taking → Option Library → Option Library
library_if t None = None
library_if t (Some f) = cond (same_taking t (Some (library_type f))) (Some f) None

-- the type that the callee's declaration in force has
abbrev pub declared_taking : Tables → Means → Option Taking
declared_taking tables (means.Function t linkage) = taking_of tables t
declared_taking tables (means.Object t duration linkage) = None
declared_taking tables (means.Typedef t) = None
declared_taking tables (means.Constant z) = None
declared_taking tables means.Faulty = None

abbrev pub callee_taking : Site → Option Taking
callee_taking g = declared_taking g.scope.tables g.callee.means

abbrev pub library_of : Site → Option Library
library_of g = library_if (callee_taking g) (library_named g.callee.name)

-- ---- the rule

-- what a function with a body is, is left open here
pub data Rules (F : Type 0) : Type 0 where
  LogCall : LogText → Rules F
  IdentityCall : ℕ → Rules F
  BodyCall : F → Rules F
  LibraryCall : Library → Rules F
  PreludeCall : F → Rules F
  OutsideCall : Rules F

abbrev pub prelude_or_outside : {F : Type 0} → Option F → Rules F
prelude_or_outside (Some f) = PreludeCall f
prelude_or_outside None = OutsideCall

abbrev pub library_or : {F : Type 0} → Option Library → Option F → Rules F
library_or (Some f) p = LibraryCall f
library_or None p = prelude_or_outside p

abbrev pub body_or : {F : Type 0} → Option F → Option Library → Option F → Rules F
body_or (Some f) l p = BodyCall f
body_or None l p = library_or l p

abbrev pub identity_or : {F : Type 0} → Option ℕ → Option F → Option Library → Option F → Rules F
identity_or (Some i) f l p = IdentityCall i
identity_or None f l p = body_or f l p

abbrev pub rule_by : {F : Type 0} → Option LogFunction → Option ℕ → Option F → Option Library → Option F → Rules F
rule_by (Some g) i f l p = LogCall g.text
rule_by None i f l p = identity_or i f l p
