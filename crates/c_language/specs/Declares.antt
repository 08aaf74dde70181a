-- What declares: specifiers, members, fields, enumerators, declarators, parameters and type names (C99 6.7), each
-- over what the trees
-- in it say. They are generic in what is said of an expression, with a function that tells its `Typed` in a scope, so
-- that a meaning of
-- expressions that says more takes them as they are: `specifier_step`, `member_step`, `field_step`, `enumerator_step`,
-- `declarator_step`, `parameter_step`, `type_name_step`.
use Rattle.std.specs.Prelude.{
  ℕ,
  zero,
  suc,
  ◌+◌,
  ℤ,
  pos,
  negsuc,
  ◌+ℤ◌,
  nat_eq,
  nat_lt,
  Bool,
  true,
  false,
  cond,
  not,
  ◌&&◌,
  ◌||◌,
  List,
  [],
  ◌∷◌,
  ◌++◌,
  length,
  Option,
  Some,
  None,
  Result,
  Ok,
  Err,
}
use Rattle.std.specs.Str.{bytes_eq}
use Rattle.c_language.specs.declared.expr.AggregateKind.{AggregateKind}
use Rattle.c_language.specs.declared.expr.AggregateKind.TheVariants as kind_
use Rattle.c_language.specs.declared.expr.ArrayWord.{ArrayWord}
use Rattle.c_language.specs.declared.expr.ArrayWord.TheVariants as array_word
use Rattle.c_language.specs.declared.expr.Declarator.TheOpen as open_
use Rattle.c_language.specs.declared.expr.Qualifier.{Qualifier}
use Rattle.c_language.specs.declared.expr.Qualifier.TheVariants as q
use Rattle.c_language.specs.declared.expr.StorageClass.{StorageClass}
use Rattle.c_language.specs.declared.expr.TagName.{TagName}
use Rattle.c_language.specs.declared.expr.TypeWord.{TypeWord}
use Rattle.c_language.specs.declared.expr.TypeWord.TheVariants as w
use Rattle.c_language.specs.Folds.{
  Carrier,
  DeclaratorLayer,
  FieldLayer,
  SpecifierLayer,
  EnumeratorLayer,
  MemberDeclarationLayer,
  ParameterLayer,
  TypeNameLayer,
}
use Rattle.c_language.specs.declared.ctype.Base.TheVariants as base
use Rattle.c_language.specs.declared.ctype.CType.{CType}
use Rattle.c_language.specs.declared.ctype.Derivation.{Derivation}
use Rattle.c_language.specs.declared.ctype.Derivation.TheVariants as d
use Rattle.c_language.specs.declared.ctype.Domain.{Domain}
use Rattle.c_language.specs.declared.ctype.Domain.TheVariants as domain
use Rattle.c_language.specs.declared.ctype.IntegerKind.{IntegerKind}
use Rattle.c_language.specs.declared.ctype.IntegerKind.TheVariants as k
use Rattle.c_language.specs.declared.ctype.Qualifiers.{Qualifiers}
use Rattle.c_language.specs.declared.ctype.RealKind.{RealKind}
use Rattle.c_language.specs.declared.ctype.RealKind.TheVariants as real
use Rattle.c_language.specs.declared.tables.AggregateForm.{AggregateForm}
use Rattle.c_language.specs.declared.tables.AggregateForm.TheVariants as form_
use Rattle.c_language.specs.declared.tables.Aggregate.{Aggregate}
use Rattle.c_language.specs.declared.tables.Content.{Content}
use Rattle.c_language.specs.declared.tables.Content.TheVariants as content_
use Rattle.c_language.specs.declared.tables.Layout.{Layout}
use Rattle.c_language.specs.declared.tables.OpaqueCause.TheVariants as cause
use Rattle.c_language.specs.declared.tables.Prototype.{Prototype}
use Rattle.c_language.specs.declared.tables.Prototype.TheVariants as prototype_
use Rattle.c_language.specs.declared.layouts.Extent.{Extent}
use Rattle.c_language.specs.declared.tables.Tables.{Tables}
use Rattle.c_language.specs.Types.{
  unqualified,
  with_both,
  basic,
  void,
  integer,
  floating,
  enumerated,
  aggregate,
  rest_of,
  qualified,
  is_function,
  is_void,
}
use Rattle.c_language.specs.Integers.{is_in}
use Rattle.c_language.specs.Layouts.{is_sized, is_opaque, is_too_large, member_extent, no_members, placed, finished}
use Rattle.c_language.specs.Compatible.{adjusted}
use Rattle.c_language.specs.declared.scope.Entry.{Entry}
use Rattle.c_language.specs.declared.scope.Fault.{Fault}
use Rattle.c_language.specs.declared.scope.Means.{Means}
use Rattle.c_language.specs.declared.scope.Means.TheVariants as means
use Rattle.c_language.specs.declared.scope.Duration.TheVariants as duration
use Rattle.c_language.specs.declared.scope.Linkage.TheVariants as linkage
use Rattle.c_language.specs.declared.scope.Rule.{Rule}
use Rattle.c_language.specs.declared.scope.Rule.TheVariants as rule
use Rattle.c_language.specs.declared.scope.Tag.{Tag}
use Rattle.c_language.specs.declared.scope.TagMeans.{TagMeans}
use Rattle.c_language.specs.declared.scope.TagMeans.TheVariants as tag_
use Rattle.c_language.specs.declared.shown.Shown.{Shown}
use Rattle.c_language.specs.Scopes.{
  Name,
  Block,
  Scope,
  look_up,
  own_entry,
  tag_of,
  own_tag,
  innermost,
  declared,
  with_tag,
  enter,
  leave,
  next_aggregate,
  next_enumeration,
  next_signature,
  with_aggregate,
  with_content,
  with_enumeration,
  with_enumerators,
  with_signature,
}
use Rattle.c_language.specs.Typing.{
  Typed,
  constant_of,
  NamedType,
  fault_at,
  incomplete,
  too_large,
  no_constant,
  not_constant,
}

-- ---- qualifiers (C99 6.7.3)

abbrev pub of_qualifier : Qualifier → Qualifiers
of_qualifier q.Const = record unqualified { is_const = true }
of_qualifier q.Restrict = record unqualified { is_restrict = true }
of_qualifier q.Volatile = record unqualified { is_volatile = true }

abbrev pub all_qualifiers : List Qualifier → Qualifiers
all_qualifiers [] = unqualified
all_qualifiers (x ∷ xs) = with_both (of_qualifier x) (all_qualifiers xs)

abbrev pub qualifiers_among : List ArrayWord → Qualifiers
qualifiers_among [] = unqualified
qualifiers_among (array_word.Qualifier x ∷ xs) = with_both (of_qualifier x) (qualifiers_among xs)
qualifiers_among (array_word.Static ∷ xs) = qualifiers_among xs

-- ---- type specifiers that are words (C99 6.7.2p2): which type they name together, in any order

abbrev pub count : (TypeWord → Bool) → List TypeWord → ℕ
count f [] = 0
count f (x ∷ xs) = cond (f x) (suc (count f xs)) (count f xs)

abbrev pub has : (TypeWord → Bool) → List TypeWord → Bool
has f ws = nat_lt 0 (count f ws)

abbrev pub is_long : TypeWord → Bool
is_long w.Long = true
is_long _ = false

abbrev pub is_short : TypeWord → Bool
is_short w.Short = true
is_short _ = false

abbrev pub is_char : TypeWord → Bool
is_char w.Char = true
is_char _ = false

abbrev pub is_signed : TypeWord → Bool
is_signed w.Signed = true
is_signed _ = false

abbrev pub is_unsigned : TypeWord → Bool
is_unsigned w.Unsigned = true
is_unsigned _ = false

abbrev pub is_complex : TypeWord → Bool
is_complex w.Complex = true
is_complex _ = false

abbrev pub is_imaginary : TypeWord → Bool
is_imaginary w.Imaginary = true
is_imaginary _ = false

-- `char`, `signed char`, `unsigned char`
abbrev pub char_kind : Bool → Bool → IntegerKind
char_kind signed unsigned = cond unsigned k.UnsignedChar (cond signed k.SignedChar k.Char)

-- `int`, `long`, `long long`, by how often `long` stands
abbrev pub wide_kind : ℕ → IntegerKind
wide_kind zero = k.Int
wide_kind (suc zero) = k.Long
wide_kind (suc (suc n)) = k.LongLong

abbrev pub unsigned_wide_kind : ℕ → IntegerKind
unsigned_wide_kind zero = k.UnsignedInt
unsigned_wide_kind (suc zero) = k.UnsignedLong
unsigned_wide_kind (suc (suc n)) = k.UnsignedLongLong

abbrev pub short_kind : Bool → IntegerKind
short_kind unsigned = cond unsigned k.UnsignedShort k.Short

abbrev pub integer_kind : List TypeWord → IntegerKind
integer_kind ws =
    cond (has is_char ws) (char_kind (has is_signed ws) (has is_unsigned ws))
    (cond (has is_short ws) (short_kind (has is_unsigned ws))
    (cond (has is_unsigned ws) (unsigned_wide_kind (count is_long ws)) (wide_kind (count is_long ws))))

abbrev pub domain_of : List TypeWord → Domain
domain_of ws = cond (has is_complex ws) domain.Complex (cond (has is_imaginary ws) domain.Imaginary domain.Real)

abbrev pub a_floating : List TypeWord → RealKind → CType
a_floating ws kind = floating (record { real = kind; domain = domain_of ws })

abbrev pub double_kind : Bool → RealKind
double_kind long = cond long real.LongDouble real.Double

-- the type of the first word that is no part of an integer type's name, else the integer type that all words name
abbrev pub type_by : List TypeWord → List TypeWord → CType
type_by ws [] = integer (integer_kind ws)
type_by ws (w.Void ∷ xs) = void
type_by ws (w.Bool ∷ xs) = integer k.Bool
type_by ws (w.VaList ∷ xs) = basic base.VaList
type_by ws (w.Float ∷ xs) = a_floating ws real.Float
type_by ws (w.Double ∷ xs) = a_floating ws (double_kind (has is_long ws))
type_by ws (w.Float32 ∷ xs) = a_floating ws real.Float32
type_by ws (w.Float64 ∷ xs) = a_floating ws real.Float64
type_by ws (w.Float32x ∷ xs) = a_floating ws real.Float32x
type_by ws (w.Float64x ∷ xs) = a_floating ws real.Float64x
type_by ws (w.Float128 ∷ xs) = a_floating ws real.Float128
type_by ws (w.Char ∷ xs) = type_by ws xs
type_by ws (w.Short ∷ xs) = type_by ws xs
type_by ws (w.Int ∷ xs) = type_by ws xs
type_by ws (w.Long ∷ xs) = type_by ws xs
type_by ws (w.Signed ∷ xs) = type_by ws xs
type_by ws (w.Unsigned ∷ xs) = type_by ws xs
type_by ws (w.Complex ∷ xs) = type_by ws xs
type_by ws (w.Imaginary ∷ xs) = type_by ws xs

abbrev pub type_of_words : List TypeWord → CType
type_of_words ws = type_by ws ws

-- ---- what declaration specifiers say (C99 6.7): each acts on what was said before it

-- A type that a tag or a typedef name says, or that its declaration breaks a rule.
abbrev pub Whole : Type 0
Whole = Option (Option CType)

-- `alone` tells that no declarator follows, `start` is the first specifier's offset.
pub record Said : Type 0 where
  pub alone : Bool
  pub start : Option ℕ
  pub storage : Option StorageClass
  pub is_inline : Bool
  pub qualifiers : Qualifiers
  pub words : List TypeWord
  pub whole : Whole
  pub faults : List Fault
  pub scope : Scope

abbrev pub Saying : Type 0
Saying = Said → Said

-- nothing said yet
abbrev pub begun : Bool → List Fault → Scope → Said
begun alone faults s =
    record {
      alone = alone;
      start = None;
      storage = None;
      is_inline = false;
      qualifiers = unqualified;
      words =
          [];
      whole = None;
      faults = faults;
      scope = s;
    }

abbrev pub in_order : {A : Type 0} → List (A → A) → A → A
in_order [] x = x
in_order (f ∷ fs) x = in_order fs (f x)

-- what specifiers say, from left to right
abbrev pub said_by : List Saying → Bool → List Fault → Scope → Said
said_by fs alone faults s = in_order fs (begun alone faults s)

abbrev pub specified_as : Said → Whole → Option CType
specified_as x None = Some (qualified x.qualifiers (type_of_words x.words))
specified_as x (Some None) = None
specified_as x (Some (Some t)) = Some (qualified x.qualifiers t)

-- the type that all of them specify, with its qualifiers (C99 6.7.3p3); none where a part breaks a rule
abbrev pub specified : Said → Option CType
specified x = specified_as x x.whole

abbrev pub says : CType → Saying
says t x = record x { whole = Some (Some t) }

-- a specifier that breaks a rule
abbrev pub refuses : ℕ → Rule → Saying
refuses at r x = record x { whole = Some None; faults = x.faults ++ fault_at at r }

abbrev pub says_nothing : Saying
says_nothing x = record x { whole = Some None }

-- ---- typedef names (C99 6.7.7p3)

abbrev pub typedef_of : ℕ → Means → Saying
typedef_of at (means.Typedef t) x = says t x
typedef_of at means.Faulty x = says_nothing x
typedef_of at (means.Object t duration linkage) x = refuses at rule.Undeclared x
typedef_of at (means.Function t linkage) x = refuses at rule.Undeclared x
typedef_of at (means.Constant z) x = refuses at rule.Undeclared x

abbrev pub typedef_in : ℕ → Option Entry → Saying
typedef_in at None x = refuses at rule.Undeclared x
typedef_in at (Some e) x = typedef_of at e.means x

-- ---- tags (C99 6.7.2.3)

abbrev pub form_of : AggregateKind → AggregateForm
form_of kind_.Struct = form_.Structure
form_of kind_.Union = form_.Union

abbrev pub same_form : AggregateForm → AggregateForm → Bool
same_form form_.Structure form_.Structure = true
same_form form_.Union form_.Union = true
same_form form_.Structure form_.Union = false
same_form form_.Union form_.Structure = false

abbrev pub form_at : List Aggregate → ℕ → AggregateForm
form_at [] n = form_.Structure
form_at (a ∷ as_) zero = a.form
form_at (a ∷ as_) (suc n) = form_at as_ n

-- a tag of this block, or of any where declarators follow (C99 6.7.2.3p7, p8)
abbrev pub referred_tag : Bool → Scope → Name → Option Tag
referred_tag true s name = own_tag s name
referred_tag false s name = tag_of s name

-- a new structure or union, incomplete, with this tag (C99 6.7.2.3p8)
abbrev pub declares_tag : AggregateForm → Name → Saying
declares_tag form name x = record x {
  whole = Some (Some (aggregate (next_aggregate x.scope)));
  scope = with_tag name (tag_.Aggregate (next_aggregate x.scope)) false (with_aggregate form x.scope);
}

-- a tag stands for one kind of type (C99 6.7.2.3p2, 6.2.3)
abbrev pub refers_to : AggregateForm → ℕ → TagMeans → Saying
refers_to form at (tag_.Aggregate n) x =
    cond (same_form form (form_at x.scope.tables.aggregates n)) (says (aggregate n) x) (refuses at
    rule.DuplicateDefinition x)
refers_to form at (tag_.Enumerated n) x = refuses at rule.DuplicateDefinition x

abbrev pub refers : AggregateForm → TagName → Option Tag → Saying
refers form tag None x = declares_tag form tag.name x
refers form tag (Some t) x = refers_to form tag.at t.means x

-- a tag without list must be of an enumeration in force (C99 6.7.2.3p2)
abbrev pub refers_to_enumeration : ℕ → TagMeans → Saying
refers_to_enumeration at (tag_.Enumerated n) x = says (enumerated n) x
refers_to_enumeration at (tag_.Aggregate n) x = refuses at rule.DuplicateDefinition x

abbrev pub enumeration_tag : ℕ → Option Tag → Saying
enumeration_tag at None x = refuses at rule.Undeclared x
enumeration_tag at (Some t) x = refers_to_enumeration at t.means x

-- ---- where a list of members begins (C99 6.7.2.3p4 to p6)

-- the number that the list completes, and the faults and scope in front of its first member
pub record Begun : Type 0 where
  pub number : ℕ
  pub faults : List Fault
  pub scope : Scope

abbrev pub untagged : AggregateForm → List Fault → Scope → Begun
untagged form faults s = record { number = next_aggregate s; faults = faults; scope = with_aggregate form s }

-- a new type, whose tag hides that of an outer block
abbrev pub newly_tagged : AggregateForm → Name → List Fault → Scope → Begun
newly_tagged form name faults s =
    record {
      number = next_aggregate s;
      faults = faults;
      scope = with_tag name (tag_.Aggregate (next_aggregate s))
          true (with_aggregate form s);
    }

-- the type that this tag already stands for in this block
abbrev pub listed_now : Name → ℕ → List Fault → Scope → Begun
listed_now name n faults s = record { number = n; faults = faults; scope = with_tag name (tag_.Aggregate n) true s }

abbrev pub begun_again : AggregateForm → TagName → Bool → TagMeans → List Fault → Scope → Begun
begun_again form tag false (tag_.Aggregate n) faults s =
    cond (same_form form (form_at s.tables.aggregates n)) (listed_now tag.name n faults s)
    (newly_tagged form tag.name (faults ++ fault_at tag.at rule.DuplicateDefinition) s)
begun_again form tag _ _ faults s = newly_tagged form tag.name (faults ++ fault_at tag.at rule.DuplicateDefinition) s

abbrev pub begun_as : AggregateForm → TagName → Option Tag → List Fault → Scope → Begun
begun_as form tag None faults s = newly_tagged form tag.name faults s
begun_as form tag (Some t) faults s = begun_again form tag t.is_listed t.means faults s

abbrev pub begins : AggregateForm → Option TagName → List Fault → Scope → Begun
begins form None faults s = untagged form faults s
begins form (Some tag) faults s = begun_as form tag (own_tag s tag.name) faults s

-- ---- types made of derivations (C99 6.7.5)

-- the first rule that a derivation breaks, from the type outward: no array of functions or of a type without size, no
-- function that
-- returns an array or a function (C99 6.7.5.2p1, 6.7.5.3p1)
abbrev pub is_array_in : List Derivation → Bool
is_array_in (d.Array n ∷ ds) = true
is_array_in _ = false

abbrev pub is_function_in : List Derivation → Bool
is_function_in (d.Function n ∷ ds) = true
is_function_in _ = false

-- a derivation that no type allows
abbrev pub mismatched : List Derivation → Bool
mismatched [] = false
mismatched (d.Pointer p ∷ ds) = mismatched ds
mismatched (d.Array n ∷ ds) = is_function_in ds || mismatched ds
mismatched (d.Function n ∷ ds) = is_array_in ds || is_function_in ds || mismatched ds

-- an element has a size, or is opaque
abbrev pub lacks_elements : Tables → CType → List Derivation → Bool
lacks_elements tables t [] = false
lacks_elements tables t (d.Pointer p ∷ ds) = lacks_elements tables t ds
lacks_elements tables t (d.Array n ∷ ds) =
    not (is_sized tables (rest_of t ds) || is_opaque tables (rest_of t ds)) || lacks_elements tables t ds
lacks_elements tables t (d.Function n ∷ ds) = lacks_elements tables t ds

-- the rule that a type breaks as it is formed
abbrev pub formed_rule : Tables → CType → Option Rule
formed_rule tables t =
    cond (mismatched t.derivations) (Some rule.TypeMismatch)
    (cond (lacks_elements tables t t.derivations) (Some incomplete) (cond (is_too_large tables t) (Some too_large)
    None))

abbrev pub derived_from : Option (List Derivation) → Option CType → Option CType
derived_from None t = None
derived_from (Some ds) None = None
derived_from (Some ds) (Some t) = Some (record t { derivations = ds ++ t.derivations })

abbrev pub or_rule : CType → Option Rule → Result CType Rule
or_rule t None = Ok t
or_rule t (Some r) = Err r

abbrev pub formed_type : Tables → Option CType → NamedType
formed_type tables None = None
formed_type tables (Some t) = Some (or_rule t (formed_rule tables t))

-- ---- what a declarator says (C99 6.7.5): the name, and the derivations from the name outward, the outermost first

-- what the parameters of a function declarator declare in a scope of their own, and whether each has a name
pub record Parameters : Type 0 where
  pub block : Block
  pub are_named : Bool

-- `brackets` are the qualifiers between the brackets of an outermost array; `inside` is of the outermost function.
pub record Formed : Type 0 where
  pub name : Option (ℕ × Name)
  pub derivations : Option (List Derivation)
  pub brackets : Qualifiers
  pub inside : Option Parameters
  pub faults : List Fault
  pub after : Scope

abbrev pub DeclaratorSays : Type 0
DeclaratorSays = Scope → Formed

-- a name, or none
abbrev pub named : Option (ℕ × Name) → Scope → Formed
named name s = record {
  name = name;
  derivations = Some [];
  brackets = unqualified;
  inside = None;
  faults =
      [];
  after = s;
}

abbrev pub then_derivation : Option (List Derivation) → Option Derivation → Option (List Derivation)
then_derivation (Some ds) (Some x) = Some (ds ++ x ∷ [])
then_derivation (Some ds) None = None
then_derivation None x = None

-- C99 6.7.5.1p1
abbrev pub to_pointer : List Qualifier → Formed → Formed
to_pointer qualifiers x = record x {
  derivations = then_derivation x.derivations (Some (d.Pointer (all_qualifiers
      qualifiers)));
}

-- the length of an array: none given, a constant from 0, or one that breaks a rule
pub record Counted : Type 0 where
  pub step : Option Derivation
  pub faults : List Fault
  pub after : Scope

abbrev pub length_of : Option ℤ → Option Derivation
length_of None = None
length_of (Some (pos n)) = Some (d.Array (Some n))
length_of (Some (negsuc n)) = None

abbrev pub length_faults_of : ℕ → Option Shown → Option Derivation → List Fault
length_faults_of at None d = []
length_faults_of at (Some x) None = fault_at at no_constant
length_faults_of at (Some x) (Some d) = []

abbrev pub counted_by : Typed → Counted
counted_by x = record {
  step = length_of (constant_of x);
  faults = x.faults ++ length_faults_of x.at x.shown (length_of (constant_of x));
  after = x.after;
}

-- C99 6.7.5.2p1, p4, p5
abbrev pub counted : {E : Type 0} → (E → Scope → Typed) → Option E → Scope → Counted
counted typed None s = record { step = Some (d.Array None); faults = []; after = s }
counted typed (Some e) s = counted_by (typed e s)

abbrev pub bracket_qualifiers : Option (List Derivation) → Qualifiers → Qualifiers → Qualifiers
bracket_qualifiers (Some []) old new = new
bracket_qualifiers (Some (x ∷ ds)) old new = old
bracket_qualifiers None old new = old

abbrev pub to_array : Qualifiers → Formed → Counted → Formed
to_array q x n = record x {
  derivations = then_derivation x.derivations n.step;
  brackets = bracket_qualifiers x.derivations x.brackets q;
  faults = x.faults ++ n.faults;
  after = n.after;
}

-- ---- parameters (C99 6.7.5.3)

-- a parameter: its name, and its type, where no part breaks a rule
pub record Named : Type 0 where
  pub name : Option (ℕ × Name)
  pub type : Option CType
  pub faults : List Fault
  pub after : Scope

abbrev pub NamedSays : Type 0
NamedSays = Scope → Named

abbrev pub duplicate_if : ℕ → Option Entry → List Fault
duplicate_if at None = []
duplicate_if at (Some e) = fault_at at rule.DuplicateDefinition

-- a name may be declared once in a block, where it has no linkage (C99 6.7p3)
abbrev pub duplicate_name : Option (ℕ × Name) → Scope → List Fault
duplicate_name None s = []
duplicate_name (Some n) s = duplicate_if n.0 (own_entry s n.1)

abbrev pub parameter_means : Option CType → Means
parameter_means None = means.Faulty
parameter_means (Some t) = means.Object t duration.Automatic linkage.None

-- a parameter's name is in force behind its declarator (C99 6.2.1p7)
abbrev pub with_parameter : Option (ℕ × Name) → Option CType → Scope → Scope
with_parameter None t s = s
with_parameter (Some n) t s = declared n.0 n.1 (parameter_means t) s

-- the parameters so far, and the scope behind them
pub record Listed : Type 0 where
  pub types : Option (List CType)
  pub are_named : Bool
  pub faults : List Fault
  pub after : Scope

abbrev pub none_listed : Scope → Listed
none_listed s = record { types = Some []; are_named = true; faults = []; after = s }

abbrev pub listed_types : Option (List CType) → Option CType → Option (List CType)
listed_types (Some ts) (Some t) = Some (ts ++ t ∷ [])
listed_types (Some ts) None = None
listed_types None t = None

abbrev pub is_named : Option (ℕ × Name) → Bool
is_named None = false
is_named (Some n) = true

abbrev pub and_parameter : Listed → Named → Listed
and_parameter x p = record {
  types = listed_types x.types p.type;
  are_named = x.are_named && is_named p.name;
  faults = x.faults ++ p.faults ++ duplicate_name p.name p.after;
  after = with_parameter p.name p.type p.after;
}

-- from left to right
abbrev pub listed : Listed → List NamedSays → Listed
listed x [] = x
listed x (p ∷ ps) = listed (and_parameter x (p x.after)) ps

-- `void` alone, without name and qualifiers, is no parameter (C99 6.7.5.3p10)
abbrev pub is_plain_void : CType → Bool
is_plain_void t = is_void t && not t.qualifiers.is_const && not t.qualifiers.is_volatile
    && not t.qualifiers.is_restrict

abbrev pub without_void : List CType → List CType
without_void [] = []
without_void (t ∷ []) = cond (is_plain_void t) [] (t ∷ [])
without_void (t ∷ u ∷ ts) = t ∷ u ∷ ts

-- C99 6.7.5.3p9, p14: nothing is said where the list is empty
abbrev pub prototype_of : List NamedSays → Bool → Prototype
prototype_of [] variadic = prototype_.Unspecified
prototype_of (p ∷ ps) variadic = cond variadic prototype_.Variadic prototype_.Fixed

abbrev pub no_types : List CType → Bool
no_types [] = true
no_types (t ∷ ts) = false

abbrev pub has_no_parameter : Option (List CType) → Bool
has_no_parameter None = false
has_no_parameter (Some ts) = no_types (without_void ts)

-- what was declared in the scope of the parameters
abbrev pub declared_inside : Listed → Parameters
declared_inside ps = record { block = innermost ps.after; are_named = ps.are_named || has_no_parameter ps.types }

abbrev pub inside_of : Option Parameters → Listed → Option Parameters
inside_of (Some x) ps = Some x
inside_of None ps = Some (declared_inside ps)

abbrev pub function_step : Option (List CType) → ℕ → Option Derivation
function_step None n = None
function_step (Some ts) n = Some (d.Function n)

abbrev pub with_parameters : Prototype → Option (List CType) → Scope → Scope
with_parameters p None s = s
with_parameters p (Some ts) s = with_signature p (without_void ts) s

-- the parameters' names have a scope of their own (C99 6.2.1p4)
abbrev pub to_function : Prototype → Formed → Listed → Formed
to_function p x ps = record x {
  derivations = then_derivation x.derivations (function_step ps.types (next_signature ps.after));
  inside = inside_of x.inside ps;
  faults = x.faults ++ ps.faults;
  after = with_parameters p ps.types (leave ps.after);
}

-- ---- structures and unions, member by member (C99 6.7.2.1)

-- The members so far: where they lie, their names, whether one is a bit-field or has no known layout, and the offset
-- of the name of
-- the last one where it is a flexible array.
pub record Laid : Type 0 where
  pub form : AggregateForm
  pub layout : Layout
  pub names : List Name
  pub has_bits : Bool
  pub is_opaque : Bool
  pub flexible : Option ℕ
  pub faults : List Fault
  pub scope : Scope

abbrev pub Laying : Type 0
Laying = Laid → Laid

abbrev pub none_laid : AggregateForm → List Fault → Scope → Laid
none_laid form faults s = record {
  form = form;
  layout = no_members;
  names = [];
  has_bits = false;
  is_opaque = false;
  flexible = None;
  faults = faults;
  scope = s;
}

abbrev pub is_listed_name : Name → List Name → Bool
is_listed_name name [] = false
is_listed_name name (n ∷ ns) = bytes_eq n name || is_listed_name name ns

abbrev pub opaque_where : Bool → Content → Content
opaque_where true x = content_.Opaque cause.Other
opaque_where false x = x

-- A bit-field, a member without a field and an opaque member leave the layout unknown.
abbrev pub content_laid : Laid → Content
content_laid x = cond x.has_bits (content_.Opaque cause.BitField) (opaque_where x.is_opaque (content_.Complete
    (finished x.layout)))

-- a flexible array must be the last member (C99 6.7.2.1p2)
abbrev pub flexible_fault : Option ℕ → List Fault
flexible_fault None = []
flexible_fault (Some at) = fault_at at incomplete

-- another member begins
abbrev pub next_member : Laying
next_member x = record x { flexible = None; faults = x.faults ++ flexible_fault x.flexible }

-- one more name among the members' (C99 6.2.3)
abbrev pub with_member_name : ℕ → Name → Laying
with_member_name at name x = record x {
  names = x.names ++ name ∷ [];
  faults = x.faults ++ cond (is_listed_name name x.names) (fault_at at rule.DuplicateDefinition) [];
}

abbrev pub lays : Name → CType → Option Extent → Laying
lays name t None x = record x { is_opaque = true }
lays name t (Some e) x = record x { layout = placed x.form x.layout e name t }

abbrev pub is_unknown_array : List Derivation → Bool
is_unknown_array (d.Array None ∷ ds) = true
is_unknown_array _ = false

abbrev pub no_names : List Name → Bool
no_names [] = true
no_names (n ∷ ns) = false

-- an array of unknown length, in a structure that has another named member (C99 6.7.2.1p2, p16)
abbrev pub may_be_flexible : Laid → CType → Bool
may_be_flexible x t = same_form x.form form_.Structure && is_unknown_array t.derivations && not (no_names x.names)

-- a member that breaks a rule: its name is known, and its place isn't
abbrev pub lays_faulty : List Fault → Laying
lays_faulty faults x = record x { is_opaque = true; faults = x.faults ++ faults }

-- a member has an object type whose size is known, is opaque, or is the flexible array (C99 6.7.2.1p2)
abbrev pub lays_type : ℕ → Name → CType → Laying
lays_type at name t x =
    cond (is_function t) (lays_faulty (fault_at at rule.TypeMismatch) x)
    (cond (is_sized x.scope.tables t || is_opaque x.scope.tables t) (lays name t (member_extent x.scope.tables t) x)
    (cond (may_be_flexible x t) (record (lays name t (member_extent x.scope.tables t) x) { flexible = Some at })
    (lays_faulty (fault_at at incomplete) x)))

abbrev pub lays_member : ℕ → Name → NamedType → Laying
lays_member at name None x = lays_faulty [] x
lays_member at name (Some (Err r)) x = lays_faulty (fault_at at r) x
lays_member at name (Some (Ok t)) x = lays_type at name t x

-- the name last, so that a flexible array asks for one before it
abbrev pub lays_named : Option (ℕ × Name) → NamedType → Laying
lays_named None t x = record x { is_opaque = true }
lays_named (Some n) t x = with_member_name n.0 n.1 (lays_member n.0 n.1 t (next_member x))

abbrev pub lays_formed : Formed → Option CType → Laying
lays_formed f t x =
    lays_named f.name (formed_type f.after.tables (derived_from f.derivations t)) (record x {
      faults = x.faults
          ++ f.faults;
      scope = f.after;
    })

-- a bit-field's name, where it has one
abbrev pub with_bits_name : Option (ℕ × Name) → Laying
with_bits_name None x = next_member x
with_bits_name (Some n) x = with_member_name n.0 n.1 (next_member x)

abbrev pub bits_formed : Formed → Laying
bits_formed f x = with_bits_name f.name (record x { faults = x.faults ++ f.faults; scope = f.after })

abbrev pub bits_declared : Option DeclaratorSays → Laying
bits_declared None x = next_member x
bits_declared (Some f) x = bits_formed (f x.scope) x

-- its width is constant (C99 6.7.2.1p3)
abbrev pub bits_wide : Typed → Laying
bits_wide w x = record x { has_bits = true; faults = x.faults ++ w.faults ++ not_constant w; scope = w.after }

-- what a field says, of the type that its specifiers say
abbrev pub FieldSays : Type 0
FieldSays = Option CType → Laying

abbrev pub each_field : List FieldSays → FieldSays
each_field [] t x = x
each_field (f ∷ fs) t x = each_field fs t (f t x)

-- a member declaration without fields
abbrev pub no_field : Laying
no_field x = record (next_member x) { is_opaque = true }

abbrev pub fields_of : List FieldSays → FieldSays
fields_of [] t x = no_field x
fields_of (f ∷ fs) t x = each_field (f ∷ fs) t x

abbrev pub members_from : Said → List FieldSays → Laying
members_from said fs x = fields_of fs (specified said) (record x { faults = said.faults; scope = said.scope })

-- the list has ended: the type is complete, or opaque
abbrev pub ends_members : AggregateForm → ℕ → Laid → Saying
ends_members form n l x =
    record x {
      whole = Some (Some (aggregate n));
      faults = l.faults;
      scope =
          with_content n form (content_laid l) l.scope;
    }

abbrev pub members_of : AggregateForm → List Laying → Begun → Saying
members_of form ms b x = ends_members form b.number (in_order ms (none_laid form b.faults b.scope)) x

-- ---- enumerations (C99 6.7.2.2)

-- the value of the next constant that is given none, where it is known
pub record Counting : Type 0 where
  pub next : Option ℤ
  pub faults : List Fault
  pub scope : Scope

abbrev pub constant_means : Option ℤ → Means
constant_means None = means.Faulty
constant_means (Some z) = means.Constant z

-- a constant's value, where `int` has it (C99 6.7.2.2p2)
abbrev pub int_value : Option ℤ → Option ℤ
int_value None = None
int_value (Some z) = cond (is_in k.Int z) (Some z) None

abbrev pub int_faults : ℕ → Option ℤ → List Fault
int_faults at None = []
int_faults at (Some z) = cond (is_in k.Int z) [] (fault_at at rule.TypeMismatch)

abbrev pub following : Option ℤ → Option ℤ
following None = None
following (Some z) = Some (z +ℤ pos 1)

-- the constant is in force behind its enumerator (C99 6.2.1p7)
abbrev pub enumerates : ℕ → Name → Option ℤ → List Fault → Scope → Counting
enumerates at name z faults s = record {
  next = following (int_value z);
  faults = faults ++ int_faults at z ++ duplicate_if at (own_entry s name);
  scope = declared at name (constant_means (int_value z)) s;
}

abbrev pub enumerates_typed : ℕ → Name → Typed → List Fault → Counting
enumerates_typed at name x faults = enumerates at name (constant_of x) (faults ++ x.faults ++ not_constant x) x.after

abbrev pub enumerates_by : {E : Type 0} → (E → Scope → Typed) → ℕ → Name → Option E → Counting → Counting
enumerates_by typed at name None x = enumerates at name x.next x.faults x.scope
enumerates_by typed at name (Some e) x = enumerates_typed at name (typed e x.scope) x.faults

-- a tag once in a block (C99 6.7.2.3p1)
abbrev pub enumeration_faults : ℕ → Option Tag → List Fault
enumeration_faults at None = []
enumeration_faults at (Some t) = fault_at at rule.DuplicateDefinition

abbrev pub begins_enumeration : Option TagName → List Fault → Scope → Begun
begins_enumeration None faults s = record { number = next_enumeration s; faults = faults; scope = with_enumeration s }
begins_enumeration (Some tag) faults s = record {
  number = next_enumeration s;
  faults = faults ++ enumeration_faults tag.at (own_tag s tag.name);
  scope = with_tag tag.name (tag_.Enumerated (next_enumeration s)) true (with_enumeration s);
}

abbrev pub ends_enumerators : ℕ → Counting → Saying
ends_enumerators n c x =
    record x { whole = Some (Some (enumerated n)); faults = c.faults; scope = with_enumerators n c.scope }

abbrev pub enumerators_of : List (Counting → Counting) → Begun → Saying
enumerators_of es b x = ends_enumerators b.number (in_order es (record {
  next = Some (pos 0);
  faults =
      b.faults;
  scope = b.scope;
})) x

-- ---- type names (C99 6.7.6)

-- the type, or the rule that it breaks, where its parts have types
pub record TypeSaid : Type 0 where
  pub type : NamedType
  pub faults : List Fault
  pub after : Scope

abbrev pub TypeSays : Type 0
TypeSays = Scope → TypeSaid

abbrev pub type_formed : Said → Formed → TypeSaid
type_formed said f = record {
  type = formed_type f.after.tables (derived_from f.derivations (specified said));
  faults = said.faults ++ f.faults;
  after = f.after;
}

-- ---- parameters: of array or function type they are pointers (C99 6.7.5.3p7, p8)

abbrev pub adjusted_rule : Tables → CType → CType → Option Rule
adjusted_rule tables t u =
    cond (mismatched t.derivations) (Some rule.TypeMismatch)
    (cond (lacks_elements tables t t.derivations) (Some incomplete) (cond (is_too_large tables u) (Some too_large)
    None))

abbrev pub adjusted_type : Tables → Qualifiers → Option CType → NamedType
adjusted_type tables q None = None
adjusted_type tables q (Some t) = Some (or_rule (adjusted q t) (adjusted_rule tables t (adjusted q t)))

abbrev pub type_in : NamedType → Option CType
type_in None = None
type_in (Some (Err r)) = None
type_in (Some (Ok t)) = Some t

abbrev pub faults_in : ℕ → NamedType → List Fault
faults_in at None = []
faults_in at (Some (Err r)) = fault_at at r
faults_in at (Some (Ok t)) = []

-- the name's offset, or that of the first specifier
abbrev pub place_of : Option (ℕ × Name) → Option ℕ → ℕ
place_of (Some n) start = n.0
place_of None (Some at) = at
place_of None None = 0

abbrev pub parameter_typed : Said → Formed → NamedType → Named
parameter_typed said f t = record {
  name = f.name;
  type = type_in t;
  faults = said.faults ++ f.faults ++ faults_in (place_of f.name said.start) t;
  after = f.after;
}

abbrev pub parameter_formed : Said → Formed → Named
parameter_formed said f = parameter_typed said f (adjusted_type f.after.tables f.brackets (derived_from f.derivations
    (specified said)))

-- ---- the layers, with what is said of an expression left open

-- what is said of each tree, where `E` is what is said of an expression
abbrev pub Says : Type 0 → Carrier
Says E = record {
  declarator = DeclaratorSays;
  expr = E;
  field = FieldSays;
  specifier = Saying;
  enumerator = Counting → Counting;
  member = Laying;
  parameter = NamedSays;
  type_name = TypeSays;
}

abbrev pub started_at : Option ℕ → ℕ → Option ℕ
started_at None at = Some at
started_at (Some start) at = Some start

abbrev pub started : ℕ → Saying
started at x = record x { start = started_at x.start at }

abbrev pub specifier_step : {E : Type 0} → SpecifierLayer (Says E) → Saying
specifier_step (open_.Storage at class) x = record (started at x) { storage = Some class }
specifier_step (open_.Qualifier at qualifier) x = record (started at x) {
  qualifiers =
      with_both x.qualifiers (of_qualifier qualifier);
}
specifier_step (open_.Inline at) x = record (started at x) { is_inline = true }
specifier_step (open_.Word at word) x = record (started at x) { words = x.words ++ word ∷ [] }
specifier_step (open_.Typedef at name) x = typedef_in at (look_up x.scope name) (started at x)
specifier_step (open_.Tag at kind tag) x = refers (form_of kind) tag (referred_tag x.alone x.scope tag.name) (started
    at x)
specifier_step (open_.Aggregate at kind tag members) x = members_of (form_of kind) members (begins (form_of kind) tag
    x.faults x.scope) (started at x)
specifier_step (open_.EnumTag at tag) x = enumeration_tag tag.at (tag_of x.scope tag.name) (started at x)
specifier_step (open_.Enumeration at tag enumerators trailing) x = enumerators_of enumerators (begins_enumeration tag
    x.faults x.scope) (started at x)

abbrev pub field_step : {E : Type 0} → (E → Scope → Typed) → FieldLayer (Says E) → FieldSays
field_step typed (open_.Plain declarator) t x = lays_formed (declarator x.scope) t x
field_step typed (open_.Bits at declarator width) t x = let y = bits_declared declarator x in bits_wide (typed width
    y.scope) y

abbrev pub member_step : {E : Type 0} → MemberDeclarationLayer (Says E) → Laying
member_step m x = members_from (said_by m.specifiers false x.faults x.scope) m.fields x

abbrev pub enumerator_step : {E : Type 0} → (E → Scope → Typed) → EnumeratorLayer (Says E) → Counting → Counting
enumerator_step typed e = enumerates_by typed e.at e.name e.value

abbrev pub declarator_step : {E : Type 0} → (E → Scope → Typed) → DeclaratorLayer (Says E) → DeclaratorSays
declarator_step typed (open_.Name at name) s = named (Some (at, name)) s
declarator_step typed open_.Omitted s = named None s
declarator_step typed (open_.Grouped at inner) s = inner s
declarator_step typed (open_.Pointer at qualifiers inner) s = to_pointer qualifiers (inner s)
declarator_step typed (open_.Array at inner words length) s = let x =
    inner s in to_array (qualifiers_among words) x (counted typed length x.after)
declarator_step typed (open_.Function at inner parameters variadic) s =
    let x = inner s in to_function (prototype_of parameters variadic) x (listed (none_listed (enter x.after))
    parameters)

abbrev pub parameter_step : {E : Type 0} → ParameterLayer (Says E) → NamedSays
parameter_step p s = let said = said_by p.specifiers false [] s in parameter_formed said (p.declarator said.scope)

abbrev pub type_name_step : {E : Type 0} → TypeNameLayer (Says E) → TypeSays
type_name_step t s = let said = said_by t.specifiers false [] s in type_formed said (t.declarator said.scope)
