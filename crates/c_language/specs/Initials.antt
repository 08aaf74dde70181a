-- Initializers (C99 6.7.8): which object each expression of an initializer initialises, the length that an
-- initializer gives to an
-- array of unknown length, and the rules that it breaks. `initial_step` and `item_step` are the layers, over what
-- expressions say.
use Rattle.std.specs.Prelude.{
  ℕ,
  zero,
  suc,
  ◌+◌,
  ◌*◌,
  ◌-◌,
  ℤ,
  pos,
  negsuc,
  max,
  min,
  nat_eq,
  nat_lt,
  nat_le,
  Bool,
  true,
  false,
  cond,
  not,
  ◌&&◌,
  ◌||◌,
  List,
  [],
  ◌∷◌,
  ◌++◌,
  length,
  Option,
  Some,
  None,
  slice_get,
}
use Rattle.std.specs.Str.{bytes_eq}
use Rattle.c_language.specs.declared.class.Class.{Class}
use Rattle.c_language.specs.declared.class.Class.TheVariants as class
use Rattle.c_language.specs.declared.ctype.CType.{CType}
use Rattle.c_language.specs.declared.ctype.Derivation.{Derivation}
use Rattle.c_language.specs.declared.ctype.Derivation.TheVariants as d
use Rattle.c_language.specs.declared.ctype.IntegerKind.{IntegerKind}
use Rattle.c_language.specs.declared.ctype.IntegerKind.TheVariants as k
use Rattle.c_language.specs.declared.tables.Aggregate.{Aggregate}
use Rattle.c_language.specs.declared.tables.AggregateForm.{AggregateForm}
use Rattle.c_language.specs.declared.tables.AggregateForm.TheVariants as form_
use Rattle.c_language.specs.declared.tables.Member.{Member}
use Rattle.c_language.specs.declared.tables.Tables.{Tables}
use Rattle.c_language.specs.Types.{
  rest_of,
  element_of,
  aggregate_of,
  class_of,
  kind_of,
  is_array,
  is_scalar,
  is_floating,
}
use Rattle.c_language.specs.Integers.{bytes_of}
use Rattle.c_language.specs.Layouts.{counted, size_of, is_sized, is_opaque, members_of}
use Rattle.c_language.specs.declared.scope.Fault.{Fault}
use Rattle.c_language.specs.declared.scope.Rule.{Rule}
use Rattle.c_language.specs.declared.scope.Rule.TheVariants as rule
use Rattle.c_language.specs.declared.shown.Shown.{Shown}
use Rattle.c_language.specs.Scopes.{Name, Scope}
use Rattle.c_language.specs.Typing.{
  Typed,
  type_of,
  constant_of,
  used,
  fault_at,
  incomplete,
  no_constant,
  not_constant,
  is_assignable,
  same_aggregate,
}
use Rattle.c_language.specs.Declares.{form_at}

-- ---- the objects within an object

-- A part of an object: its type, and where it begins in the whole, in bytes that are counted as sizes are.
pub record Part : Type 0 where
  pub type : CType
  pub offset : ℕ

-- the members that can be initialised: those before a flexible array (C99 6.7.2.1p16)
abbrev pub sized_members : Tables → List Member → List Member
sized_members tables [] = []
sized_members tables (m ∷ ms) = cond (is_sized tables m.ctype || is_opaque tables m.ctype) (m
    ∷ sized_members tables ms) []

abbrev pub form_of_number : Tables → Option ℕ → AggregateForm
form_of_number tables None = form_.Structure
form_of_number tables (Some n) = form_at tables.aggregates n

-- whether there is a part of this number: in an array of unknown length always, in a scalar the scalar itself
abbrev pub has_part_in : Tables → CType → Class → List Derivation → ℕ → Bool
has_part_in tables t class.Array (d.Array (Some n) ∷ ds) i = nat_lt i n
has_part_in tables t class.Array ds i = true
has_part_in tables t (class.Aggregate n) ds i = nat_lt i (length (sized_members tables (members_of tables t)))
has_part_in tables t class ds i = nat_eq i 0

abbrev pub has_part : Tables → CType → ℕ → Bool
has_part tables t i = has_part_in tables t (class_of t) t.derivations i

abbrev pub size_or_none : Option ℕ → ℕ
size_or_none None = 0
size_or_none (Some n) = n

abbrev pub element_part : Tables → Part → Option CType → ℕ → Part
element_part tables p None i = p
element_part tables p (Some t) i = record { type = t; offset = counted (p.offset + i * size_or_none (size_of tables t)) }

abbrev pub member_part : Part → Option Member → Part
member_part p None = p
member_part p (Some m) = record { type = m.ctype; offset = counted (p.offset + m.offset) }

abbrev pub part_in : Tables → Part → Class → ℕ → Part
part_in tables p class.Array i = element_part tables p (element_of p.type) i
part_in tables p (class.Aggregate n) i = member_part p (slice_get (members_of tables p.type) i)
part_in tables p class i = p

abbrev pub part_at : Tables → Part → ℕ → Part
part_at tables p i = part_in tables p (class_of p.type) i

-- ---- where a braced list has come to

-- An object within which the next part, by its number, is initialised next.
pub record Frame : Type 0 where
  pub whole : Part
  pub next : ℕ

-- The frames of the closest braces, the innermost first and the object of the braces last, of which `high` parts were
-- met; the parts
-- that the expressions initialise, in the order of the expressions.
pub record Filling : Type 0 where
  pub frames : List Frame
  pub high : ℕ
  pub parts : List Part
  pub faults : List Fault
  pub scope : Scope

abbrev pub Fills : Type 0
Fills = Filling → Filling

abbrev pub started : Part → Frame
started p = record { whole = p; next = 0 }

-- the innermost frame with a part left
abbrev pub with_part_left : Tables → List Frame → List Frame
with_part_left tables [] = []
with_part_left tables (f ∷ fs) = cond (has_part tables f.whole.type f.next) (f ∷ fs) (with_part_left tables fs)

-- Parts are counted up to 2^64 - 1: no array has more elements.
abbrev pub part_count : ℕ → ℕ
part_count n = min n 18446744073709551615

-- what is next behind a part of this number: behind a member of a union no part is left, whichever it is
-- (C99 6.7.8p17)
abbrev pub behind_member : AggregateForm → List Member → ℕ → ℕ
behind_member form_.Structure ms i = part_count (suc i)
behind_member form_.Union ms i = length ms

abbrev pub behind_in : Tables → CType → Class → ℕ → ℕ
behind_in tables t (class.Aggregate n) i =
    behind_member (form_of_number tables (aggregate_of t)) (sized_members tables (members_of tables t)) i
behind_in tables t class i = part_count (suc i)

abbrev pub behind : Tables → CType → ℕ → ℕ
behind tables t i = behind_in tables t (class_of t) i

-- the part behind the next one of a frame
abbrev pub stepped : Tables → Frame → Frame
stepped tables f = record f { next = behind tables f.whole.type f.next }

-- how many parts of the braces' object were met
abbrev pub high_of : ℕ → List Frame → ℕ
high_of high [] = high
high_of high (f ∷ []) = max high f.next
high_of high (f ∷ g ∷ fs) = high_of high (g ∷ fs)

-- ---- one expression

abbrev pub is_byte : Option IntegerKind → Bool
is_byte None = false
is_byte (Some kind) = nat_eq (bytes_of kind) 1

abbrev pub is_byte_type : Option CType → Bool
is_byte_type None = false
is_byte_type (Some t) = is_byte (kind_of t)

-- a string literal initialises a whole array of characters (C99 6.7.8p14)
abbrev pub is_literal_in : Option Shown → Bool
is_literal_in None = false
is_literal_in (Some x) = x.is_literal

abbrev pub is_text_of : CType → Typed → Bool
is_text_of t x = is_literal_in x.shown && is_byte_type (element_of t)

abbrev pub same_in : CType → Option CType → Bool
same_in t None = false
same_in t (Some u) = same_aggregate (aggregate_of t) (aggregate_of u)

-- an expression of its structure or union type initialises a whole object (C99 6.7.8p13)
abbrev pub is_whole_of : CType → Typed → Bool
is_whole_of t x = is_text_of t x || same_in t (type_of x)

abbrev pub length_in : List Derivation → ℕ
length_in (d.Array (Some n) ∷ ds) = n
length_in _ = 0

abbrev pub length_of_type : Option CType → ℕ
length_of_type None = 0
length_of_type (Some t) = length_in t.derivations

-- the zero behind a literal needs no room (C99 6.7.8p14)
abbrev pub text_fits : List Derivation → ℕ → Bool
text_fits (d.Array (Some n) ∷ ds) bytes = nat_le bytes (suc n)
text_fits _ bytes = true

abbrev pub text_faults : CType → Typed → List Fault
text_faults t x = cond (text_fits t.derivations (length_of_type (type_of x))) [] (fault_at x.at rule.TypeMismatch)

abbrev pub value_faults_as : CType → ℕ → Option CType → List Fault
value_faults_as t at None = []
value_faults_as t at (Some u) = cond (is_floating t) (fault_at at rule.FloatUsed) (cond (is_assignable t u) []
    (fault_at at rule.TypeMismatch))

-- a value is converted as in an assignment (C99 6.7.8p11)
abbrev pub value_faults : CType → Typed → List Fault
value_faults t x = (used x).faults ++ value_faults_as t x.at (type_of (used x))

abbrev pub part_faults : CType → Typed → List Fault
part_faults t x = cond (is_text_of t x) (x.faults ++ text_faults t x) (value_faults t x)

abbrev pub fills_part : Typed → Part → List Frame → Fills
fills_part x p frames y = record y {
  frames = frames;
  high = high_of y.high frames;
  parts = y.parts ++ p ∷ [];
  faults = y.faults ++ part_faults p.type x;
  scope = x.after;
}

-- more expressions than parts (C99 6.7.8p2): no object is left
abbrev pub is_surplus : Typed → Fills
is_surplus x y = record y {
  frames = [];
  faults = y.faults ++ x.faults ++ fault_at x.at rule.TypeMismatch;
  scope = x.after;
}

abbrev pub is_scalar_part : CType → Bool
is_scalar_part t = not (is_array t) && no_number (aggregate_of t)
  where
    no_number : Option ℕ → Bool
    no_number None = true
    no_number (Some n) = false

-- a part, and the frames behind it
abbrev pub Found : Type 0
Found = Option (Part × List Frame)

-- the first part of a part, and of that, down to one that the expression initialises as a whole (C99 6.7.8p20)
abbrev pub descends : ℕ → Tables → Typed → List Frame → Found
descends levels tables x [] = None
descends zero tables x (f ∷ fs) = None
descends (suc levels) tables x (f ∷ fs) =
    let p = part_at tables f.whole f.next in
    elim (is_scalar_part p.type || is_whole_of p.type x) as (λ _. Found) [
      | true ↦ Some (p, stepped tables f ∷ fs)
      | false ↦ descends levels tables x (with_part_left tables (started p ∷ stepped tables f ∷ fs))
    ]

abbrev pub fills_found : Typed → Found → Fills
fills_found x None y = is_surplus x y
fills_found x (Some (p, frames)) y = fills_part x p frames y

-- no type has more levels than the longest source has bytes
abbrev pub most_levels : ℕ
most_levels = 8388608

-- the braces' object itself, where a literal in braces initialises it (C99 6.7.8p14)
abbrev pub is_braced_text : List Frame → Typed → Bool
is_braced_text (f ∷ []) x = nat_eq f.next 0 && is_text_of f.whole.type x
is_braced_text _ x = false

abbrev pub braced_text : List Frame → Typed → Fills
braced_text [] x y = is_surplus x y
braced_text (f ∷ fs) x y = record (fills_part x f.whole (record f { next = length_of_type (type_of x) }
    ∷ fs) y) { high = length_of_type (type_of x) }

abbrev pub fills_value : Typed → Fills
fills_value x y =
    cond (is_braced_text y.frames x) (braced_text y.frames x y)
    (fills_found x (descends most_levels x.after.tables x (with_part_left x.after.tables y.frames)) y)

-- ---- a list in braces

abbrev pub fills_all : List Fills → Fills
fills_all [] y = y
fills_all (f ∷ fs) y = fills_all fs (f y)

-- a list for a part of its own, behind which the closest braces go on
abbrev pub fills_within : List Fills → Part → List Frame → Fills
fills_within fs p frames y =
    record (fills_all fs (record y { frames = started p ∷ []; high = 0 })) {
      frames = frames;
      high =
          high_of y.high frames;
    }

-- a list that initialises the next part of the innermost object that has one left (C99 6.7.8p20); there must be one
abbrev pub fills_list : ℕ → List Fills → List Frame → Fills
fills_list at fs [] y = fills_all fs (record y { frames = []; faults = y.faults ++ fault_at at rule.TypeMismatch })
fills_list at fs (f ∷ gs) y =
    fills_within fs (part_at y.scope.tables f.whole f.next) (stepped y.scope.tables f ∷ gs) y

-- ---- designators (C99 6.7.8p6, p7, p17, p18)

-- A designator, over what its expression says.
pub data Designates (E : Type 0) : Type 0 where
  ToMember : ℕ → Name → Designates E
  ToElement : ℕ → E → Designates E

abbrev pub outermost : List Frame → List Frame
outermost [] = []
outermost (f ∷ []) = f ∷ []
outermost (f ∷ g ∷ fs) = outermost (g ∷ fs)

abbrev pub member_number : ℕ → Name → List Member → Option ℕ
member_number i name [] = None
member_number i name (m ∷ ms) = cond (bytes_eq m.name name) (Some i) (member_number (suc i) name ms)

-- a designator that names nothing
abbrev pub names_nothing : ℕ → Fills
names_nothing at y = record y { frames = []; faults = y.faults ++ fault_at at rule.TypeMismatch }

abbrev pub at_number : ℕ → Option ℕ → List Frame → Fills
at_number at None fs y = names_nothing at y
at_number at (Some i) [] y = names_nothing at y
at_number at (Some i) (f ∷ fs) y = record y { frames = record f { next = i } ∷ fs }

abbrev pub to_member : ℕ → Name → List Frame → Fills
to_member at name [] y = y
to_member at name (f ∷ fs) y = at_number at (member_number 0 name (sized_members y.scope.tables (members_of
    y.scope.tables f.whole.type))) (f ∷ fs) y

abbrev pub element_number : Tables → CType → Option ℤ → Option ℕ
element_number tables t None = None
element_number tables t (Some (negsuc n)) = None
element_number tables t (Some (pos n)) = cond (is_array t && has_part tables t n) (Some (part_count n)) None

abbrev pub to_constant : ℕ → Option CType → Option ℤ → List Frame → Fills
to_constant at None z fs y = record y { frames = [] }
to_constant at (Some t) None fs y = record y { frames = [] }
to_constant at (Some t) (Some z) [] y = y
to_constant at (Some t) (Some z) (f ∷ fs) y = at_number at (element_number y.scope.tables f.whole.type (Some z)) (f ∷
    fs) y

abbrev pub to_element : ℕ → Typed → Fills
to_element at x y = to_constant at (type_of x) (constant_of x) y.frames (record y {
  faults = y.faults
      ++ x.faults ++ not_constant x;
  scope = x.after;
})

abbrev pub designates : {E : Type 0} → (E → Scope → Typed) → Designates E → Fills
designates typed (ToMember at name) y = to_member at name y.frames y
designates typed (ToElement at e) y = to_element at (typed e y.scope) y

-- a further designator goes into the part that those before it name
abbrev pub goes_into : List Frame → Fills
goes_into [] y = y
goes_into (f ∷ fs) y = record y {
  frames = started (part_at y.scope.tables f.whole f.next) ∷ stepped y.scope.tables f ∷ fs;
}

abbrev pub designated_further : {E : Type 0} → (E → Scope → Typed) → List (Designates E) → Fills
designated_further typed [] y = y
designated_further typed (x ∷ xs) y =
    let z = goes_into y.frames y in designated_further typed xs (designates typed x z)

-- designators begin at the object of the closest braces
abbrev pub designated_by : {E : Type 0} → (E → Scope → Typed) → List (Designates E) → Fills
designated_by typed [] y = y
designated_by typed (x ∷ xs) y =
    designated_further typed xs (designates typed x (record y { frames = outermost y.frames }))

-- ---- the layers of initializers

-- what an initializer says: as the next part of braces, and of an object of its own
pub record InitialSaid : Type 0 where
  pub fills : Fills
  pub alone : Part → Fills

abbrev pub value_alone : Typed → Part → Fills
value_alone x p y = fills_part x p (record { whole = p; next = length_of_type (type_of x) } ∷ []) y

abbrev pub list_alone : List Fills → Part → Fills
list_alone fs p y = fills_all fs (record y { frames = started p ∷ []; high = 0 })

abbrev pub value_says : {E : Type 0} → (E → Scope → Typed) → E → InitialSaid
value_says typed e = record {
  fills = λ y. fills_value (typed e y.scope) y;
  alone = λ p y. value_alone (typed e y.scope) p y;
}

abbrev pub list_says : ℕ → List Fills → InitialSaid
list_says at fs = record {
  fills = λ y. fills_list at fs (with_part_left y.scope.tables y.frames) y;
  alone = λ p y. list_alone fs p y;
}

abbrev pub item_says : {E : Type 0} → (E → Scope → Typed) → List (Designates E) → InitialSaid → Fills
item_says typed ds x y = x.fills (designated_by typed ds y)

-- ---- a declared object's initializer

-- its parts in the order of its expressions, and how many of its own parts were met
abbrev pub filling_of : InitialSaid → CType → Scope → Filling
filling_of x t s = x.alone (record { type = t; offset = 0 }) (record {
  frames = [];
  high = 0;
  parts = [];
  faults =
      [];
  scope = s;
})
