-- Types of the core for those that parts have.
use Rattle.std.proofs.Common.{◌≡◌, ℕ, ℤ, Bool, List, [], ◌∷◌, Option, Some, None, refl, sym, ap, ap₂, ◌∙◌, subst}
use Rattle.std.specs.Prelude.{unsigned_abs, is_some, ◌&&◌, true, false}
use Rattle.std.proofs.lemmas.Bool.{false≢true}
use Rattle.c_language.specs.declared.expr.BinaryOperator.{BinaryOperator}
use Rattle.c_language.specs.declared.class.Class.{Class}
use Rattle.c_language.specs.declared.class.Class.TheVariants as class
use Rattle.c_language.specs.declared.ctype.Base.{Base}
use Rattle.c_language.specs.declared.ctype.Base.TheVariants as b
use Rattle.c_language.specs.declared.ctype.CType.{CType}
use Rattle.c_language.specs.declared.ctype.Derivation.{Derivation}
use Rattle.c_language.specs.declared.ctype.Derivation.TheVariants as d
use Rattle.c_language.specs.declared.ctype.IntegerKind.{IntegerKind}
use Rattle.c_language.specs.declared.ctype.IntegerKind.TheVariants as k
use Rattle.c_language.specs.declared.ctype.Qualifiers.{Qualifiers}
use Rattle.c_language.specs.declared.tables.Tables.{Tables}
use Rattle.c_language.specs.Integers.{bytes_of as kind_bytes}
use Rattle.c_language.specs.Layouts.{size_of}
use Rattle.c_language.specs.Types.{class_of}
use Rattle.c_language.specs.declared.shown.Shown.{Shown}
use Rattle.c_language.specs.declared.shown.Told.{Told}
use Rattle.c_language.specs.Typing.{Typed, type_of, type_in, told_of, used_told}
use Rattle.c_means.specs.Expressions.{part_of_value, is_updated}
use Rattle.c_means.specs.Parts.{State}
use Rattle.c_means.specs.Values as values
use Rattle.c_means.specs.Objects.{is_read}
use Rattle.c_means.specs.Values.{class_in, bytes_of, bytes_as}
use Rattle.c_means.specs.Operators.{kind_in, target_in, value_type, operand_of, operated, is_scalar_class, works_on}
use Rattle.c_means.specs.Operators as c_operators
use Rattle.core_tree.specs.declared.types.Operator.{Operator}
use Rattle.core_tree.specs.declared.types.ValueType.{ValueType}
use Rattle.core_tree.specs.declared.types.ValueType.TheVariants as v
use Rattle.core_tree.specs.Memory as memory
use Rattle.core_tree.specs.Numbers as numbers
use Rattle.elaborate.specs.declared.operators.OperandType.{OperandType}
use Rattle.elaborate.specs.Means.{SameType, OfType, as_done, as_found}
use Rattle.elaborate.specs.Operators.{Operates, operator_of}
use Rattle.elaborate.specs.Types as types
use Rattle.elaborate.specs.Types.{integer_type}
use Rattle.elaborate.proofs.Numbers.{converted_same}
use Rattle.elaborate.proofs.Objects.{same_integer, same_pointer, same_block, same_floating, same_opaque}
use Rattle.elaborate.proofs.Operates.{works_same}
use Rattle.core_forms.specs.Nodes.{scalar_in, scalar_by, operand_by, type_as}
use Rattle.core_forms.proofs.Saying.{value_told}
use Rattle.c_language.specs.declared.scope.Entry.{Entry}
use Rattle.c_language.specs.declared.scope.Fault.{Fault}

pub some_same : {A : Type 0} (x y : A) → Some x ≡ Some y → x ≡ y
some_same x y e = cc

pub none_some : {A : Type 0} {x : A} → None ≡ Some x → ⊥
none_some e = cc

-- ---- how objects are read and written

read_same : (c : Class) (size : Option ℕ) → is_read c ≡ true
    → SameType c (bytes_as c size) (types.value_type c (bytes_as c size))
read_same (class.Integer kind) size e = same_integer kind
read_same class.Pointer size e = same_pointer
read_same (class.Aggregate number) size e = same_block number (bytes_as (class.Aggregate number) size)
read_same class.Floating size e = same_floating (bytes_as class.Floating size)
read_same class.Opaque size e = same_opaque (bytes_as class.Opaque size)
read_same class.Array size e = absurd (false≢true e)
read_same class.Function size e = absurd (false≢true e)
read_same class.Void size e = absurd (false≢true e)

read_type : (tables : Tables) (o : Option CType) (c : Class) → class_in o ≡ c → is_read c ≡ true
    → SameType c (bytes_of tables o) (types.value_type c (bytes_of tables o))
read_type tables None c is e = absurd (false≢true (ap is_read is ∙ e))
read_type tables (Some t) c is e =
    subst (λ c. SameType c (bytes_as (class_of t) (size_of tables t)) (types.value_type c (bytes_as (class_of t) (size_of tables t)))) is
    (read_same (class_of t) (size_of tables t) (ap is_read is ∙ e))

-- what is read is read as a value of its class and bytes
pub of_read : (tables : Tables) (x : Typed) (c : Class) → class_in (type_of x) ≡ c → is_read c ≡ true
    → OfType tables x (types.value_type c (bytes_of tables (type_of x)))
of_read tables x c is e = record {
  class = c;
  bytes = bytes_of tables (type_of x);
  is_class = is;
  has_bytes = refl;
  same = read_type tables (type_of x) c is e;
}

same_scalar : (c : Class) (size : Option ℕ) (t : ValueType) → scalar_in c ≡ Some t → SameType c (bytes_as c size) t
same_scalar (class.Integer kind) size t e = subst (λ t. SameType (class.Integer kind) (bytes_as (class.Integer kind)
    size) t) (some_same (integer_type kind) t e) (same_integer kind)
same_scalar class.Pointer size t e = subst (λ t. SameType class.Pointer 8 t) (some_same v.Pointer t e) same_pointer
same_scalar (class.Aggregate number) size t e = absurd (none_some e)
same_scalar class.Array size t e = absurd (none_some e)
same_scalar class.Function size t e = absurd (none_some e)
same_scalar class.Void size t e = absurd (none_some e)
same_scalar class.Floating size t e = absurd (none_some e)
same_scalar class.Opaque size t e = absurd (none_some e)

scalar_same : (tables : Tables) (o : Option CType) (t : ValueType) → scalar_in (class_in o) ≡ Some t
    → SameType (class_in o) (bytes_of tables o) t
scalar_same tables None t e = absurd (none_some e)
scalar_same tables (Some c) t e = same_scalar (class_of c) (size_of tables c) t e

pub of_scalar : (tables : Tables) (x : Typed) (t : ValueType) → scalar_in (class_in (type_of x)) ≡ Some t
    → OfType tables x t
of_scalar tables x t e = record {
  class = class_in (type_of x);
  bytes = bytes_of tables (type_of x);
  is_class = refl;
  has_bytes = refl;
  same = scalar_same tables (type_of x) t e;
}

-- ---- conversions

pub converts_same : (c : Class) (n : ℕ) (z : ℤ) → numbers.converted_to (types.value_type c n) z
    ≡ values.converted_to c z
converts_same (class.Integer kind) n z = converted_same kind z
converts_same class.Pointer n z = refl
converts_same (class.Aggregate number) n z = refl
converts_same class.Array n z = refl
converts_same class.Function n z = refl
converts_same class.Void n z = refl
converts_same class.Floating n z = refl
converts_same class.Opaque n z = refl

-- ---- bytes of a value

integer_bytes : (kind : IntegerKind) (offset n : ℕ)
    → numbers.value_of_bytes (integer_type kind) (values.bytes_within offset (numbers.size_of (integer_type kind)) n)
    ≡ values.value_of_bytes (class.Integer kind) (values.bytes_within offset (kind_bytes kind) n)
integer_bytes k.Bool offset n = refl
integer_bytes k.Char offset n = refl
integer_bytes k.SignedChar offset n = refl
integer_bytes k.UnsignedChar offset n = refl
integer_bytes k.Short offset n = refl
integer_bytes k.UnsignedShort offset n = refl
integer_bytes k.Int offset n = refl
integer_bytes k.UnsignedInt offset n = refl
integer_bytes k.Long offset n = refl
integer_bytes k.UnsignedLong offset n = refl
integer_bytes k.LongLong offset n = refl
integer_bytes k.UnsignedLongLong offset n = refl

class_bytes : (c : Class) (size : Option ℕ) (offset n : ℕ) → let t = types.value_type c (bytes_as c size) in
    numbers.value_of_bytes t (values.bytes_within offset (numbers.size_of t) n)
    ≡ values.value_of_bytes c (values.bytes_within offset (bytes_as c size) n)
class_bytes (class.Integer kind) size offset n = integer_bytes kind offset n
class_bytes class.Pointer size offset n = refl
class_bytes (class.Aggregate number) size offset n = refl
class_bytes class.Array size offset n = refl
class_bytes class.Function size offset n = refl
class_bytes class.Void size offset n = refl
class_bytes class.Floating size offset n = refl
class_bytes class.Opaque size offset n = refl

bytes_same : (tables : Tables) (o : Option CType) (offset n : ℕ)
    → numbers.value_of_bytes (type_as tables o) (values.bytes_within offset (numbers.size_of (type_as tables o)) n)
    ≡ values.value_of_bytes (class_in o) (values.bytes_within offset (bytes_of tables o) n)
bytes_same tables None offset n = refl
bytes_same tables (Some c) offset n = class_bytes (class_of c) (size_of tables c) offset n

pub extracts_same : (x : Typed) (offset : ℕ) (z : ℤ)
    → (let t = type_as x.after.tables (type_of x) in
    numbers.value_of_bytes t (values.bytes_within offset (numbers.size_of t) (unsigned_abs z)))
    ≡ part_of_value offset x z
extracts_same x offset z = bytes_same x.after.tables (type_of x) offset (unsigned_abs z)

-- ---- operands

-- an operator of the core does what the operator does on two parts
pub operates_on : (op : BinaryOperator) (tables : Tables) (x y : Told) (p q : Typed) (chosen : Operator)
    → tables ≡ q.after.tables → x ≡ value_told p → y ≡ value_told q
    → Operates op (operand_by tables x) (operand_by tables y) chosen
    → (at : ℕ) (v w : ℤ) (s : State) → memory.operated at chosen v w (as_done s) ≡ as_found
    (c_operators.operated_on at op p q v w s)
operates_on op tables x y p q chosen t h i does at v w s =
    does at v w s
    ∙ ap (λ u. as_found (operated at op (operand_of u (type_in x.shown) v) (operand_of u (type_in y.shown) w) s)) t
    ∙ ap₂ (λ (a b : Told). as_found (operated at op (operand_of q.after.tables (type_in a.shown) v)
    (operand_of q.after.tables (type_in b.shown) w) s)) h i

-- ---- an integer or pointer is told the same as it stands and as a value

record Alike (tables tables' : Tables) (x : Told) : Type 0 where
  pub kind : kind_in (type_in x.shown) ≡ kind_in (type_in (used_told tables x).shown)
  pub element : bytes_of tables' (target_in (type_in x.shown))
      ≡ bytes_of tables' (target_in (type_in (used_told tables x).shown))

by_type : (tables tables' : Tables) (at : ℕ) (faults : List Fault) (base : Base)
    (ds : List Derivation) (q : Qualifiers) (value : Option ℤ) (null lvalue literal : Bool)
    (designates : Option Entry) (t : ValueType)
    → scalar_in (class_of (record { derivations = ds; base = base; qualifiers = q })) ≡ Some t
    → Alike tables tables' (record {
      at = at;
      shown = Some (record {
        ctype = record { derivations = ds; base = base; qualifiers = q };
        value = value;
        is_null = null;
        is_lvalue = lvalue;
        is_literal = literal;
        designates = designates;
      });
      faults = faults;
    })
by_type tables tables' at faults b.Void [] q value null lvalue literal designates t e = absurd (none_some e)
by_type tables tables' at faults (b.Integer kind) [] q value null lvalue literal designates t e =
    record { kind = refl; element = refl }
by_type tables tables' at faults (b.Floating kind) [] q value null lvalue literal designates t e = absurd (none_some e)
by_type tables tables' at faults b.VaList [] q value null lvalue literal designates t e = absurd (none_some e)
by_type tables tables' at faults (b.Enumerated n) [] q value null lvalue literal designates t e =
    record { kind = refl; element = refl }
by_type tables tables' at faults (b.Aggregate n) [] q value null lvalue literal designates t e = absurd (none_some e)
by_type tables tables' at faults base (d.Pointer p ∷ ds) q value null lvalue literal designates t e =
    record { kind = refl; element = refl }
by_type tables tables' at faults base (d.Array n ∷ ds) q value null lvalue literal designates t e = absurd (none_some e)
by_type tables tables' at faults base (d.Function n ∷ ds) q value null lvalue literal designates t e = absurd (none_some e)

by_shown : (tables tables' : Tables) (at : ℕ) (faults : List Fault)
    (s : Option Shown) (t : ValueType) → scalar_in (class_in (type_in s)) ≡ Some t
    → Alike tables tables' (record { at = at; shown = s; faults = faults })
by_shown tables tables' at faults None t e = absurd (none_some e)
by_shown tables tables' at faults (Some s) t e = by_type tables tables' at faults s.ctype.base s.ctype.derivations
    s.ctype.qualifiers s.value s.is_null s.is_lvalue s.is_literal s.designates t e

abbrev the_operand : Option IntegerKind → ℕ → OperandType
the_operand a n = record { kind = a; element = n }

-- the operand type of an lvalue that is an integer or pointer is that of its value
pub operand_alike : (tables tables' : Tables) (x : Told) (t : ValueType) → scalar_in (class_in (type_in x.shown)) ≡ Some t
    → operand_by tables' x ≡ operand_by tables' (used_told tables x)
operand_alike tables tables' x t e =
    let h = by_shown tables tables' x.at x.faults x.shown t e in
    ap₂ the_operand h.kind h.element

-- an operator of the core on the value of an lvalue and another operand
pub operates_at : (op : BinaryOperator) (tables : Tables) (x y : Told) (p q : Typed) (chosen : Operator) (t : ValueType)
    → scalar_in (class_in (type_in x.shown)) ≡ Some t
    → tables ≡ q.after.tables → x ≡ told_of p → y ≡ value_told q
    → Operates op (operand_by tables x) (operand_by tables y) chosen
    → (at : ℕ) (v w : ℤ) (s : State) → memory.operated at chosen v w (as_done s) ≡ as_found
    (c_operators.operated_on at op p q v w s)
operates_at op tables x y p q chosen t e tables_are h i does =
    operates_on op tables (used_told p.after.tables x) y p q chosen tables_are (ap (used_told p.after.tables) h) i
    (subst (λ o. Operates op o (operand_by tables y) chosen) (operand_alike p.after.tables tables x t e) does)

-- ---- what is updated

scalars_same : (c : Class) → is_scalar_class c ≡ is_some (scalar_in c)
scalars_same (class.Integer kind) = refl
scalars_same class.Pointer = refl
scalars_same (class.Aggregate number) = refl
scalars_same class.Array = refl
scalars_same class.Function = refl
scalars_same class.Void = refl
scalars_same class.Floating = refl
scalars_same class.Opaque = refl

-- an object is updated exactly where it is an integer or a pointer, and there is an operator
updates_same : (op : BinaryOperator) (tables : Tables) (x : Told) (y : OperandType) (p : Typed) → x ≡ told_of p
    → is_updated op p y.kind ≡ (is_some (scalar_by x) && is_some (operator_of op (operand_by tables x) y))
updates_same op tables x y p h =
    ap (λ (a : Told). is_scalar_class (class_in (type_in a.shown)) && works_on op (kind_in (type_in a.shown)) y.kind) (sym h)
    ∙ ap₂ (λ a b. a && b) (scalars_same (class_in (type_in x.shown)))
    (works_same op (kind_in (type_in x.shown)) y.kind (operand_by tables x).element y.element)

pub is_updated_by : (op : BinaryOperator) (tables : Tables) (x : Told) (y : OperandType) (p : Typed) (t : ValueType)
    (q : Operator) → x ≡ told_of p → scalar_by x ≡ Some t → operator_of op (operand_by tables x) y ≡ Some q
    → is_updated op p y.kind ≡ true
is_updated_by op tables x y p t q h s c =
    updates_same op tables x y p h ∙ ap₂ (λ a b. is_some a && is_some b) s c

pub no_scalar : (op : BinaryOperator) (tables : Tables) (x : Told) (y : OperandType) (p : Typed) → x ≡ told_of p
    → scalar_by x ≡ None → is_updated op p y.kind ≡ false
no_scalar op tables x y p h s =
    updates_same op tables x y p h ∙ ap (λ a. is_some a && is_some (operator_of op (operand_by tables x) y)) s

pub no_operator : (op : BinaryOperator) (tables : Tables) (x : Told) (y : OperandType) (p : Typed) (t : ValueType)
    → x ≡ told_of p → scalar_by x ≡ Some t → operator_of op (operand_by tables x) y ≡ None
    → is_updated op p y.kind ≡ false
no_operator op tables x y p t h s c =
    updates_same op tables x y p h ∙ ap₂ (λ a b. is_some a && is_some b) s c
