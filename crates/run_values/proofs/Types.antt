-- The machine works by types and operators of C as the core does by its own.
use Rattle.std.proofs.Common.{◌≡◌, ℕ, ℤ, Bool, true, false, Some, refl, sym, ap, ◌∙◌}
use Rattle.std.specs.Prelude.{unsigned_abs}
use Rattle.plain_data.specs.declared.width.Width.{Width}
use Rattle.plain_data.specs.declared.width.Width.TheVariants as w
use Rattle.plain_data.specs.Words.{word}
use Rattle.c_language.specs.declared.expr.UnaryOperator.TheVariants as u
use Rattle.c_language.specs.declared.ctype.IntegerKind.TheVariants as k
use Rattle.c_language.specs.Integers as integers
use Rattle.c_language.specs.Integers.{is_bool}
use Rattle.c_language.specs.Typing as says
use Rattle.c_means.specs.Values as values
use Rattle.core_tree.specs.declared.types.Arithmetic.{Arithmetic}
use Rattle.core_tree.specs.declared.types.Arithmetic.TheVariants as a
use Rattle.core_tree.specs.declared.types.Turning.TheVariants as turn
use Rattle.core_tree.specs.declared.types.ValueType.{ValueType}
use Rattle.core_tree.specs.declared.types.ValueType.TheVariants as v
use Rattle.core_tree.specs.declared.types.WordType.{WordType}
use Rattle.core_tree.specs.Numbers as core
use Rattle.elaborate.specs.Types.{word_type, arithmetic}
use Rattle.elaborate.proofs.Numbers as numbers
use Rattle.run_values.specs.Types.{kind_by, kind_as, class_as, size_as, operator_as}

-- ---- integer types

no_bool : (width : Width) (b : Bool) → is_bool (kind_by width b) ≡ false
no_bool w.W8 true = refl
no_bool w.W8 false = refl
no_bool w.W16 true = refl
no_bool w.W16 false = refl
no_bool w.W32 true = refl
no_bool w.W32 false = refl
no_bool w.W64 true = refl
no_bool w.W64 false = refl

word_by : (width : Width) (b : Bool) → word_type (kind_by width b) ≡ record { width = width; is_signed = b }
word_by w.W8 true = refl
word_by w.W8 false = refl
word_by w.W16 true = refl
word_by w.W16 false = refl
word_by w.W32 true = refl
word_by w.W32 false = refl
word_by w.W64 true = refl
word_by w.W64 false = refl

word_as : (t : WordType) → word_type (kind_as t) ≡ t
word_as t = word_by t.width t.is_signed

wrapped_as : (t : WordType) (z : ℤ) → integers.converted (kind_as t) z ≡ core.wrapped t z
wrapped_as t z =
    sym (numbers.wrapped_same (kind_as t) (no_bool t.width t.is_signed) z) ∙ ap (λ t. core.wrapped t z) (word_as t)

value_word_as : (t : WordType) (n : ℕ) → integers.value_of_word (kind_as t) n ≡ core.value_of_word t n
value_word_as t n =
    sym (numbers.word_same (kind_as t) (no_bool t.width t.is_signed) n) ∙ ap (λ t. core.value_of_word t n) (word_as t)

size_by : (width : Width) (b : Bool) → integers.bytes_of (kind_by width b) ≡ integers.bytes_in width
size_by w.W8 true = refl
size_by w.W8 false = refl
size_by w.W16 true = refl
size_by w.W16 false = refl
size_by w.W32 true = refl
size_by w.W32 false = refl
size_by w.W64 true = refl
size_by w.W64 false = refl

pub width_by : (width : Width) (b : Bool) → integers.width_of (kind_by width b) ≡ width
width_by w.W8 true = refl
width_by w.W8 false = refl
width_by w.W16 true = refl
width_by w.W16 false = refl
width_by w.W32 true = refl
width_by w.W32 false = refl
width_by w.W64 true = refl
width_by w.W64 false = refl

-- ---- values

pub size_is : (t : ValueType) → values.bytes_as (class_as t) (size_as t) ≡ core.size_of t
size_is v.Void = refl
size_is v.Truth = refl
size_is (v.Word t) = size_by t.width t.is_signed
size_is v.Pointer = refl
size_is (v.Block bytes) = refl

pub converted_as : (t : ValueType) (z : ℤ) → values.converted_to (class_as t) z ≡ core.converted_to t z
converted_as v.Void z = refl
converted_as v.Truth z = sym (numbers.converted_same k.Bool z)
converted_as (v.Word t) z = wrapped_as t z
converted_as v.Pointer z = refl
converted_as (v.Block bytes) z = refl

pub value_as : (t : ValueType) (n : ℕ) → values.value_of_bytes (class_as t) n ≡ core.value_of_bytes t n
value_as v.Void n = refl
value_as v.Truth n = refl
value_as (v.Word t) n = value_word_as t n
value_as v.Pointer n = refl
value_as (v.Block bytes) n = refl

pub bytes_are : (t : ValueType) (z : ℤ) → values.bytes_of_value (class_as t) z ≡ core.bytes_of_value t z
bytes_are v.Void z = refl
bytes_are v.Truth z = refl
bytes_are (v.Word t) z = ap (λ width. word width z) (width_by t.width t.is_signed)
bytes_are v.Pointer z = refl
bytes_are (v.Block bytes) z = refl

-- what stands in some of the bytes of a value
pub part_as : (t : ValueType) (offset : ℕ) (z : ℤ) →
    values.value_of_bytes (class_as t) (values.bytes_within offset (values.bytes_as (class_as t) (size_as t)) (unsigned_abs z))
    ≡ core.value_of_bytes t (values.bytes_within offset (core.size_of t) (unsigned_abs z))
part_as t offset z =
    value_as t (values.bytes_within offset (values.bytes_as (class_as t) (size_as t)) (unsigned_abs z))
    ∙ ap (λ n. core.value_of_bytes t (values.bytes_within offset n (unsigned_abs z))) (size_is t)

-- ---- operators

arithmetic_as : (op : Arithmetic) → arithmetic (operator_as op) ≡ Some op
arithmetic_as a.Multiply = refl
arithmetic_as a.Divide = refl
arithmetic_as a.Remainder = refl
arithmetic_as a.Add = refl
arithmetic_as a.Subtract = refl
arithmetic_as a.ShiftLeft = refl
arithmetic_as a.ShiftRight = refl
arithmetic_as a.Less = refl
arithmetic_as a.Greater = refl
arithmetic_as a.LessEqual = refl
arithmetic_as a.GreaterEqual = refl
arithmetic_as a.Equal = refl
arithmetic_as a.NotEqual = refl
arithmetic_as a.BitAnd = refl
arithmetic_as a.BitXor = refl
arithmetic_as a.BitOr = refl

pub worked_as : (op : Arithmetic) (t : WordType) (x y : ℤ) →
    says.worked (operator_as op) (kind_as t) x y ≡ core.worked op t x y
worked_as op t x y =
    sym (numbers.worked_same (kind_as t) (no_bool t.width t.is_signed) (operator_as op) op x y (arithmetic_as op))
    ∙ ap (λ t. core.worked op t x y) (word_as t)

pub plus_as : (t : WordType) (z : ℤ) → says.turned u.Plus (kind_as t) z ≡ core.turned turn.Plus t z
plus_as t z =
    sym (numbers.plus_same (kind_as t) (no_bool t.width t.is_signed) z) ∙ ap (λ t. core.turned turn.Plus t z) (word_as t)

pub minus_as : (t : WordType) (z : ℤ) → says.turned u.Minus (kind_as t) z ≡ core.turned turn.Minus t z
minus_as t z =
    sym (numbers.minus_same (kind_as t) (no_bool t.width t.is_signed) z) ∙ ap (λ t. core.turned turn.Minus t z) (word_as t)

pub complement_as : (t : WordType) (z : ℤ) → says.turned u.Complement (kind_as t) z ≡ core.turned turn.Complement t z
complement_as t z =
    sym (numbers.complement_same (kind_as t) (no_bool t.width t.is_signed) z)
    ∙ ap (λ t. core.turned turn.Complement t z) (word_as t)
