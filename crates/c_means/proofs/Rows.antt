-- Worked rows: what expressions come to, in the scene of `Scene`.
use Rattle.std.proofs.Common.{◌≡◌, ℕ, pos, [], ◌∷◌, Some, None, Err, ap}
use Rattle.plain_data.specs.declared.run.Finish.TheVariants as finish
use Rattle.plain_data.specs.declared.run.Happening.TheVariants as happening
use Rattle.plain_data.specs.declared.run.Side.TheVariants as side
use Rattle.plain_data.specs.declared.run.Undefined.TheVariants as undefined
use Rattle.c_language.specs.declared.token.IntegerType.TheVariants as i
use Rattle.c_language.specs.declared.expr.AggregateKind.TheVariants as aggregate_kind
use Rattle.c_language.specs.declared.expr.BinaryOperator.TheVariants as o
use Rattle.c_language.specs.declared.expr.TagName.{TagName}
use Rattle.c_language.specs.Folds.{fold_field}
use Rattle.c_language.specs.Scopes.{Name}
use Rattle.c_language.specs.Declares.{Says}
use Rattle.c_language.proofs.Built.{Built}
use Rattle.c_language.specs.declared.expr.UnaryOperator.TheVariants as u
use Rattle.c_language.specs.declared.expr.TypeWord.TheVariants as w
use Rattle.c_language.specs.Integers.{converted}
use Rattle.c_language.specs.Operators.{exact}
use Rattle.c_means.specs.declared.kind.Kind.TheVariants as kind
use Rattle.c_language.proofs.Built as built
use Rattle.c_means.specs.Trees.{ExprMeans, part, meaning}
use Rattle.c_means.proofs.Scene.{OfExpr, OfMember, OfTypeName, a', b', c', e', f', g', h', k', m', p', r', s', t', u'}
use Rattle.c_means.proofs.Scene.{q', v', w', x', y', z'}
use Rattle.c_means.proofs.Scene.{int, unsigned, text, the, op, un, minus, address, deref, element, dot, arrow, set}
use Rattle.c_means.proofs.Scene.{set_at, set_by}
use Rattle.c_means.proofs.Scene.{after_increment, after_decrement, ◌then◌, call, choice, word, omitted, pointer, type}
use Rattle.c_means.proofs.Scene.{to, size_of, struct_s, grouped}
use Rattle.c_means.proofs.Scene.{found, found_in, block, done, text_of, size_in_file, gives, gives_less, stops}
use Rattle.c_means.proofs.Scene.{happens, printed_before, prints}

-- ---- spelling

abbrev long : ℕ → OfExpr
long n = built.integer meaning 0 (record { value = n; integer_type = i.Long })

abbrev unsigned_long : ℕ → OfExpr
unsigned_long n = built.integer meaning 0 (record { value = n; integer_type = i.UnsignedLong })

abbrev int_type : OfTypeName
int_type = type (word w.Int ∷ []) omitted

abbrev char_type : OfTypeName
char_type = type (word w.Char ∷ []) omitted

abbrev unsigned_char_type : OfTypeName
unsigned_char_type = type (word w.Unsigned ∷ word w.Char ∷ []) omitted

abbrev long_type : OfTypeName
long_type = type (word w.Long ∷ []) omitted

abbrev void_type : OfTypeName
void_type = type (word w.Void ∷ []) omitted

abbrev char_pointer : OfTypeName
char_pointer = type (word w.Char ∷ []) (pointer omitted)

abbrev short_pointer : OfTypeName
short_pointer = type (word w.Short ∷ []) (pointer omitted)

abbrev int_pointer : OfTypeName
int_pointer = type (word w.Int ∷ []) (pointer omitted)

abbrev struct_pointer : OfTypeName
struct_pointer = type (struct_s ∷ []) (pointer omitted)

abbrev b_tag : TagName
b_tag = record { at = 0; name = b' }

abbrev b_pointer : OfTypeName
b_pointer = type (built.tag meaning 0 aggregate_kind.Struct b_tag ∷ []) (pointer omitted)

abbrev b_type : OfTypeName
b_type = type (built.aggregate meaning 0 aggregate_kind.Struct (Some b_tag) (chars ∷ []) ∷ []) omitted
  where
    chars : OfMember
    chars = built.member_declaration meaning (word w.Char ∷ []) (named a' ∷ named b' ∷ named c' ∷ [])
      where
        named : Name → Built (fold_field {c = Says ExprMeans} meaning)
        named n = built.plain meaning (built.named meaning 0 n)

abbrev x : OfExpr
x = the x'

-- the least and the greatest `int`
abbrev least : OfExpr
least = op 0 o.Subtract (minus (int 2147483647)) (int 1)

abbrev greatest : OfExpr
greatest = int 2147483647

abbrev a_at : ℕ → OfExpr
a_at i = element 0 (the a') (int i)

abbrev w_at : ℕ → OfExpr
w_at i = element 0 (the w') (int i)

-- ---- overflow

-- 2147483646 + 1
abbrev sum_fits : OfExpr
sum_fits = op 7 o.Add (int 2147483646) (int 1)

pub row_sum_fits : found (part sum_fits.tree) ≡ gives 2147483647
unfolding part converted exact
row_sum_fits = ap found sum_fits.is

-- 2147483647 + 1
abbrev sum_overflows : OfExpr
sum_overflows = op 7 o.Add greatest (int 1)

pub row_sum_overflows : found (part sum_overflows.tree) ≡ stops undefined.Overflow 7
unfolding part converted exact
row_sum_overflows = ap found sum_overflows.is

-- -2147483647 - 1 - 1
abbrev difference_overflows : OfExpr
difference_overflows = op 7 o.Subtract least (int 1)

pub row_difference_overflows : found (part difference_overflows.tree) ≡ stops undefined.Overflow 7
unfolding part converted exact
row_difference_overflows = ap found difference_overflows.is

-- 65536 * 32768
abbrev product_overflows : OfExpr
product_overflows = op 7 o.Multiply (int 65536) (int 32768)

pub row_product_overflows : found (part product_overflows.tree) ≡ stops undefined.Overflow 7
unfolding part converted exact
row_product_overflows = ap found product_overflows.is

-- (-2147483647 - 1) / -1
abbrev quotient_overflows : OfExpr
quotient_overflows = op 7 o.Divide least (minus (int 1))

pub row_quotient_overflows : found (part quotient_overflows.tree) ≡ stops undefined.Overflow 7
unfolding part converted exact
row_quotient_overflows = ap found quotient_overflows.is

-- (-2147483647 - 1) % -1
abbrev remainder_overflows : OfExpr
remainder_overflows = op 7 o.Remainder least (minus (int 1))

pub row_remainder_overflows : found (part remainder_overflows.tree) ≡ stops undefined.Overflow 7
unfolding part converted exact
row_remainder_overflows = ap found remainder_overflows.is

-- -(-2147483647 - 1)
abbrev negation_overflows : OfExpr
negation_overflows = un 7 u.Minus least

pub row_negation_overflows : found (part negation_overflows.tree) ≡ stops undefined.Overflow 7
unfolding part converted exact
row_negation_overflows = ap found negation_overflows.is

-- x = 2147483647, x++
abbrev increment_overflows : OfExpr
increment_overflows = set x greatest then after_increment 9 x

pub row_increment_overflows : found (part increment_overflows.tree) ≡ stops undefined.Overflow 9
unfolding part converted exact
row_increment_overflows = ap found increment_overflows.is

-- c = 127, c++, c
abbrev char_increment_wraps : OfExpr
char_increment_wraps = set (the c') (int 127) then after_increment 9 (the c') then the c'

pub row_char_increment_wraps : found (part char_increment_wraps.tree) ≡ gives_less 127
unfolding part converted exact
row_char_increment_wraps = ap found char_increment_wraps.is

-- x = 2147483647, x += 1
abbrev compound_overflows : OfExpr
compound_overflows = set x greatest then set_by 9 o.Add x (int 1)

pub row_compound_overflows : found (part compound_overflows.tree) ≡ stops undefined.Overflow 9
unfolding part converted exact
row_compound_overflows = ap found compound_overflows.is

-- 0u - 1
abbrev unsigned_wraps : OfExpr
unsigned_wraps = op 7 o.Subtract (unsigned 0) (int 1)

pub row_unsigned_wraps : found (part unsigned_wraps.tree) ≡ gives 4294967295
unfolding part converted exact
row_unsigned_wraps = ap found unsigned_wraps.is

-- -7 / 2
abbrev toward_zero : OfExpr
toward_zero = op 7 o.Divide (minus (int 7)) (int 2)

pub row_toward_zero : found (part toward_zero.tree) ≡ gives_less 2
unfolding part converted exact
row_toward_zero = ap found toward_zero.is

-- -7 % 2
abbrev remainder_sign : OfExpr
remainder_sign = op 7 o.Remainder (minus (int 7)) (int 2)

pub row_remainder_sign : found (part remainder_sign.tree) ≡ gives_less 0
unfolding part converted exact
row_remainder_sign = ap found remainder_sign.is

-- 9223372036854775807l + 1
abbrev long_overflows : OfExpr
long_overflows = op 7 o.Add (long 9223372036854775807) (int 1)

pub row_long_overflows : found (part long_overflows.tree) ≡ stops undefined.Overflow 7
unfolding part converted exact
row_long_overflows = ap found long_overflows.is

-- -9223372036854775807l - 1
abbrev long_fits : OfExpr
long_fits = op 7 o.Subtract (minus (long 9223372036854775807)) (int 1)

pub row_long_fits : found (part long_fits.tree) ≡ gives_less 9223372036854775807
unfolding part converted exact
row_long_fits = ap found long_fits.is

-- 18446744073709551615ul + 1
abbrev unsigned_long_wraps : OfExpr
unsigned_long_wraps = op 7 o.Add (unsigned_long 18446744073709551615) (int 1)

pub row_unsigned_long_wraps : found (part unsigned_long_wraps.tree) ≡ gives 0
unfolding part converted exact
row_unsigned_long_wraps = ap found unsigned_long_wraps.is

-- (unsigned char)255 + 1
abbrev unsigned_char_promoted : OfExpr
unsigned_char_promoted = op 7 o.Add (to unsigned_char_type (int 255)) (int 1)

pub row_unsigned_char_promoted : found (part unsigned_char_promoted.tree) ≡ gives 256
unfolding part converted exact
row_unsigned_char_promoted = ap found unsigned_char_promoted.is

-- h[0][0] = 32767, ++h[0][0]
abbrev short_increment_wraps : OfExpr
short_increment_wraps = set (element 3 (element 2 (the h') (int 0)) (int 0)) (int 32767)
    then un 9 u.Increment (element 3 (element 2 (the h') (int 0)) (int 0))

pub row_short_increment_wraps : found (part short_increment_wraps.tree) ≡ gives_less 32767
unfolding part converted exact
row_short_increment_wraps = ap found short_increment_wraps.is

-- 65536u * 65536
abbrev unsigned_product_wraps : OfExpr
unsigned_product_wraps = op 7 o.Multiply (unsigned 65536) (int 65536)

pub row_unsigned_product_wraps : found (part unsigned_product_wraps.tree) ≡ gives 0
unfolding part converted exact
row_unsigned_product_wraps = ap found unsigned_product_wraps.is

-- -1u
abbrev unsigned_negation : OfExpr
unsigned_negation = un 7 u.Minus (unsigned 1)

pub row_unsigned_negation : found (part unsigned_negation.tree) ≡ gives 4294967295
unfolding part converted exact
row_unsigned_negation = ap found unsigned_negation.is

-- ---- a zero divisor, and shifts

-- 1 / 0
abbrev divisor : OfExpr
divisor = op 7 o.Divide (int 1) (int 0)

pub row_divisor : found (part divisor.tree) ≡ stops undefined.ZeroDivisor 7
unfolding part converted exact
row_divisor = ap found divisor.is

-- 1 % 0u
abbrev divisor_of_remainder : OfExpr
divisor_of_remainder = op 7 o.Remainder (int 1) (unsigned 0)

pub row_divisor_of_remainder : found (part divisor_of_remainder.tree) ≡ stops undefined.ZeroDivisor 7
unfolding part converted exact
row_divisor_of_remainder = ap found divisor_of_remainder.is

-- 1 << 30
abbrev shift_fits : OfExpr
shift_fits = op 7 o.ShiftLeft (int 1) (int 30)

pub row_shift_fits : found (part shift_fits.tree) ≡ gives 1073741824
unfolding part converted exact
row_shift_fits = ap found shift_fits.is

-- 1 << 31
abbrev shift_into_sign : OfExpr
shift_into_sign = op 7 o.ShiftLeft (int 1) (int 31)

pub row_shift_into_sign : found (part shift_into_sign.tree) ≡ stops undefined.Shift 7
unfolding part converted exact
row_shift_into_sign = ap found shift_into_sign.is

-- 1u << 31
abbrev unsigned_shift : OfExpr
unsigned_shift = op 7 o.ShiftLeft (unsigned 1) (int 31)

pub row_unsigned_shift : found (part unsigned_shift.tree) ≡ gives 2147483648
unfolding part converted exact
row_unsigned_shift = ap found unsigned_shift.is

-- 1u << 32
abbrev shift_too_far : OfExpr
shift_too_far = op 7 o.ShiftLeft (unsigned 1) (int 32)

pub row_shift_too_far : found (part shift_too_far.tree) ≡ stops undefined.Shift 7
unfolding part converted exact
row_shift_too_far = ap found shift_too_far.is

-- -1 << 0
abbrev shift_of_negative : OfExpr
shift_of_negative = op 7 o.ShiftLeft (minus (int 1)) (int 0)

pub row_shift_of_negative : found (part shift_of_negative.tree) ≡ stops undefined.Shift 7
unfolding part converted exact
row_shift_of_negative = ap found shift_of_negative.is

-- 1 >> -1
abbrev shift_by_negative : OfExpr
shift_by_negative = op 7 o.ShiftRight (int 1) (minus (int 1))

pub row_shift_by_negative : found (part shift_by_negative.tree) ≡ stops undefined.Shift 7
unfolding part converted exact
row_shift_by_negative = ap found shift_by_negative.is

-- -5 >> 1
abbrev shift_right_of_negative : OfExpr
shift_right_of_negative = op 7 o.ShiftRight (minus (int 5)) (int 1)

pub row_shift_right_of_negative : found (part shift_right_of_negative.tree) ≡ gives_less 2
unfolding part converted exact
row_shift_right_of_negative = ap found shift_right_of_negative.is

-- ---- conversions

-- -1 < 0u
abbrev usual_conversions : OfExpr
usual_conversions = op 7 o.Less (minus (int 1)) (unsigned 0)

pub row_usual_conversions : found (part usual_conversions.tree) ≡ gives 0
unfolding part converted exact
row_usual_conversions = ap found usual_conversions.is

-- -1l < 0u
abbrev long_has_unsigned : OfExpr
long_has_unsigned = op 7 o.Less (minus (long 1)) (unsigned 0)

pub row_long_has_unsigned : found (part long_has_unsigned.tree) ≡ gives 1
unfolding part converted exact
row_long_has_unsigned = ap found long_has_unsigned.is

-- -1l < 0ul
abbrev unsigned_long_beside_long : OfExpr
unsigned_long_beside_long = op 7 o.Less (minus (long 1)) (unsigned_long 0)

pub row_unsigned_long_beside_long : found (part unsigned_long_beside_long.tree) ≡ gives 0
unfolding part converted exact
row_unsigned_long_beside_long = ap found unsigned_long_beside_long.is

-- 6 & 3
abbrev bits_of_both : OfExpr
bits_of_both = op 7 o.BitAnd (int 6) (int 3)

pub row_bits_of_both : found (part bits_of_both.tree) ≡ gives 2
unfolding part converted exact
row_bits_of_both = ap found bits_of_both.is

-- 6 | 3
abbrev bits_of_either : OfExpr
bits_of_either = op 7 o.BitOr (int 6) (int 3)

pub row_bits_of_either : found (part bits_of_either.tree) ≡ gives 7
unfolding part converted exact
row_bits_of_either = ap found bits_of_either.is

-- -1 ^ 3
abbrev bits_of_one : OfExpr
bits_of_one = op 7 o.BitXor (minus (int 1)) (int 3)

pub row_bits_of_one : found (part bits_of_one.tree) ≡ gives_less 3
unfolding part converted exact
row_bits_of_one = ap found bits_of_one.is

-- !3 == 0
abbrev negated : OfExpr
negated = op 7 o.Equal (un 6 u.Not (int 3)) (int 0)

pub row_negated : found (part negated.tree) ≡ gives 1
unfolding part converted exact
row_negated = ap found negated.is

-- 1 = 2
abbrev refused_assignment : OfExpr
refused_assignment = set (int 1) (int 2)

pub row_refused_assignment : found (part refused_assignment.tree) ≡ None
unfolding part converted exact
row_refused_assignment = ap found refused_assignment.is

-- (char)200
abbrev char_is_signed : OfExpr
char_is_signed = to char_type (int 200)

pub row_char_is_signed : found (part char_is_signed.tree) ≡ gives_less 55
unfolding part converted exact
row_char_is_signed = ap found char_is_signed.is

-- (unsigned char)-1
abbrev unsigned_char : OfExpr
unsigned_char = to unsigned_char_type (minus (int 1))

pub row_unsigned_char : found (part unsigned_char.tree) ≡ gives 255
unfolding part converted exact
row_unsigned_char = ap found unsigned_char.is

-- b = 256, b
abbrev bool_of_256 : OfExpr
bool_of_256 = set (the b') (int 256) then the b'

pub row_bool_of_256 : found (part bool_of_256.tree) ≡ gives 1
unfolding part converted exact
row_bool_of_256 = ap found bool_of_256.is

-- b = 256
abbrev bool_of_value : OfExpr
bool_of_value = set (the b') (int 256)

pub row_bool_of_value : found (part bool_of_value.tree) ≡ gives 1
unfolding part converted exact
row_bool_of_value = ap found bool_of_value.is

-- b = 0, b--, b
abbrev bool_decrement : OfExpr
bool_decrement = set (the b') (int 0) then after_decrement 9 (the b') then the b'

pub row_bool_decrement : found (part bool_decrement.tree) ≡ gives 1
unfolding part converted exact
row_bool_decrement = ap found bool_decrement.is

-- *(char *)&b = 2, b
abbrev bool_of_byte : OfExpr
bool_of_byte = set (deref 7 (to char_pointer (address (the b')))) (int 2) then the b'

pub row_bool_of_byte : found (part bool_of_byte.tree) ≡ gives 1
unfolding part converted exact
row_bool_of_byte = ap found bool_of_byte.is

-- c = 300
abbrev stored_value : OfExpr
stored_value = set (the c') (int 300)

pub row_stored_value : found (part stored_value.tree) ≡ gives 44
unfolding part converted exact
row_stored_value = ap found stored_value.is

-- ---- increments and assignments

-- x = 5, x++
abbrev old_value : OfExpr
old_value = set x (int 5) then after_increment 9 x

pub row_old_value : found (part old_value.tree) ≡ gives 5
unfolding part converted exact
row_old_value = ap found old_value.is

-- x = 5, x++, x
abbrev later_value : OfExpr
later_value = set x (int 5) then after_increment 9 x then x

pub row_later_value : found (part later_value.tree) ≡ gives 6
unfolding part converted exact
row_later_value = ap found later_value.is

-- x = 5, --x
abbrev new_value : OfExpr
new_value = set x (int 5) then un 9 u.Decrement x

pub row_new_value : found (part new_value.tree) ≡ gives 4
unfolding part converted exact
row_new_value = ap found new_value.is

-- x = 1, x += x = 10
abbrev compound_takes_first : OfExpr
compound_takes_first = set x (int 1) then set_by 9 o.Add x (set x (int 10))

pub row_compound_takes_first : found (part compound_takes_first.tree) ≡ gives 11
unfolding part converted exact
row_compound_takes_first = ap found compound_takes_first.is

-- a[x = 1] = x + 4, a[1]
abbrev target_before_value : OfExpr
target_before_value = set (element 0 (the a') (set x (int 1))) (op 0 o.Add x (int 4)) then a_at 1

pub row_target_before_value : found (part target_before_value.tree) ≡ gives 5
unfolding part converted exact
row_target_before_value = ap found target_before_value.is

-- c = 100, c += 100
abbrev char_compound : OfExpr
char_compound = set (the c') (int 100) then set_by 9 o.Add (the c') (int 100)

pub row_char_compound : found (part char_compound.tree) ≡ gives_less 55
unfolding part converted exact
row_char_compound = ap found char_compound.is

-- ~x
abbrev turned : OfExpr
turned = un 9 u.Complement x

pub row_turned : found (part turned.tree) ≡ gives_less 0
unfolding part converted exact
row_turned = ap found turned.is

-- sizeof +c
abbrev plus_promotes : OfExpr
plus_promotes = size_of (un 9 u.Plus (the c'))

pub row_plus_promotes : found (part plus_promotes.tree) ≡ gives 4
unfolding part converted exact
row_plus_promotes = ap found plus_promotes.is

-- ---- sizeof evaluates nothing

-- x = 1, sizeof x++, x
abbrev size_of_step : OfExpr
size_of_step = set x (int 1) then size_of (after_increment 9 x) then x

pub row_size_of_step : found (part size_of_step.tree) ≡ gives 1
unfolding part converted exact
row_size_of_step = ap found size_of_step.is

-- sizeof a
abbrev size_of_array : OfExpr
size_of_array = size_of (the a')

pub row_size_of_array : found (part size_of_array.tree) ≡ gives 16
unfolding part converted exact
row_size_of_array = ap found size_of_array.is

-- ---- pointers: range, and one past the end

-- &a[4] - a
abbrev one_past : OfExpr
one_past = op 9 o.Subtract (address (element 7 (the a') (int 4))) (the a')

pub row_one_past : found (part one_past.tree) ≡ gives 4
unfolding part converted exact
row_one_past = ap found one_past.is

-- &a[5]
abbrev past_the_end : OfExpr
past_the_end = address (element 7 (the a') (int 5))

pub row_past_the_end : found (part past_the_end.tree) ≡ stops undefined.PointerRange 7
unfolding part converted exact
row_past_the_end = ap found past_the_end.is

-- a - 1
abbrev before_the_start : OfExpr
before_the_start = op 9 o.Subtract (the a') (int 1)

pub row_before_the_start : found (part before_the_start.tree) ≡ stops undefined.PointerRange 9
unfolding part converted exact
row_before_the_start = ap found before_the_start.is

-- a[4]
abbrev access_one_past : OfExpr
access_one_past = element 7 (the a') (int 4)

pub row_access_one_past : found (part access_one_past.tree) ≡ stops undefined.Dereference 7
unfolding part converted exact
row_access_one_past = ap found access_one_past.is

-- a[5]
abbrev access_too_far : OfExpr
access_too_far = element 7 (the a') (int 5)

pub row_access_too_far : found (part access_too_far.tree) ≡ stops undefined.PointerRange 7
unfolding part converted exact
row_access_too_far = ap found access_too_far.is

-- x = 2, a[2] = 9, x[a]
abbrev index_first : OfExpr
index_first = set x (int 2) then set (a_at 2) (int 9) then element 0 x (the a')

pub row_index_first : found (part index_first.tree) ≡ gives 9
unfolding part converted exact
row_index_first = ap found index_first.is

-- p = a, p++, *p = 3, a[1]
abbrev pointer_steps : OfExpr
pointer_steps = set (the p') (the a') then after_increment 9 (the p') then set (deref 7 (the p')) (int 3) then a_at 1

pub row_pointer_steps : found (part pointer_steps.tree) ≡ gives 3
unfolding part converted exact
row_pointer_steps = ap found pointer_steps.is

-- p = a, p--
abbrev pointer_steps_too_far : OfExpr
pointer_steps_too_far = set (the p') (the a') then after_decrement 9 (the p')

pub row_pointer_steps_too_far : found (part pointer_steps_too_far.tree) ≡ stops undefined.PointerRange 9
unfolding part converted exact
row_pointer_steps_too_far = ap found pointer_steps_too_far.is

-- p = a, p += 4, p - 1 == &a[3]
abbrev pointer_moves : OfExpr
pointer_moves = set (the p') (the a') then set_by 9 o.Add (the p') (int 4)
    then op 8 o.Equal (op 6 o.Subtract (the p') (int 1)) (address (a_at 3))

pub row_pointer_moves : found (part pointer_moves.tree) ≡ gives 1
unfolding part converted exact
row_pointer_moves = ap found pointer_moves.is

-- h[1][2] = 7, h[2][0]
abbrev rows_of_arrays : OfExpr
rows_of_arrays = set (element 3 (element 2 (the h') (int 1)) (int 2)) (int 7)
    then element 4 (element 5 (the h') (int 2)) (int 0)

pub row_rows_of_arrays : found (part rows_of_arrays.tree) ≡ gives 7
unfolding part converted exact
row_rows_of_arrays = ap found rows_of_arrays.is

-- (char *)((struct b *)w + sizeof (struct b { char a; char b; char c; })) - w
abbrev completed_behind : OfExpr
completed_behind = op 9 o.Subtract
    (to char_pointer (op 8 o.Add (to b_pointer (the w')) (built.sizeof_type meaning 0 b_type))) (the w')

pub row_completed_behind : found (part completed_behind.tree) ≡ gives 9
unfolding part converted exact
row_completed_behind = ap found completed_behind.is

-- ---- null, and what is no pointer to a live object

-- p == 0
abbrev null_is_zero : OfExpr
null_is_zero = op 9 o.Equal (the p') (int 0)

pub row_null_is_zero : found (part null_is_zero.tree) ≡ gives 1
unfolding part converted exact
row_null_is_zero = ap found null_is_zero.is

-- !p
abbrev null_negated : OfExpr
null_negated = un 9 u.Not (the p')

pub row_null_negated : found (part null_negated.tree) ≡ gives 1
unfolding part converted exact
row_null_negated = ap found null_negated.is

-- *p
abbrev null_read : OfExpr
null_read = deref 9 (the p')

pub row_null_read : found (part null_read.tree) ≡ stops undefined.Dereference 9
unfolding part converted exact
row_null_read = ap found null_read.is

-- p + 0
abbrev null_moved : OfExpr
null_moved = op 9 o.Add (the p') (int 0)

pub row_null_moved : found (part null_moved.tree) ≡ stops undefined.PointerRange 9
unfolding part converted exact
row_null_moved = ap found null_moved.is

-- p[0]
abbrev null_element : OfExpr
null_element = element 9 (the p') (int 0)

pub row_null_element : found (part null_element.tree) ≡ stops undefined.PointerRange 9
unfolding part converted exact
row_null_element = ap found null_element.is

-- r->b
abbrev null_member : OfExpr
null_member = arrow 9 (the r') b'

pub row_null_member : found (part null_member.tree) ≡ stops undefined.Dereference 9
unfolding part converted exact
row_null_member = ap found null_member.is

-- (char *)&r->b == (char *)4
abbrev address_of_null_member : OfExpr
address_of_null_member = op 9 o.Equal (to char_pointer (address (arrow 7 (the r') b'))) (to char_pointer (int 4))

pub row_address_of_null_member : found (part address_of_null_member.tree) ≡ gives 1
unfolding part converted exact
row_address_of_null_member = ap found address_of_null_member.is

-- &((struct s *)-4)->b == 0
abbrev address_wraps : OfExpr
address_wraps = op 9 o.Equal (address (arrow 7 (to struct_pointer (minus (int 4))) b')) (int 0)

pub row_address_wraps : found (part address_wraps.tree) ≡ gives 1
unfolding part converted exact
row_address_wraps = ap found address_wraps.is

-- &*p == 0
abbrev address_of_target : OfExpr
address_of_target = op 9 o.Equal (address (deref 7 (the p'))) (int 0)

pub row_address_of_target : found (part address_of_target.tree) ≡ gives 1
unfolding part converted exact
row_address_of_target = ap found address_of_target.is

-- (int *)-1 == 0
abbrev integer_as_pointer : OfExpr
integer_as_pointer = op 9 o.Equal (to int_pointer (minus (int 1))) (int 0)

pub row_integer_as_pointer : found (part integer_as_pointer.tree) ≡ gives 0
unfolding part converted exact
row_integer_as_pointer = ap found integer_as_pointer.is

-- ---- comparison and difference

-- &a[1] < &a[4]
abbrev order_in_object : OfExpr
order_in_object = op 9 o.Less (address (a_at 1)) (address (a_at 4))

pub row_order_in_object : found (part order_in_object.tree) ≡ gives 1
unfolding part converted exact
row_order_in_object = ap found order_in_object.is

-- &x < a
abbrev order_of_objects : OfExpr
order_of_objects = op 9 o.Less (address x) (the a')

pub row_order_of_objects : found (part order_of_objects.tree) ≡ stops undefined.PointerOrder 9
unfolding part converted exact
row_order_of_objects = ap found order_of_objects.is

-- a > 0
abbrev order_with_null : OfExpr
order_with_null = op 9 o.Greater (the a') (int 0)

pub row_order_with_null : found (part order_with_null.tree) ≡ stops undefined.PointerOrder 9
unfolding part converted exact
row_order_with_null = ap found order_with_null.is

-- &x == a
abbrev equality_of_objects : OfExpr
equality_of_objects = op 9 o.Equal (address x) (the a')

pub row_equality_of_objects : found (part equality_of_objects.tree) ≡ gives 0
unfolding part converted exact
row_equality_of_objects = ap found equality_of_objects.is

-- &a[0] - &a[3]
abbrev difference_in_object : OfExpr
difference_in_object = op 9 o.Subtract (address (a_at 0)) (address (a_at 3))

pub row_difference_in_object : found (part difference_in_object.tree) ≡ gives_less 2
unfolding part converted exact
row_difference_in_object = ap found difference_in_object.is

-- &x - a
abbrev difference_of_objects : OfExpr
difference_of_objects = op 9 o.Subtract (address x) (the a')

pub row_difference_of_objects : found (part difference_of_objects.tree) ≡ stops undefined.PointerOrder 9
unfolding part converted exact
row_difference_of_objects = ap found difference_of_objects.is

-- (int *)w - (int *)(w + 7)
abbrev difference_toward_zero : OfExpr
difference_toward_zero = op 9 o.Subtract (to int_pointer (the w')) (to int_pointer (op 8 o.Add (the w') (int 7)))

pub row_difference_toward_zero : found (part difference_toward_zero.tree) ≡ gives_less 0
unfolding part converted exact
row_difference_toward_zero = ap found difference_toward_zero.is

-- ---- objects that have ended

-- p = a, k(), *p
abbrev ended_read : OfExpr
ended_read = set (the p') (the a') then call 1 k' [] then deref 7 (the p')

pub row_ended_read : found (part ended_read.tree) ≡ stops undefined.Dereference 7
unfolding part converted exact
row_ended_read = ap found ended_read.is

-- k(), a[0]
abbrev ended_element : OfExpr
ended_element = call 1 k' [] then element 7 (the a') (int 0)

pub row_ended_element : found (part ended_element.tree) ≡ stops undefined.PointerRange 7
unfolding part converted exact
row_ended_element = ap found ended_element.is

-- p = a, *p = k()
abbrev ended_by_value : OfExpr
ended_by_value = set (the p') (the a') then set_at 9 (deref 7 (the p')) (call 1 k' [])

pub row_ended_by_value : found (part ended_by_value.tree) ≡ stops undefined.Dereference 7
unfolding part converted exact
row_ended_by_value = ap found ended_by_value.is

-- p = a, *p += k()
abbrev ended_by_operand : OfExpr
ended_by_operand = set (the p') (the a') then set_by 9 o.Add (deref 7 (the p')) (call 1 k' [])

pub row_ended_by_operand : found (part ended_by_operand.tree) ≡ stops undefined.Dereference 7
unfolding part converted exact
row_ended_by_operand = ap found ended_by_operand.is

-- p = a, k(), p <= p
abbrev ended_order : OfExpr
ended_order = set (the p') (the a') then call 1 k' [] then op 9 o.LessEqual (the p') (the p')

pub row_ended_order : found (part ended_order.tree) ≡ stops undefined.PointerOrder 9
unfolding part converted exact
row_ended_order = ap found ended_order.is

-- p = a, k(), p == p
abbrev ended_equality : OfExpr
ended_equality = set (the p') (the a') then call 1 k' [] then op 9 o.Equal (the p') (the p')

pub row_ended_equality : found (part ended_equality.tree) ≡ gives 1
unfolding part converted exact
row_ended_equality = ap found ended_equality.is

-- ---- literals

-- "ab"[1]
abbrev literal_read : OfExpr
literal_read = element 9 (text 200 (97 ∷ 98 ∷ [])) (int 1)

pub row_literal_read : found (part literal_read.tree) ≡ gives 0
unfolding part converted exact
row_literal_read = ap found literal_read.is

-- "ab"[0] = 1
abbrev literal_written : OfExpr
literal_written = set_at 11 (element 9 (text 200 (97 ∷ 98 ∷ [])) (int 0)) (int 1)

pub row_literal_written : found (part literal_written.tree) ≡ stops undefined.LiteralWrite 11
unfolding part converted exact
row_literal_written = ap found literal_written.is

-- ++*"ab"
abbrev literal_stepped : OfExpr
literal_stepped = un 11 u.Increment (deref 9 (text 200 (97 ∷ 98 ∷ [])))

pub row_literal_stepped : found (part literal_stepped.tree) ≡ stops undefined.LiteralWrite 11
unfolding part converted exact
row_literal_stepped = ap found literal_stepped.is

-- *(int *)"ab" = 1
abbrev access_before_literal : OfExpr
access_before_literal = set_at 11 (deref 9 (to int_pointer (text 200 (97 ∷ 98 ∷ [])))) (int 1)

pub row_access_before_literal : found (part access_before_literal.tree) ≡ stops undefined.Dereference 9
unfolding part converted exact
row_access_before_literal = ap found access_before_literal.is

-- *(short *)"ab" = 1
abbrev literal_within : OfExpr
literal_within = set_at 11 (deref 9 (to short_pointer (text 200 (97 ∷ 98 ∷ [])))) (int 1)

pub row_literal_within : found (part literal_within.tree) ≡ stops undefined.LiteralWrite 11
unfolding part converted exact
row_literal_within = ap found literal_within.is

-- "ab" == "ab"
abbrev distinct_literals : OfExpr
distinct_literals = op 9 o.Equal (text 200 (97 ∷ 98 ∷ [])) (text 201 (97 ∷ 98 ∷ []))

pub row_distinct_literals : found (part distinct_literals.tree) ≡ gives 0
unfolding part converted exact
row_distinct_literals = ap found distinct_literals.is

-- ---- bytes of a wider object, members, unions and structures

-- x = 16909060, *(char *)&x
abbrev least_byte : OfExpr
least_byte = set x (int 16909060) then deref 7 (to char_pointer (address x))

pub row_least_byte : found (part least_byte.tree) ≡ gives 4
unfolding part converted exact
row_least_byte = ap found least_byte.is

-- x = 16909060, ((char *)&x)[3]
abbrev greatest_byte : OfExpr
greatest_byte = set x (int 16909060) then element 7 (to char_pointer (address x)) (int 3)

pub row_greatest_byte : found (part greatest_byte.tree) ≡ gives 1
unfolding part converted exact
row_greatest_byte = ap found greatest_byte.is

-- ((char *)&x)[4]
abbrev byte_past_the_end : OfExpr
byte_past_the_end = element 7 (to char_pointer (address x)) (int 4)

pub row_byte_past_the_end : found (part byte_past_the_end.tree) ≡ stops undefined.Dereference 7
unfolding part converted exact
row_byte_past_the_end = ap found byte_past_the_end.is

-- *(int *)((char *)&x + 1)
abbrev across_the_end : OfExpr
across_the_end = deref 5 (to int_pointer (op 9 o.Add (to char_pointer (address x)) (int 1)))

pub row_across_the_end : found (part across_the_end.tree) ≡ stops undefined.Dereference 5
unfolding part converted exact
row_across_the_end = ap found across_the_end.is

-- v.t[1] = 1, v.a
abbrev union_bytes : OfExpr
union_bytes = set (element 0 (dot (the v') t') (int 1)) (int 1) then dot (the v') a'

pub row_union_bytes : found (part union_bytes.tree) ≡ gives 256
unfolding part converted exact
row_union_bytes = ap found union_bytes.is

-- u.b = 5, (s = u).b
abbrev structure_assigned : OfExpr
structure_assigned = set (dot (the u') b') (int 5) then dot (set (the s') (the u')) b'

pub row_structure_assigned : found (part structure_assigned.tree) ≡ gives 5
unfolding part converted exact
row_structure_assigned = ap found structure_assigned.is

-- u.b = -5, s = u, s.b
abbrev structure_copied : OfExpr
structure_copied = set (dot (the u') b') (minus (int 5)) then set (the s') (the u') then dot (the s') b'

pub row_structure_copied : found (part structure_copied.tree) ≡ gives_less 4
unfolding part converted exact
row_structure_copied = ap found structure_copied.is

-- u.a = 8, (x ? s : u).a
abbrev structure_chosen : OfExpr
structure_chosen = set (dot (the u') a') (int 8) then dot (choice 9 x (the s') (the u')) a'

pub row_structure_chosen : found (part structure_chosen.tree) ≡ gives 8
unfolding part converted exact
row_structure_chosen = ap found structure_chosen.is

-- w[0] = 1, w[4] = 2, w[8] = 3, *(struct s *)(w + 4) = *(struct s *)w, w[4] * 100 + w[8] * 10 + w[12]
abbrev structure_overlaps : OfExpr
structure_overlaps = set (w_at 0) (int 1) then set (w_at 4) (int 2) then set (w_at 8) (int 3)
    then set (deref 0 (to struct_pointer (op 0 o.Add (the w') (int 4)))) (deref 0 (to struct_pointer (the w')))
    then op 0 o.Add (op 0 o.Multiply (w_at 4) (int 100)) (op 0 o.Add (op 0 o.Multiply (w_at 8) (int 10)) (w_at 12))

pub row_structure_overlaps : found (part structure_overlaps.tree) ≡ gives 123
unfolding part converted exact
row_structure_overlaps = ap found structure_overlaps.is

-- *(struct s *)(w + 8) = s
abbrev structure_past_the_end : OfExpr
structure_past_the_end = set_at 9 (deref 5 (to struct_pointer (op 0 o.Add (the w') (int 8)))) (the s')

pub row_structure_past_the_end : found (part structure_past_the_end.tree) ≡ stops undefined.Dereference 5
unfolding part converted exact
row_structure_past_the_end = ap found structure_past_the_end.is

-- r = &s, r->t[3] = 9, s.t[3]
abbrev member_by_pointer : OfExpr
member_by_pointer = set (the r') (address (the s')) then set (element 0 (arrow 0 (the r') t') (int 3)) (int 9)
    then element 0 (dot (the s') t') (int 3)

pub row_member_by_pointer : found (part member_by_pointer.tree) ≡ gives 9
unfolding part converted exact
row_member_by_pointer = ap found member_by_pointer.is

-- ---- what is evaluated, and in which order

-- x = 0, x && 1 / 0
abbrev and_skips : OfExpr
and_skips = set x (int 0) then op 9 o.LogicalAnd x (op 7 o.Divide (int 1) (int 0))

pub row_and_skips : found (part and_skips.tree) ≡ gives 0
unfolding part converted exact
row_and_skips = ap found and_skips.is

-- x = 3, x || 1 / 0
abbrev or_skips : OfExpr
or_skips = set x (int 3) then op 9 o.LogicalOr x (op 7 o.Divide (int 1) (int 0))

pub row_or_skips : found (part or_skips.tree) ≡ gives 1
unfolding part converted exact
row_or_skips = ap found or_skips.is

-- 2 && 3
abbrev and_of_two : OfExpr
and_of_two = op 9 o.LogicalAnd (int 2) (int 3)

pub row_and_of_two : found (part and_of_two.tree) ≡ gives 1
unfolding part converted exact
row_and_of_two = ap found and_of_two.is

-- x ? 1 / 0 : 4
abbrev choice_skips : OfExpr
choice_skips = choice 9 x (op 7 o.Divide (int 1) (int 0)) (int 4)

pub row_choice_skips : found (part choice_skips.tree) ≡ gives 4
unfolding part converted exact
row_choice_skips = ap found choice_skips.is

-- 1 ? -1 : 0u
abbrev choice_converts : OfExpr
choice_converts = choice 9 (int 1) (minus (int 1)) (unsigned 0)

pub row_choice_converts : found (part choice_converts.tree) ≡ gives 4294967295
unfolding part converted exact
row_choice_converts = ap found choice_converts.is

-- x && 1
abbrev branch_of_and : OfExpr
branch_of_and = op 9 o.LogicalAnd x (int 1)

pub row_branch_of_and : happens (part branch_of_and.tree) ≡ happening.Branch 9 side.No ∷ []
unfolding part converted exact
row_branch_of_and = ap happens branch_of_and.is

-- 1 || x
abbrev branch_of_or : OfExpr
branch_of_or = op 9 o.LogicalOr (int 1) x

pub row_branch_of_or : happens (part branch_of_or.tree) ≡ happening.Branch 9 side.Yes ∷ []
unfolding part converted exact
row_branch_of_or = ap happens branch_of_or.is

-- f(2) ? f(3) : f(4)
abbrev branch_of_choice : OfExpr
branch_of_choice = choice 9 (call 2 f' (int 2 ∷ [])) (call 3 f' (int 3 ∷ [])) (call 4 f' (int 4 ∷ []))

pub row_branch_of_choice : happens (part branch_of_choice.tree)
    ≡ happening.Call 2 ∷ happening.Branch 9 side.Yes ∷ happening.Call 3 ∷ []
unfolding part converted exact
row_branch_of_choice = ap happens branch_of_choice.is

-- f(1) + f(2) * f(3)
abbrev left_to_right : OfExpr
left_to_right = op 9 o.Add (call 1 f' (int 1 ∷ [])) (op 8 o.Multiply (call 2 f' (int 2 ∷ [])) (call 3 f' (int 3 ∷ [])))

pub row_left_to_right : happens (part left_to_right.tree) ≡ happening.Call 1 ∷ happening.Call 2 ∷ happening.Call 3 ∷ []
unfolding part converted exact
row_left_to_right = ap happens left_to_right.is

-- f(f(1))
abbrev argument_before_event : OfExpr
argument_before_event = call 2 f' (call 1 f' (int 1 ∷ []) ∷ [])

pub row_argument_before_event : happens (part argument_before_event.tree) ≡ happening.Call 1 ∷ happening.Call 2 ∷ []
unfolding part converted exact
row_argument_before_event = ap happens argument_before_event.is

-- a[f(1)] = f(2)
abbrev target_first : OfExpr
target_first = set (element 0 (the a') (call 1 f' (int 1 ∷ []))) (call 2 f' (int 2 ∷ []))

pub row_target_first : happens (part target_first.tree) ≡ happening.Call 1 ∷ happening.Call 2 ∷ []
unfolding part converted exact
row_target_first = ap happens target_first.is

-- e(), f(1)
abbrev printed_before_events : OfExpr
printed_before_events = call 1 e' [] then call 2 f' (int 1 ∷ [])

pub row_printed_before_events : printed_before (part printed_before_events.tree) ≡ 0 ∷ 1 ∷ []
unfolding part converted exact
row_printed_before_events = ap printed_before printed_before_events.is

-- e(), f(1), e()
abbrev prints_in_order : OfExpr
prints_in_order = call 1 e' [] then call 2 f' (int 1 ∷ []) then call 3 e' []

pub row_prints_in_order : prints (part prints_in_order.tree) ≡ 65 ∷ 65 ∷ []
unfolding part converted exact
row_prints_in_order = ap prints prints_in_order.is

-- ---- calls

-- f(3000000000u)
abbrev argument_converted : OfExpr
argument_converted = call 2 f' (unsigned 3000000000 ∷ [])

pub row_argument_converted : found (part argument_converted.tree) ≡ gives_less 1294967295
unfolding part converted exact
row_argument_converted = ap found argument_converted.is

-- m() + 1
abbrev missing_value : OfExpr
missing_value = op 9 o.Add (call 2 m' []) (int 1)

pub row_missing_value : found (part missing_value.tree) ≡ stops undefined.MissingValue 2
unfolding part converted exact
row_missing_value = ap found missing_value.is

-- m(), 7
abbrev missing_value_left_of_comma : OfExpr
missing_value_left_of_comma = call 2 m' [] then int 7

pub row_missing_value_left_of_comma : found (part missing_value_left_of_comma.tree) ≡ gives 7
unfolding part converted exact
row_missing_value_left_of_comma = ap found missing_value_left_of_comma.is

-- 7, m()
abbrev missing_value_right_of_comma : OfExpr
missing_value_right_of_comma = int 7 then call 2 m' []

pub row_missing_value_right_of_comma : found (part missing_value_right_of_comma.tree) ≡ stops undefined.MissingValue 2
unfolding part converted exact
row_missing_value_right_of_comma = ap found missing_value_right_of_comma.is

-- (void)m(), 7
abbrev missing_value_to_void : OfExpr
missing_value_to_void = to void_type (call 2 m' []) then int 7

pub row_missing_value_to_void : found (part missing_value_to_void.tree) ≡ gives 7
unfolding part converted exact
row_missing_value_to_void = ap found missing_value_to_void.is

-- m()
abbrev missing_value_used : OfExpr
missing_value_used = call 2 m' []

pub row_missing_value_used : found (part missing_value_used.tree) ≡ stops undefined.MissingValue 2
unfolding part converted exact
row_missing_value_used = ap found missing_value_used.is

-- m();
abbrev missing_value_unused : OfExpr
missing_value_unused = call 2 m' []

pub row_missing_value_unused : done (part missing_value_unused.tree) ≡ gives 0
unfolding part converted exact
row_missing_value_unused = ap done missing_value_unused.is

-- e()
abbrev void_call : OfExpr
void_call = call 2 e' []

pub row_void_call : found (part void_call.tree) ≡ gives 0
unfolding part converted exact
row_void_call = ap found void_call.is

-- z(3), 1 / 0
abbrev call_ends : OfExpr
call_ends = call 2 z' (int 3 ∷ []) then op 9 o.Divide (int 1) (int 0)

pub row_call_ends : found (part call_ends.tree) ≡ Some (Err (kind.Ended (finish.Exit (pos 3))))
unfolding part converted exact
row_call_ends = ap found call_ends.is

-- f == *f
abbrev function_address : OfExpr
function_address = op 9 o.Equal (the f') (deref 7 (the f'))

pub row_function_address : found (part function_address.tree) ≡ gives 1
unfolding part converted exact
row_function_address = ap found function_address.is

-- ---- nodes and places

-- (x) + x * 2
abbrev nodes : OfExpr
nodes = op 9 o.Add (grouped x) (op 8 o.Multiply x (int 2))

pub row_nodes : size_in_file (part nodes.tree) ≡ 5
unfolding part converted exact
row_nodes = ap size_in_file nodes.is

-- f(x + 1), with 100 nodes in its body
abbrev nodes_of_call : OfExpr
nodes_of_call = call 1 f' (op 8 o.Add x (int 1) ∷ [])

pub row_nodes_of_call : size_in_file (part nodes_of_call.tree) ≡ 104
unfolding part converted exact
row_nodes_of_call = ap size_in_file nodes_of_call.is

-- sizeof (x + 1)
abbrev nodes_of_size_of : OfExpr
nodes_of_size_of = size_of (grouped (op 8 o.Add x (int 1)))

pub row_nodes_of_size_of : size_in_file (part nodes_of_size_of.tree) ≡ 1
unfolding part converted exact
row_nodes_of_size_of = ap size_in_file nodes_of_size_of.is

-- y() + y() * 1000
abbrev places_of_operands : OfExpr
places_of_operands = op 9 o.Add (call 1 y' []) (op 8 o.Multiply (call 2 y' []) (int 1000))

pub row_places_of_operands : found (part places_of_operands.tree) ≡ gives 104100
unfolding part converted exact
row_places_of_operands = ap found places_of_operands.is

-- f(y()), y()
abbrev places_of_arguments : OfExpr
places_of_arguments = call 1 f' (call 2 y' [] ∷ []) then call 3 y' []

pub row_places_of_arguments : found (part places_of_arguments.tree) ≡ gives 108
unfolding part converted exact
row_places_of_arguments = ap found places_of_arguments.is

-- q(y()): a call's places stand behind those of its arguments
abbrev places_behind_arguments : OfExpr
places_behind_arguments = call 1 q' (call 2 y' [] ∷ [])

pub row_places_behind_arguments : found (part places_behind_arguments.tree) ≡ gives 104
unfolding part converted exact
row_places_behind_arguments = ap found places_behind_arguments.is

-- x ? y() : y()
abbrev places_of_what_is_skipped : OfExpr
places_of_what_is_skipped = choice 9 x (call 1 y' []) (call 2 y' [])

pub row_places_of_what_is_skipped : found (part places_of_what_is_skipped.tree) ≡ gives 104
unfolding part converted exact
row_places_of_what_is_skipped = ap found places_of_what_is_skipped.is

-- x || y() == 100
abbrev places_of_right_operand : OfExpr
places_of_right_operand = op 9 o.LogicalOr x (op 8 o.Equal (call 1 y' []) (int 100))

pub row_places_of_right_operand : found (part places_of_right_operand.tree) ≡ gives 1
unfolding part converted exact
row_places_of_right_operand = ap found places_of_right_operand.is

-- sizeof y(), y()
abbrev size_of_takes_no_place : OfExpr
size_of_takes_no_place = size_of (call 1 y' []) then call 2 y' []

pub row_size_of_takes_no_place : found (part size_of_takes_no_place.tree) ≡ gives 100
unfolding part converted exact
row_size_of_takes_no_place = ap found size_of_takes_no_place.is

-- a[y() - 100] = y()
abbrev places_of_target : OfExpr
places_of_target = set (element 0 (the a') (op 0 o.Subtract (call 1 y' []) (int 100))) (call 2 y' [])

pub row_places_of_target : found (part places_of_target.tree) ≡ gives 104
unfolding part converted exact
row_places_of_target = ap found places_of_target.is

-- ---- names and literals

-- g + 1
abbrev enumeration_constant : OfExpr
enumeration_constant = op 9 o.Add (the g') (int 1)

pub row_enumeration_constant : found (part enumeration_constant.tree) ≡ gives 8
unfolding part converted exact
row_enumeration_constant = ap found enumeration_constant.is

-- (long)&x
abbrev object_of_file : OfExpr
object_of_file = to long_type (address x)

pub row_object_of_file : found (part object_of_file.tree) ≡ gives 4294967296
unfolding part converted exact
row_object_of_file = ap found object_of_file.is

-- (long)&x, in the block
abbrev object_of_block : OfExpr
object_of_block = to long_type (address x)

pub row_object_of_block : found_in block (part object_of_block.tree) ≡ gives 1460288880640
unfolding part converted exact
row_object_of_block = ap (found_in block) object_of_block.is

-- sizeof __func__, in the block
abbrev name_of_function : OfExpr
name_of_function = size_of (built.function_name meaning 50)

pub row_name_of_function : found_in block (part name_of_function.tree) ≡ gives 2
unfolding part converted exact
row_name_of_function = ap (found_in block) name_of_function.is

-- ("ab")
abbrev text_in_parentheses : OfExpr
text_in_parentheses = grouped (text 200 (97 ∷ 98 ∷ []))

pub row_text_in_parentheses : text_of (part text_in_parentheses.tree) ≡ Some (97 ∷ 98 ∷ [])
unfolding part converted exact
row_text_in_parentheses = ap text_of text_in_parentheses.is

-- f("ab")
abbrev text_of_identity : OfExpr
text_of_identity = call 1 f' (text 200 (97 ∷ 98 ∷ []) ∷ [])

pub row_text_of_identity : text_of (part text_of_identity.tree) ≡ Some (97 ∷ 98 ∷ [])
unfolding part converted exact
row_text_of_identity = ap text_of text_of_identity.is

-- z("ab")
abbrev text_of_another_call : OfExpr
text_of_another_call = call 1 z' (text 200 (97 ∷ 98 ∷ []) ∷ [])

pub row_text_of_another_call : text_of (part text_of_another_call.tree) ≡ None
unfolding part converted exact
row_text_of_another_call = ap text_of text_of_another_call.is
