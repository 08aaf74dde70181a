-- Machine words: numbers below 2^N, read as unsigned or in two's complement (C99 6.2.6.2).
use Rattle.std.specs.Prelude.{ℕ, zero, suc, ◌+◌, ◌-◌, ◌*◌, ◌/◌, ◌%◌, ◌^◌, ◌≡◌, Bool, not, ◌||◌, nat_lt, nat_le, ℤ, pos, negsuc, ◌+ℤ◌, ◌-ℤ◌, ◌*ℤ◌, List, [], ◌∷◌, int_lt, int_div, int_rem, unsigned_abs}
use Rattle.std.specs.Int.{w8, w16, w32, w64, cast_signed, int_rem_euclid, int_div_euclid}
use Rattle.std.specs.Int.{Width as Machine}
use Rattle.plain_data.specs.declared.width.Width.{Width}
use Rattle.plain_data.specs.declared.width.Width.TheVariants.{W8, W16, W32, W64}

-- the machine's integer type of this width
abbrev pub machine : Width → Machine
machine W8 = w8
machine W16 = w16
machine W32 = w32
machine W64 = w64

-- the number of bits, N
abbrev pub bits : Width → ℕ
bits W8 = 8
bits W16 = 16
bits W32 = 32
bits W64 = 64

-- a number modulo 2^N (C99 6.3.1.3)
abbrev pub word : Width → ℤ → ℕ
word w z = unsigned_abs (int_rem_euclid z (pos (2 ^ bits w)))

-- the number that a word is in two's complement: the word, or 2^N less where its sign bit is set
abbrev pub signed : Width → ℕ → ℤ
signed w a = cast_signed (machine w) a

-- the number is from -2^(N-1) to 2^(N-1) - 1, where `negsuc n` is -(n + 1)
abbrev pub is_signed : Width → ℤ → Bool
is_signed w (pos n) = nat_lt n (2 ^ (bits w - 1))
is_signed w (negsuc n) = nat_lt n (2 ^ (bits w - 1))

-- `+`, `-` and `*` modulo 2^N (C99 6.2.5)
abbrev pub add : Width → ℕ → ℕ → ℕ
add w a b = (a + b) % 2 ^ bits w

abbrev pub sub : Width → ℕ → ℕ → ℕ
sub w a b = (a + (2 ^ bits w - b)) % 2 ^ bits w

abbrev pub mul : Width → ℕ → ℕ → ℕ
mul w a b = (a * b) % 2 ^ bits w

-- the least signed number by -1, whose quotient isn't in the type (C99 6.5.5)
pub record IsLeastByMinusOne (w : Width) (a b : ℕ) : Type 0 where
  pub least : a ≡ 2 ^ (bits w - 1)
  pub minus_one : b ≡ 2 ^ bits w - 1

-- signed `/` and `%`, toward zero (C99 6.5.5)
abbrev pub sdiv : Width → ℕ → ℕ → ℕ
sdiv w a b = word w (int_div (signed w a) (signed w b))

abbrev pub srem : Width → ℕ → ℕ → ℕ
srem w a b = word w (int_rem (signed w a) (signed w b))

-- `<<` and `>>`, where the sign bit is copied by `ashr` alone (C99 6.5.7)
abbrev pub shl : Width → ℕ → ℕ → ℕ
shl w a by = (a * 2 ^ by) % 2 ^ bits w

abbrev pub lshr : ℕ → ℕ → ℕ
lshr a by = a / 2 ^ by

abbrev pub ashr : Width → ℕ → ℕ → ℕ
ashr w a by = word w (int_div_euclid (signed w a) (pos (2 ^ by)))

-- the signed result leaves the type (C99 6.5p5)
abbrev pub add_over : Width → ℕ → ℕ → Bool
add_over w a b = not (is_signed w (signed w a +ℤ signed w b))

abbrev pub sub_over : Width → ℕ → ℕ → Bool
sub_over w a b = not (is_signed w (signed w a -ℤ signed w b))

abbrev pub mul_over : Width → ℕ → ℕ → Bool
mul_over w a b = not (is_signed w (signed w a *ℤ signed w b))

-- signed `<<` is undefined: too far, of a negative number, or out of the type (C99 6.5.7p4)
abbrev pub shl_over : Width → ℕ → ℕ → Bool
shl_over w a by = nat_le (bits w) by || int_lt (signed w a) (pos 0) || not (is_signed w (signed w a *ℤ pos (2 ^ by)))

-- `<`, of unsigned and of signed words
abbrev pub ult : ℕ → ℕ → Bool
ult a b = nat_lt a b

abbrev pub slt : Width → ℕ → ℕ → Bool
slt w a b = int_lt (signed w a) (signed w b)

-- the number that bytes give, the lowest first
abbrev pub from_bytes : List ℕ → ℕ
from_bytes [] = 0
from_bytes (byte ∷ bytes) = byte + 256 * from_bytes bytes

-- the lowest bytes of a number, so many, the lowest first
abbrev pub to_bytes : ℕ → ℕ → List ℕ
to_bytes zero a = []
to_bytes (suc n) a = a % 256 ∷ to_bytes n (a / 256)
