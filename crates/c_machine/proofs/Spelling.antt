-- Numbers and the bytes that spell them.
use Rattle.std.proofs.Common.{◌≡◌, ◌<◌, ◌≤◌, ◌+◌, ◌*◌, ◌/◌, ◌%◌, ◌^◌, ◌-◌, ℕ, zero, suc, ℤ, pos, Bool, true, false, cond, List, [], ◌∷◌, ◌++◌}
use Rattle.std.proofs.Common.{length, drop, get_or, refl, sym, ap, ◌∙◌, arith, append_assoc, pow-suc}
use mir.Val.{SFits, to_z, of_z}
use mir.Syntax.{w128}
use Rattle.std.specs.Prelude.{All, slice_index}
use Rattle.std.proofs.Math.Nat.{div-div-eq-div-mul, zero-div, mod-lt, mod-add-div, add-mul-mod_self_left, mod-eq_of_lt, mul_assoc, mul_comm}
use Rattle.std.proofs.lemmas.Int.{to_z-of_z}
use Rattle.std.proofs.lemmas.List.Elements.{All-from_get_or}
use Rattle.plain_data.specs.declared.width.Width.{Width}
use Rattle.plain_data.specs.declared.width.Width.TheVariants as w
use Rattle.plain_data.specs.Words.{word, bits, from_bytes, to_bytes}
use Rattle.plain_data.proofs.WordLaws.{word-word, from_bytes_below, from_bytes-to_bytes, length-to_bytes}
use Rattle.c_store.specs.Store.{Store, spelt, lay, write, byte_of}
use Rattle.c_store.proofs.Laws.{lay_same}
use Rattle.c_memory.specs.Memories.{Holds}
use Rattle.c_language.specs.declared.ctype.IntegerKind.{IntegerKind}
use Rattle.c_language.specs.declared.ctype.IntegerKind.TheVariants as k
use Rattle.c_language.specs.Integers.{converted, is_zero, width_of, bits_of, bytes_of, is_bool, number_of, value_of_word}

-- a number as an enum keeps it
pub kept : (z x : ℤ) → SFits w128 z → z ≡ x → to_z w128 (of_z w128 z) ≡ x
kept z x fits is = to_z-of_z w128 z fits ∙ is

-- ---- conversion sees the lowest 64 bits, and whether the value is 0

at_most_64 : (v : Width) → bits v ≤ 64
at_most_64 w.W8 = omega arith
at_most_64 w.W16 = omega arith
at_most_64 w.W32 = omega arith
at_most_64 w.W64 = omega arith

word_alike : (v : Width) (z y : ℤ) → word w.W64 z ≡ word w.W64 y → word v z ≡ word v y
word_alike v z y same =
    sym (word-word v w.W64 z (at_most_64 v)) ∙ ap (λ n. word v (pos n)) same ∙ word-word v w.W64 y (at_most_64 v)

pub converted_alike : (kind : IntegerKind) (z y : ℤ) → word w.W64 z ≡ word w.W64 y → is_zero z ≡ is_zero y →
    converted kind z ≡ converted kind y
unfolding converted
converted_alike kind z y same truth = rw (word_alike (width_of kind) z y same, truth) refl

-- ---- bytes of an integer type

bytes_and_bits : (kind : IntegerKind) → 256 ^ bytes_of kind ≡ 2 ^ bits_of kind
bytes_and_bits k.Bool = refl
bytes_and_bits k.Char = refl
bytes_and_bits k.SignedChar = refl
bytes_and_bits k.UnsignedChar = refl
bytes_and_bits k.Short = refl
bytes_and_bits k.UnsignedShort = refl
bytes_and_bits k.Int = refl
bytes_and_bits k.UnsignedInt = refl
bytes_and_bits k.Long = refl
bytes_and_bits k.UnsignedLong = refl
bytes_and_bits k.LongLong = refl
bytes_and_bits k.UnsignedLongLong = refl

fits_64 : (kind : IntegerKind) → 2 ^ bits_of kind ≤ 2 ^ 64
fits_64 k.Bool = omega arith
fits_64 k.Char = omega arith
fits_64 k.SignedChar = omega arith
fits_64 k.UnsignedChar = omega arith
fits_64 k.Short = omega arith
fits_64 k.UnsignedShort = omega arith
fits_64 k.Int = omega arith
fits_64 k.UnsignedInt = omega arith
fits_64 k.Long = omega arith
fits_64 k.UnsignedLong = omega arith
fits_64 k.LongLong = omega arith
fits_64 k.UnsignedLongLong = omega arith

low_same : (n x y : ℕ) → n ≤ 2 ^ 64 → x < n → y ≡ x % 2 ^ 64 → y ≡ x
low_same n x y few less is = omega arith

pub low_below : (kind : IntegerKind) (n x y : ℕ) → x < 256 ^ n → n ≡ bytes_of kind → y ≡ x % 2 ^ 64 →
    (y ≡ x) × (y < 2 ^ bits_of kind)
low_below kind n x y less is low =
    let few : x < 2 ^ bits_of kind = rw (← bytes_and_bits kind, ← is) less in
    let same = low_same (2 ^ bits_of kind) x y (fits_64 kind) few low in
    (same, rw same few)

-- ---- lists of bytes

-- a byte in front
div_first : (b f m : ℕ) → b < 256 → (b + 256 * f) / (256 * m) ≡ f / m
div_first b f m less = sym (div-div-eq-div-mul (b + 256 * f) 256 m) ∙ ap (λ x. x / m) (behind b f less)
  where
    behind : (b f : ℕ) → b < 256 → (b + 256 * f) / 256 ≡ f
    behind b f less = omega arith

pub from_drop : (bytes : List ℕ) (n : ℕ) → ((i : ℕ) → get_or bytes i 0 < 256) →
    from_bytes (drop n bytes) ≡ from_bytes bytes / 256 ^ n
from_drop bytes zero small = omega arith
from_drop [] (suc n) small = nothing (256 ^ suc n)
  where
    nothing : (m : ℕ) → 0 ≡ 0 / m
    nothing m = sym (zero-div m)
from_drop (b ∷ bytes) (suc n) small =
    from_drop bytes n (λ i. small (suc i))
    ∙ sym (div_first b (from_bytes bytes) (256 ^ n) (small 0))
    ∙ ap (λ m. (b + 256 * from_bytes bytes) / m) (power n)
  where
    power : (n : ℕ) → 256 * 256 ^ n ≡ 256 ^ suc n
    power n = omega (arith, pow-suc 256 n)

pub bytes_small : (bytes : List ℕ) → ((i : ℕ) → get_or bytes i 0 < 256) → from_bytes bytes < 256 ^ length bytes
bytes_small bytes small = from_bytes_below bytes (All-from_get_or (λ b. b < 256) bytes 0 (λ i less. small i))

pub past_the_end : (bytes : List ℕ) (n : ℕ) → ((i : ℕ) → get_or bytes i 0 < 256) → length bytes < n →
    from_bytes (drop (length bytes) bytes) ≡ from_bytes bytes / 256 ^ n
past_the_end bytes n small far =
    ap from_bytes (drop_all bytes (length bytes) (omega arith) ∙ sym (drop_all bytes n (omega arith))) ∙ from_drop bytes n small
  where
    drop_all : (bytes : List ℕ) (n : ℕ) → length bytes ≤ n → drop n bytes ≡ []
    drop_all [] zero h = refl
    drop_all [] (suc n) h = refl
    drop_all (b ∷ bytes) zero h = absurd (omega arith)
    drop_all (b ∷ bytes) (suc n) h = drop_all bytes n (omega arith)

-- one byte of those that are asked for
pub one_more : (found front : List ℕ) (left b : ℕ) (more all : List ℕ) (rest : List ℕ) → b < 256 → 0 < left →
    rest ≡ b ∷ more → front ≡ found ++ b ∷ [] → found ++ to_bytes left (from_bytes rest) ≡ all →
    front ++ to_bytes (left - 1) (from_bytes more) ≡ all
one_more found front (suc left) b more all rest small some is put so_far =
    let e : suc left - 1 ≡ left = omega arith in
    rw (put, e)
    (append_assoc found (b ∷ []) (to_bytes left (from_bytes more))
    ∙ ap (λ xs. found ++ xs) (first b (from_bytes more) left small)
    ∙ ap (λ r. found ++ to_bytes (suc left) (from_bytes r)) (sym is)
    ∙ so_far)
  where
    first : (b f left : ℕ) → b < 256 → b ∷ to_bytes left f ≡ to_bytes (suc left) (b + 256 * f)
    first b f left small =
        let low : (b + 256 * f) % 256 ≡ b = omega arith in
        let high : (b + 256 * f) / 256 ≡ f = omega arith in
        rw (low, high) refl
one_more found front zero b more all rest small some is put so_far = absurd (omega arith)

-- sixteen bytes have the number
pub sixteen : (x n : ℕ) → x ≤ 2 ^ 127 → (all behind : List ℕ) → all ≡ to_bytes 16 x →
    from_bytes behind ≡ from_bytes all / n → from_bytes behind ≡ x / n
sixteen x n few all behind is rest =
    rest ∙ ap (λ bs. from_bytes bs / n) is ∙ ap (λ y. y / n) (from_bytes-to_bytes 16 x (omega arith))

-- the number in bytes that are held
pub read_held : (f : ℕ → ℕ) (a n : ℕ) (bytes : List ℕ) → Holds f a n bytes → from_bytes bytes ≡ spelt n f a
read_held f a zero [] holds = refl
read_held f a zero (b ∷ bytes) holds = absurd (no (length bytes) holds.count)
  where
    no : (m : ℕ) → suc m ≡ 0 → ⊥
    no m is = omega arith
read_held f a (suc n) [] holds = absurd (no n holds.count)
  where
    no : (m : ℕ) → 0 ≡ suc m → ⊥
    no m is = omega arith
read_held f a (suc n) (b ∷ bytes) holds =
    let first : b ≡ f (a + 0) = holds.each 0 (omega arith) in
    let here : b ≡ f a = first ∙ ap f (omega arith) in
    let small : b < 256 = holds.small 0 in
    let low : b ≡ f a % 256 = small_mod b (f a) small here in
    rw (
      ← low,
      read_held f (suc a) n bytes (record {
        count = count_less (length bytes) n holds.count;
        each = λ i less. holds.each (suc i) (omega arith) ∙ ap f (further a i);
        small = λ i. holds.small (suc i);
      }),
    ) refl
  where
    small_mod : (b x : ℕ) → b < 256 → b ≡ x → b ≡ x % 256
    small_mod b x less is = omega arith

    count_less : (m n : ℕ) → suc m ≡ suc n → m ≡ n
    count_less m n is = omega arith

    further : (a i : ℕ) → a + suc i ≡ suc a + i
    further a i = omega arith

pub laid_count : (n x : ℕ) (bytes : List ℕ) → bytes ≡ to_bytes n (x / 256 ^ 0) → length bytes ≡ n
laid_count n x bytes is = ap length is ∙ length-to_bytes n (x / 256 ^ 0)

-- bytes laid are the number written
pub laid_bytes : (n a x : ℕ) (bytes laid : List ℕ) (s : Store) → bytes ≡ to_bytes n (x / 256 ^ 0) → laid ≡ bytes →
    lay a (length laid) (slice_index laid) s ≡ write n a x s
laid_bytes n a x bytes laid s is same =
    let all : laid ≡ to_bytes n x = same ∙ is ∙ ap (to_bytes n) (whole x) in
    rw (all, length-to_bytes n x) (lay_same a n (slice_index (to_bytes n x)) (byte_of x) s (λ i less. each n x i less))
  where
    whole : (x : ℕ) → x / 256 ^ 0 ≡ x
    whole x = omega arith

    each : (n x i : ℕ) → i < n → slice_index (to_bytes n x) i ≡ byte_of x i
    each zero x i less = absurd (omega arith)
    each (suc n) x zero less = refl
    each (suc n) x (suc i) less = each n (x / 256) i (omega arith)

-- so many bytes are the number modulo so many bytes
pub from_to_mod : (n y : ℕ) → from_bytes (to_bytes n y) ≡ y % 256 ^ n
from_to_mod zero y = omega arith
from_to_mod (suc n) y =
    ap (λ f. y % 256 + 256 * f) (from_to_mod n (y / 256))
    ∙ wider (256 ^ n) y (pow_pos n)
    ∙ ap (λ m. y % m) (power n)
  where
    power : (n : ℕ) → 256 ^ n * 256 ≡ 256 ^ suc n
    power n = sym (pow-suc 256 n)

    pow_pos : (n : ℕ) → 0 < 256 ^ n
    pow_pos zero = omega arith
    pow_pos (suc n) = omega (arith, pow-suc 256 n, pow_pos n)

    wider : (m y : ℕ) → 0 < m → y % 256 + 256 * (y / 256 % m) ≡ y % (m * 256)
    wider m y some =
        let q = y / 256 in
        let few : q % m < m = mod-lt q some in
        let small : y % 256 + 256 * (q % m) < m * 256 = omega arith in
        let whole : y ≡ (y % 256 + 256 * (q % m)) + m * 256 * (q / m) = all m y q (q / m) (q % m) refl (mod-add-div q m) in
        sym (ap (λ z. z % (m * 256)) whole
        ∙ add-mul-mod_self_left (y % 256 + 256 * (q % m)) (m * 256) (q / m)
        ∙ mod-eq_of_lt small)
      where
        times : (m a : ℕ) → m * 256 * a ≡ 256 * (m * a)
        times m a = mul_assoc m 256 a ∙ ap (λ z. m * z) (mul_comm 256 a) ∙ sym (mul_assoc m a 256) ∙ mul_comm (m * a) 256

        all : (m y q a b : ℕ) → q ≡ y / 256 → b + m * a ≡ q → y ≡ (y % 256 + 256 * b) + m * 256 * a
        all m y q a b is parts =
            let t = times m a in
            omega (arith, t, parts, is)
