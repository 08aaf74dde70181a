-- A store: a byte at each address, and the live objects by their numbers (C99 6.2.4, 6.2.6.1).
use Rattle.std.specs.Prelude.{ℕ, zero, suc, ◌+◌, ◌-◌, ◌*◌, ◌/◌, ◌%◌, ◌^◌, Bool, false, cond, nat_lt, nat_le, nat_eq}
use Rattle.std.specs.Prelude.{Option, Some, None}
use Rattle.c_store.specs.declared.object.Object.{Object}

-- Each address has a byte, live or not; what is read of it is taken modulo 256. Only live objects have an entry.
pub record Store : Type 0 where
  pub bytes : ℕ → ℕ
  pub objects : ℕ → Option Object

-- ---- addresses: object p has those from p * 2 ^ 32 on

abbrev pub start : ℕ → ℕ
start p = p * 2 ^ 32

abbrev pub object_of : ℕ → ℕ
object_of a = a / 2 ^ 32

abbrev pub offset_of : ℕ → ℕ
offset_of a = a % 2 ^ 32

-- whether an address is one of n from a on
abbrev pub within : ℕ → ℕ → ℕ → Bool
within a n b = cond (nat_le a b) (nat_lt b (a + n)) false

-- ---- bytes

-- other bytes at n addresses from a on, each by its distance from a
abbrev pub lay : ℕ → ℕ → (ℕ → ℕ) → Store → Store
lay a n f s = record { bytes = λ b. cond (within a n b) (f (b - a)) (s.bytes b); objects = s.objects }

-- a number's byte by its place, the least first
abbrev pub byte_of : ℕ → ℕ → ℕ
byte_of x zero = x % 256
byte_of x (suc i) = byte_of (x / 256) i

-- a number written in n bytes at a, little endian
abbrev pub write : ℕ → ℕ → ℕ → Store → Store
write n a x s = lay a n (byte_of x) s

abbrev pub zero_range : ℕ → ℕ → Store → Store
zero_range a n s = lay a n (λ _. 0) s

-- n bytes of a store's, from `from` on, written at `to`: all are read before the first is written
abbrev pub copy_range : ℕ → Store → ℕ → ℕ → Store → Store
copy_range to source from n s = lay to n (λ i. source.bytes (from + i)) s

-- the number that n bytes from a on spell, the least first
abbrev pub spelt : ℕ → (ℕ → ℕ) → ℕ → ℕ
spelt zero f a = 0
spelt (suc n) f a = f a % 256 + 256 * spelt n f (suc a)

-- the number in n bytes at a
abbrev pub read : ℕ → Store → ℕ → ℕ
read n s a = spelt n s.bytes a

-- ---- objects

-- a function with another value at one number
abbrev pub set_at : {A : Type 0} → ℕ → A → (ℕ → A) → ℕ → A
set_at n x f i = cond (nat_eq i n) x (f i)

-- An object is made: its bytes are those that stood at its addresses, so bytes that are never written are the world's.
abbrev pub make : ℕ → Object → Store → Store
make p o s = record { bytes = s.bytes; objects = set_at p (Some o) s.objects }

-- its life ends; its bytes stay, and no access reaches them
abbrev pub end : ℕ → Store → Store
end p s = record { bytes = s.bytes; objects = set_at p None s.objects }

-- before any object is made: each byte is the one that the world has there
abbrev pub initial : (ℕ → ℕ) → Store
initial world = record { bytes = world; objects = λ _. None }

abbrev pub size_in : Option Object → ℕ
size_in None = 0
size_in (Some o) = o.size

abbrev pub object_size : Store → ℕ → ℕ
object_size s p = size_in (s.objects p)
