-- What memory shapes do to a store (C99 6.2.6.1). Addresses are words of 64 bits, and go on at 0 behind the last one.
-- Where a range doesn't cross that end, each is the operation of that name on stores.
use Rattle.std.specs.Prelude.{ℕ, ◌+◌, ◌-◌, ◌%◌, ◌^◌, Bool, false, cond, nat_lt, nat_eq, Option, Some, None}
use Rattle.plain_data.specs.declared.width.Width.{Width}
use Rattle.plain_data.specs.declared.width.Width.TheVariants.{W8, W16, W32, W64}
use Rattle.c_store.specs.declared.object.Object.{Object}
use Rattle.c_store.specs.declared.object.ObjectKind.{ObjectKind}
use Rattle.c_store.specs.declared.object.ObjectKind.TheVariants as kind
use Rattle.c_store.specs.Store.{Store, byte_of, spelt}

-- how many bytes a word has
abbrev pub octets : Width → ℕ
octets W8 = 1
octets W16 = 2
octets W32 = 4
octets W64 = 8

-- the address that is i behind a
unfoldable pub behind : ℕ → ℕ → ℕ
behind a i = (a + i) % 2 ^ 64

-- how far an address is behind a
unfoldable pub distance : ℕ → ℕ → ℕ
distance a b = (b + (2 ^ 64 - a)) % 2 ^ 64

-- whether an address is one of n from a on
unfoldable pub is_within : ℕ → ℕ → ℕ → Bool
is_within a n b = cond (nat_lt b (2 ^ 64)) (nat_lt (distance a b) n) false

-- other bytes at n addresses from a on, each by its distance from a
unfoldable pub lay : ℕ → ℕ → (ℕ → ℕ) → Store → Store
lay a n f s = record { bytes = λ b. cond (is_within a n b) (f (distance a b)) (s.bytes b); objects = s.objects }

-- a number written in n bytes at a, little endian
unfoldable pub write : ℕ → ℕ → ℕ → Store → Store
write n a x s = lay a n (byte_of x) s

unfoldable pub zero_range : ℕ → ℕ → Store → Store
zero_range a n s = lay a n (λ _. 0) s

-- n bytes of a store's, from `from` on, written at `to`: all are read before the first is written
unfoldable pub copy_range : ℕ → Store → ℕ → ℕ → Store → Store
copy_range to source from n s = lay to n (λ i. source.bytes (behind from i)) s

-- the number in n bytes at a
unfoldable pub read : ℕ → Store → ℕ → ℕ
read n s a = spelt n (λ i. s.bytes (behind a i)) 0

-- a number for each kind
abbrev pub number_of : ObjectKind → ℕ
number_of kind.Static = 0
number_of kind.Automatic = 1
number_of kind.Literal = 2
number_of kind.Heap = 3
number_of kind.Outside = 4

-- whether there is a live object of this kind
abbrev pub has_kind : ObjectKind → Option Object → Bool
has_kind k None = false
has_kind k (Some o) = nat_eq (number_of k) (number_of o.kind)
