-- What may be done at an address: each undefined behaviour of memory as a test of the live objects alone.
use Rattle.std.specs.Prelude.{◌≡◌, ℕ, ◌+◌, Bool, true, false, ◌&&◌, ◌||◌, not, nat_le, nat_eq, Option, Some, None}
use Rattle.c_store.specs.declared.object.Object.{Object}
use Rattle.c_store.specs.declared.object.ObjectKind.{ObjectKind}
use Rattle.c_store.specs.declared.object.ObjectKind.TheVariants as kind
use Rattle.c_store.specs.Store.{Store, object_of, offset_of}

-- whether an object has this many bytes
abbrev pub reaches : Option Object → ℕ → Bool
reaches None end = false
reaches (Some o) end = nat_le end o.size

-- n addresses from a on are of one live object; with n = 0, a is in it or one past its last byte
abbrev pub is_live : Store → ℕ → ℕ → Bool
is_live s a n = reaches (s.objects (object_of a)) (offset_of a + n)

-- Pointer arithmetic and comparison ask this of two addresses: both in, or one past, one live object (6.5.6p8, 6.5.8p5).
abbrev pub in_one_object : Store → ℕ → ℕ → Bool
in_one_object s a b = is_live s a 0 && (is_live s b 0 && nat_eq (object_of a) (object_of b))

-- An access asks that each of its bytes is in a live object (6.5.3.2p4); one of no bytes asks nothing.
abbrev pub can_access : Store → ℕ → ℕ → Bool
can_access s a n = nat_eq n 0 || is_live s a n

abbrev pub is_literal : Option Object → Bool
is_literal None = false
is_literal (Some o) = is_kind o.kind
  where
    is_kind : ObjectKind → Bool
    is_kind kind.Literal = true
    is_kind _ = false

abbrev pub is_heap : Option Object → Bool
is_heap None = false
is_heap (Some o) = is_kind o.kind
  where
    is_kind : ObjectKind → Bool
    is_kind kind.Heap = true
    is_kind _ = false

-- A write asks that none of its bytes is of a string literal (6.4.5p6).
abbrev pub can_write : Store → ℕ → ℕ → Bool
can_write s a n = nat_eq n 0 || not (is_literal (s.objects (object_of a)))

-- `free` takes null, or the first byte of a live object that was allocated (7.20.3.2).
abbrev pub can_free : Store → ℕ → Bool
can_free s a = nat_eq a 0 || (is_heap (s.objects (object_of a)) && nat_eq (offset_of a) 0)
