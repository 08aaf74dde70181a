-- Objects read and written (C99 6.3.2.1, 6.5.3.2p4, 6.5.16.1): what an lvalue's value is, and where an access is
-- undefined.
--
-- An lvalue whose root is a name is an object that lives, so it is accessed without a test. Any other may be of no
-- live object, which is undefined at the lvalue's own token, or of a string literal, to write which is undefined at
-- the operator that writes.
use Rattle.std.specs.Prelude.{ℕ, ℤ, pos, Bool, true, false, cond, not, ◌||◌, Ok}
use Rattle.plain_data.specs.declared.run.Undefined.TheVariants.{Dereference, LiteralWrite}
use Rattle.c_language.specs.declared.class.Class.{Class}
use Rattle.c_language.specs.declared.class.Class.TheVariants as class
use Rattle.c_language.specs.declared.tables.Tables.{Tables}
use Rattle.c_store.specs.Store.{Store, read, write}
use Rattle.c_store.specs.Access.{can_access, can_write}
use Rattle.c_language.specs.Typing.{Typed, type_of}
use Rattle.c_means.specs.Parts.{State, Outcome, stop, with_store}
use Rattle.c_means.specs.Values.{class_in, bytes_of, converted_to, value_of_bytes, bytes_of_value}

-- An array turns into the address of its first element, a function into its own, and a void expression has no value:
-- none of these is read (C99 6.3.2.1p2 to p4, 6.3.2.2).
abbrev pub is_read : Class → Bool
is_read (class.Integer kind) = true
is_read class.Pointer = true
is_read (class.Aggregate number) = true
is_read class.Floating = true
is_read class.Opaque = true
is_read class.Void = false
is_read class.Array = false
is_read class.Function = false

-- the value of what stands at an address, in n bytes
abbrev pub value_at : Class → ℕ → Store → ℕ → ℤ
value_at class.Array n s a = pos a
value_at class.Function n s a = pos a
value_at c n s a = value_of_bytes c (read n s a)

abbrev pub load_as : Class → ℕ → ℕ → Bool → ℕ → State → Outcome ℤ
load_as c n at rooted a d =
    cond (rooted || not (is_read c) || can_access d.store a n) (Ok (value_at c n d.store a, d)) (stop at Dereference d)

-- the value of an lvalue at its address (C99 6.3.2.1p2)
abbrev pub load : Typed → Bool → ℕ → State → Outcome ℤ
load x rooted a d = load_as (class_in (type_of x)) (bytes_of x.after.tables (type_of x)) x.at rooted a d

-- of the two undefined kinds the access comes first
abbrev pub put_as : Class → ℕ → ℕ → ℕ → Bool → ℕ → ℤ → State → Outcome ℤ
put_as c n at operator rooted a z d =
    cond (rooted || can_access d.store a n)
    (cond (rooted || can_write d.store a n)
    (Ok (z, with_store (write n a (bytes_of_value c z) d.store) d))
    (stop operator LiteralWrite d))
    (stop at Dereference d)

-- A value is converted to the type of an lvalue and stored at its address, by the operator that stands at a token; the
-- value is the one that was stored (C99 6.5.16p3, 6.5.16.1p2). The tables are those behind the whole expression.
abbrev pub put : ℕ → Tables → Typed → Bool → ℕ → ℤ → State → Outcome ℤ
put operator tables x rooted a z d =
    let c = class_in (type_of x) in
    put_as c (bytes_of tables (type_of x)) x.at operator rooted a (converted_to c z) d
