-- Objects of the core are read and written as those of C are.
use Rattle.std.proofs.Common.{◌≡◌, ℕ, ℤ, Bool, true, false, cond, Option, Some, None, Ok, refl, sym, ap, ap₂, ◌∙◌}
use Rattle.std.specs.Prelude.{not, ◌||◌}
use Rattle.plain_data.specs.declared.run.Undefined.TheVariants as undefined
use Rattle.c_language.specs.declared.class.Class.{Class}
use Rattle.c_language.specs.declared.class.Class.TheVariants as class
use Rattle.c_language.specs.declared.ctype.IntegerKind.{IntegerKind}
use Rattle.c_language.specs.declared.ctype.IntegerKind.TheVariants as k
use Rattle.c_language.specs.declared.tables.Tables.{Tables}
use Rattle.c_language.specs.Integers as integers
use Rattle.c_store.specs.Store.{read, write}
use Rattle.c_store.specs.Access.{can_access, can_write}
use Rattle.c_language.specs.Layouts.{size_of}
use Rattle.c_language.specs.Types.{class_of}
use Rattle.c_language.specs.declared.ctype.CType.{CType}
use Rattle.c_language.specs.Typing.{Typed, type_of}
use Rattle.c_means.specs.Parts.{State, with_store, stop}
use Rattle.c_means.specs.Values as values
use Rattle.c_means.specs.Objects as objects
use Rattle.core_tree.specs.declared.types.ValueType.{ValueType}
use Rattle.core_tree.specs.declared.types.ValueType.TheVariants as v
use Rattle.core_tree.specs.Numbers as core
use Rattle.core_tree.specs.Memory as memory
use Rattle.elaborate.specs.Types.{integer_type, value_type}
use Rattle.elaborate.specs.Means.{as_done, as_found, SameType, StoresAs, OfType, StoredAs}
use Rattle.elaborate.proofs.Numbers.{converted_same}
use Rattle.elaborate.proofs.States.{test_same}

-- ---- types

pub same_integer : (kind : IntegerKind) → SameType (class.Integer kind) (integers.bytes_of kind) (integer_type kind)
same_integer k.Bool = record {
  size = refl;
  is_read = refl;
  value = λ s a. refl;
  bytes = λ z. refl;
  converted =
      converted_same k.Bool;
}
same_integer k.Char = record {
  size = refl;
  is_read = refl;
  value = λ s a. refl;
  bytes = λ z. refl;
  converted =
      converted_same k.Char;
}
same_integer k.SignedChar = record {
  size = refl;
  is_read = refl;
  value = λ s a. refl;
  bytes = λ z. refl;
  converted =
      converted_same k.SignedChar;
}
same_integer k.UnsignedChar = record {
  size = refl;
  is_read = refl;
  value = λ s a. refl;
  bytes = λ z. refl;
  converted
      = converted_same k.UnsignedChar;
}
same_integer k.Short = record {
  size = refl;
  is_read = refl;
  value = λ s a. refl;
  bytes = λ z. refl;
  converted =
      converted_same k.Short;
}
same_integer k.UnsignedShort = record {
  size = refl;
  is_read = refl;
  value = λ s a. refl;
  bytes = λ z. refl;
  converted = converted_same k.UnsignedShort;
}
same_integer k.Int = record {
  size = refl;
  is_read = refl;
  value = λ s a. refl;
  bytes = λ z. refl;
  converted =
      converted_same k.Int;
}
same_integer k.UnsignedInt = record {
  size = refl;
  is_read = refl;
  value = λ s a. refl;
  bytes = λ z. refl;
  converted
      = converted_same k.UnsignedInt;
}
same_integer k.Long = record {
  size = refl;
  is_read = refl;
  value = λ s a. refl;
  bytes = λ z. refl;
  converted =
      converted_same k.Long;
}
same_integer k.UnsignedLong = record {
  size = refl;
  is_read = refl;
  value = λ s a. refl;
  bytes = λ z. refl;
  converted
      = converted_same k.UnsignedLong;
}
same_integer k.LongLong = record {
  size = refl;
  is_read = refl;
  value = λ s a. refl;
  bytes = λ z. refl;
  converted =
      converted_same k.LongLong;
}
same_integer k.UnsignedLongLong = record {
  size = refl;
  is_read = refl;
  value = λ s a. refl;
  bytes = λ z. refl;
  converted = converted_same k.UnsignedLongLong;
}

pub same_pointer : SameType class.Pointer 8 v.Pointer
same_pointer = record { size = refl; is_read = refl; value = λ s a. refl; bytes = λ z. refl; converted = λ z. refl }

pub same_block : (number n : ℕ) → SameType (class.Aggregate number) n (v.Block n)
same_block number n = record {
  size = refl;
  is_read = refl;
  value = λ s a. refl;
  bytes = λ z. refl;
  converted = λ z.
      refl;
}

-- what is of another type is taken by its bytes
pub same_floating : (n : ℕ) → SameType class.Floating n (v.Block n)
same_floating n = record {
  size = refl;
  is_read = refl;
  value = λ s a. refl;
  bytes = λ z. refl;
  converted = λ z. refl;
}

pub same_opaque : (n : ℕ) → SameType class.Opaque n (v.Block n)
same_opaque n = record {
  size = refl;
  is_read = refl;
  value = λ s a. refl;
  bytes = λ z. refl;
  converted = λ z. refl;
}

-- ---- how values are stored

pub stores_same : (c : Class) (n : ℕ) (t : ValueType) → SameType c n t → StoresAs c n t
stores_same c n t h = record { size = h.size; bytes = h.bytes; converted = h.converted }

as_block : (c : Class) (n : ℕ) → ((z : ℤ) → core.bytes_of_value (v.Block n) z ≡ values.bytes_of_value c z)
    → ((z : ℤ) → core.converted_to (v.Block n) z ≡ values.converted_to c z) → StoresAs c n (v.Block n)
as_block c n bytes converted = record { size = refl; bytes = bytes; converted = converted }

by_class : (c : Class) (size : Option ℕ) → StoresAs c (values.bytes_as c size) (value_type c (values.bytes_as c size))
by_class (class.Integer kind) size =
    stores_same (class.Integer kind) (integers.bytes_of kind) (integer_type kind) (same_integer kind)
by_class class.Pointer size = stores_same class.Pointer 8 v.Pointer same_pointer
by_class class.Void size = record { size = refl; bytes = λ z. refl; converted = λ z. refl }
by_class class.Floating size = as_block class.Floating (values.bytes_as class.Floating size) (λ z. refl) (λ z. refl)
by_class class.Array size = as_block class.Array (values.bytes_as class.Array size) (λ z. refl) (λ z. refl)
by_class class.Function size = as_block class.Function (values.bytes_as class.Function size) (λ z. refl) (λ z. refl)
by_class (class.Aggregate number) size =
    as_block (class.Aggregate number) (values.bytes_as (class.Aggregate number) size) (λ z. refl) (λ z. refl)
by_class class.Opaque size = as_block class.Opaque (values.bytes_as class.Opaque size) (λ z. refl) (λ z. refl)

-- an object of any type is stored as a value of its class and bytes
pub stored_in : (tables : Tables) (t : Option CType)
    → StoresAs (values.class_in t) (values.bytes_of tables t) (value_type (values.class_in t) (values.bytes_of tables t))
stored_in tables None = by_class class.Void None
stored_in tables (Some t) = by_class (class_of t) (size_of tables t)

pub stored_by : (tables : Tables) (x : Typed)
    → StoredAs tables x (value_type (values.class_in (type_of x)) (values.bytes_of tables (type_of x)))
stored_by tables x = record {
  class = values.class_in (type_of x);
  bytes = values.bytes_of tables (type_of x);
  is_class = refl;
  has_bytes = refl;
  same = stored_in tables (type_of x);
}

pub stored_of : (tables : Tables) (x : Typed) (t : ValueType) → OfType tables x t → StoredAs tables x t
stored_of tables x t h = record {
  class = h.class;
  bytes = h.bytes;
  is_class = h.is_class;
  has_bytes = h.has_bytes;
  same = stores_same h.class h.bytes t h.same;
}

-- ---- an object read

load_by : (t : ValueType) (c : Class) (n at : ℕ) (rooted : Bool) (a : ℕ) (d : State) → SameType c n t
    → memory.load (record { at = at; stored = t; is_tested = not rooted }) a (as_done d) ≡ as_found
    (objects.load_as c n at rooted a d)
load_by t c n at true a d h =
    ap (λ m. as_found (Ok (core.value_of_bytes t (read m d.store a), d))) h.size ∙ ap (λ z. as_found (Ok (z, d)))
    (h.value d.store a)
load_by t c n at false a d h =
    test_same (can_access d.store a (core.size_of t)) _ _ (Ok (
      core.value_of_bytes t
          (read (core.size_of t) d.store a),
      d,
    )) (stop at undefined.Dereference d) refl refl
    ∙ ap (λ m. as_found (cond (can_access d.store a m) (Ok (core.value_of_bytes t (read m d.store a), d))
    (stop at undefined.Dereference d))) h.size
    ∙ ap₂ (λ b z. as_found (cond (not b || can_access d.store a n) (Ok (z, d)) (stop at undefined.Dereference d)))
    (sym h.is_read) (h.value d.store a)

pub load_same : (x : Typed) (t : ValueType) (rooted : Bool) (a : ℕ) (d : State) → OfType x.after.tables x t
    → memory.load (record { at = x.at; stored = t; is_tested = not rooted }) a (as_done d) ≡ as_found
    (objects.load x rooted a d)
load_same x t rooted a d h =
    load_by t h.class h.bytes x.at rooted a d h.same
    ∙ ap₂ (λ c n. as_found (objects.load_as c n x.at rooted a d)) (sym h.is_class) (sym h.has_bytes)

-- ---- an object written

put_by : (t : ValueType) (c : Class) (n at operator : ℕ) (rooted : Bool) (a : ℕ) (z : ℤ) (d : State) → StoresAs c n t
    → memory.put operator (record { at = at; stored = t; is_tested = not rooted }) a z (as_done d)
    ≡ as_found (objects.put_as c n at operator rooted a (values.converted_to c z) d)
put_by t c n at operator true a z d h =
    ap (λ m. as_found (Ok (
      core.converted_to t z,
      with_store (write m a
          (core.bytes_of_value t (core.converted_to t z)) d.store) d,
    ))) h.size
    ∙ ap (λ b. as_found (Ok (core.converted_to t z, with_store (write n a b d.store) d)))
    (h.bytes (core.converted_to t z))
    ∙ ap (λ y. as_found (Ok (y, with_store (write n a (values.bytes_of_value c y) d.store) d))) (h.converted z)
put_by t c n at operator false a z d h =
    test_same (can_access d.store a (core.size_of t)) _ _
    (cond (can_write d.store a (core.size_of t))
    (Ok (
      core.converted_to t z,
      with_store (write (core.size_of t) a (core.bytes_of_value t (core.converted_to t z))
          d.store) d,
    ))
    (stop operator undefined.LiteralWrite d))
    (stop at undefined.Dereference d)
    (test_same (can_write d.store a (core.size_of t)) _ _
    (Ok (
      core.converted_to t z,
      with_store (write (core.size_of t) a (core.bytes_of_value t (core.converted_to t z))
          d.store) d,
    ))
    (stop operator undefined.LiteralWrite d) refl refl)
    refl
    ∙ ap (λ m. as_found (cond (can_access d.store a m) (cond (can_write d.store a m)
    (Ok (core.converted_to t z, with_store (write m a (core.bytes_of_value t (core.converted_to t z)) d.store) d))
    (stop operator undefined.LiteralWrite d)) (stop at undefined.Dereference d))) h.size
    ∙ ap (λ b. as_found (cond (can_access d.store a n) (cond (can_write d.store a n)
    (Ok (core.converted_to t z, with_store (write n a b d.store) d))
    (stop operator undefined.LiteralWrite d)) (stop at undefined.Dereference d))) (h.bytes (core.converted_to t z))
    ∙ ap (λ y. as_found (cond (can_access d.store a n) (cond (can_write d.store a n)
    (Ok (y, with_store (write n a (values.bytes_of_value c y) d.store) d))
    (stop operator undefined.LiteralWrite d)) (stop at undefined.Dereference d))) (h.converted z)

pub put_same : (operator : ℕ) (tables : Tables) (x : Typed) (t : ValueType) (rooted : Bool) (a : ℕ) (z : ℤ)
    (d : State) → StoredAs tables x t
    → memory.put operator (record { at = x.at; stored = t; is_tested = not rooted }) a z (as_done d)
    ≡ as_found (objects.put operator tables x rooted a z d)
put_same operator tables x t rooted a z d h =
    put_by t h.class h.bytes x.at operator rooted a z d h.same
    ∙ ap₂ (λ c n. as_found (objects.put_as c n x.at operator rooted a (values.converted_to c z) d)) (sym h.is_class)
    (sym h.has_bytes)
