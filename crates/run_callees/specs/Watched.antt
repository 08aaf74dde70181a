-- The types of the core whose values are numbers, as classes of C.
use Rattle.std.specs.Prelude.{◌≡◌, ℕ, None}
use Rattle.c_language.specs.declared.class.Class.{Class}
use Rattle.c_means.specs.Values.{bytes_as}
use Rattle.c_means.specs.Objects.{value_at}
use Rattle.c_store.specs.Store.{Store, read}
use Rattle.c_machine.specs.Worth.{IsScalar}
use Rattle.core_tree.specs.declared.types.ValueType.{ValueType}
use Rattle.core_tree.specs.Numbers.{size_of, value_of_bytes}

-- an object of the class has as many bytes, and they spell the same value
pub record ClassOf (t : ValueType) (c : Class) : Type 0 where
  pub scalar : IsScalar c
  pub size : bytes_as c None ≡ size_of t
  pub value : (n : ℕ) (s : Store) (a : ℕ) → value_at c n s a ≡ value_of_bytes t (read n s a)
