-- What leaf instructions do with the store, and the undefined kinds that they test (C99 6.3.2.1, 6.5.3.2, 6.5.6, 6.5.8,
-- 6.5.16). An address is taken as a natural number; a pointer's value is one modulo 2^64.
use Rattle.std.specs.Prelude.{ℕ, ℤ, pos, negsuc, ◌+ℤ◌, ◌-ℤ◌, ◌*ℤ◌, neg_ℤ, nat_eq, cond, not, ◌||◌}
use Rattle.plain_data.specs.declared.run.Undefined.TheVariants as undefined
use Rattle.c_language.specs.Integers.{number_of}
use Rattle.c_store.specs.Store.{read, write}
use Rattle.c_store.specs.Access.{can_access, can_write, in_one_object}
use Rattle.c_means.specs.Pointers.{elements_in}
use Rattle.c_means.specs.Values.{address}
use Rattle.core_tree.specs.declared.types.Access.{Access}
use Rattle.core_tree.specs.declared.types.Operator.{Operator}
use Rattle.core_tree.specs.declared.types.Operator.TheVariants as op
use Rattle.core_tree.specs.declared.types.Relation.{Relation}
use Rattle.core_tree.specs.declared.types.ValueType.{ValueType}
use Rattle.core_tree.specs.Numbers.{size_of, converted_to, value_of_bytes, bytes_of_value, worked, in_order}
use Rattle.core_tree.specs.States.{Done, Outcome, found, stop, or_stop, with_store}

-- ---- objects read and written

-- what stands at an address; undefined at the lvalue's token where a byte is in no live object
abbrev pub load : {O : Type 0} → Access → ℕ → Done O → Outcome O ℤ
load x a d =
    cond (not x.is_tested || can_access d.store a (size_of x.stored))
    (found (value_of_bytes x.stored (read (size_of x.stored) d.store a)) d)
    (stop x.at undefined.Dereference d)

-- A value is converted and stored, by the operator that stands at a token; the value is the one that was stored. Of the
-- two undefined kinds the access comes first; a literal is written at the operator.
abbrev pub put : {O : Type 0} → ℕ → Access → ℕ → ℤ → Done O → Outcome O ℤ
put at x a z d =
    cond (not x.is_tested || can_access d.store a (size_of x.stored))
    (cond (not x.is_tested || can_write d.store a (size_of x.stored))
    (found (converted_to x.stored z)
    (with_store (write (size_of x.stored) a (bytes_of_value x.stored (converted_to x.stored z)) d.store) d))
    (stop at undefined.LiteralWrite d))
    (stop x.at undefined.Dereference d)

-- a value stored in an object that is there (C99 6.7.8p11)
abbrev pub stored : {O : Type 0} → ValueType → ℕ → ℤ → Done O → Done O
stored t a z d = with_store (write (size_of t) a (bytes_of_value t (converted_to t z)) d.store) d

-- ---- pointers moved, compared and subtracted

-- both addresses are in, or one past, one live object (C99 6.5.6p8)
abbrev pub moved_to : {O : Type 0} → ℕ → ℕ → ℤ → Done O → Outcome O ℤ
moved_to at from (negsuc n) d = stop at undefined.PointerRange d
moved_to at from (pos to) d =
    cond (in_one_object d.store from to) (found (pos to) d) (stop at undefined.PointerRange d)

-- so many elements of a size further
abbrev pub moved : {O : Type 0} → ℕ → ℕ → ℤ → ℕ → Done O → Outcome O ℤ
moved at size i a d = moved_to at a (pos a +ℤ i *ℤ pos size) d

abbrev pub ordered : {O : Type 0} → ℕ → Relation → ℕ → ℕ → Done O → Outcome O ℤ
ordered at r a b d =
    cond (in_one_object d.store a b) (found (number_of (in_order r a b)) d) (stop at undefined.PointerOrder d)

abbrev pub apart : {O : Type 0} → ℕ → ℕ → ℕ → ℕ → Done O → Outcome O ℤ
apart at size a b d =
    cond (in_one_object d.store a b) (found (elements_in (pos a -ℤ pos b) size) d)
    (stop at undefined.PointerOrder d)

-- ---- operators on two values

abbrev pub operated : {O : Type 0} → ℕ → Operator → ℤ → ℤ → Done O → Outcome O ℤ
operated at (op.Numbers o t) x y d = or_stop at (worked o t x y) d
operated at (op.Forward size) x y d = moved at size y (address x) d
operated at (op.ForwardBy size) x y d = moved at size x (address y) d
operated at (op.Back size) x y d = moved at size (neg_ℤ y) (address x) d
operated at (op.Distance size) x y d = apart at size (address x) (address y) d
operated at (op.Order r) x y d = ordered at r (address x) (address y) d
operated at op.Same x y d = found (number_of (nat_eq (address x) (address y))) d
operated at op.Different x y d = found (number_of (not (nat_eq (address x) (address y)))) d
