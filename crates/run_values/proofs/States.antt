-- What a step of the machine answers by C's states it answers by the core's.
use Rattle.std.proofs.Common.{◌≡◌, ℕ, ℤ, pos, Bool, true, false, cond, Option, Result, Ok, Err, refl, sym, ap, ap₂, ◌∙◌}
use Rattle.std.specs.Prelude.{not, ◌||◌, ◌-ℤ◌, ◌+ℤ◌, ◌*ℤ◌}
use Rattle.plain_data.specs.declared.run.Undefined.TheVariants as undefined
use Rattle.c_language.specs.declared.class.Class.{Class}
use Rattle.c_language.specs.Integers.{number_of}
use Rattle.c_store.specs.Store.{read, write}
use Rattle.c_store.specs.Access.{can_access, can_write, in_one_object}
use Rattle.c_means.specs.Objects as objects
use Rattle.c_means.specs.Parts.{State, stop, with_store}
use Rattle.c_means.specs.Parts as c
use Rattle.c_means.specs.Pointers as pointers
use Rattle.c_means.specs.Values as values
use Rattle.c_machine.specs.declared.halt.Halt.{Halt}
use Rattle.c_machine.specs.declared.halt.Halt.TheVariants.{Over, Memory}
use Rattle.c_machine.specs.declared.value.Value.{Value}
use Rattle.c_machine.specs.States as machine
use Rattle.c_machine.specs.Worth.{worth}
use Rattle.core_tree.specs.declared.types.Access.{Access}
use Rattle.core_tree.specs.declared.types.Relation.{Relation}
use Rattle.core_tree.specs.declared.types.ValueType.{ValueType}
use Rattle.core_tree.specs.declared.types.ValueType.TheVariants as v
use Rattle.core_tree.specs.Memory as memory
use Rattle.core_tree.specs.Numbers as core
use Rattle.core_tree.specs.States.{Output, Outcome, found}
use Rattle.core_tree.specs.States as states
use Rattle.core_running.specs.Running.{RunsTo, RunsWorth}
use Rattle.elaborate.specs.Means.{as_done, as_found}
use Rattle.elaborate.proofs.Pointers.{moved_to_same}
use Rattle.elaborate.proofs.States.{test_same}
use Rattle.run_values.specs.Types.{class_as, size_as}
use Rattle.run_values.proofs.Types.{size_is, converted_as, value_as, bytes_are}

-- an outcome by C's states, and the one by the core's that it is
pub carried :
    {A B : Type 0} (view : A → B) (r : Result A Halt) (d : State) (o : c.Outcome B) (p : Outcome Output B)
    → as_found o ≡ p → machine.RunsTo view r d o → RunsTo view r (as_done d) p
carried view (Ok x) d o p same is = sym same ∙ ap as_found is
carried view (Err Over) d o p same is = sym same ∙ ap as_found is
carried view (Err Memory) d o p same is = tt

-- ---- objects

-- C's test of an object read, for a class that is read
load_tested : (b : Bool) (n at : ℕ) (f : ℕ → ℤ) (a : ℕ) (d : State) →
    as_found (cond (not b || false || can_access d.store a n) (Ok (f (read n d.store a), d)) (stop at undefined.Dereference d))
    ≡ cond (not b || can_access d.store a n) (found (f (read n d.store a)) (as_done d))
    (states.stop at undefined.Dereference (as_done d))
load_tested true n at f a d = sym (test_same (can_access d.store a n) _ _ (Ok (f (read n d.store a), d))
    (stop at undefined.Dereference d) refl refl)
load_tested false n at f a d = refl

load_of : (b : Bool) (n m at : ℕ) (f g : ℕ → ℤ) (a : ℕ) (d : State) → n ≡ m → ((i : ℕ) → f i ≡ g i) →
    as_found (cond (not b || false || can_access d.store a n) (Ok (f (read n d.store a), d)) (stop at undefined.Dereference d))
    ≡ cond (not b || can_access d.store a m) (found (g (read m d.store a)) (as_done d))
    (states.stop at undefined.Dereference (as_done d))
load_of b n m at f g a d size value =
    load_tested b n at f a d
    ∙ ap (λ z. cond (not b || can_access d.store a n) (found z (as_done d)) (states.stop at undefined.Dereference (as_done d)))
    (value (read n d.store a))
    ∙ ap (λ m. cond (not b || can_access d.store a m) (found (g (read m d.store a)) (as_done d))
    (states.stop at undefined.Dereference (as_done d))) size

load_void : (b : Bool) (at a : ℕ) (d : State) →
    as_found (objects.load_as (class_as v.Void) 0 at (not b) a d)
    ≡ memory.load (record { at = at; stored = v.Void; is_tested = b }) a (as_done d)
load_void true at a d = refl
load_void false at a d = refl

load_by : (t : ValueType) (at : ℕ) (b : Bool) (a : ℕ) (d : State) →
    as_found (objects.load_as (class_as t) (values.bytes_as (class_as t) (size_as t)) at (not b) a d)
    ≡ memory.load (record { at = at; stored = t; is_tested = b }) a (as_done d)
load_by v.Void at b a d = load_void b at a d
load_by v.Truth at b a d = load_of b _ _ at _ _ a d (size_is v.Truth) (value_as v.Truth)
load_by (v.Word t) at b a d = load_of b _ _ at _ _ a d (size_is (v.Word t)) (value_as (v.Word t))
load_by v.Pointer at b a d = load_of b _ _ at _ _ a d (size_is v.Pointer) (value_as v.Pointer)
load_by (v.Block bytes) at b a d = load_of b _ _ at _ _ a d (size_is (v.Block bytes)) (value_as (v.Block bytes))

pub load_same : (x : Access) (a : ℕ) (d : State) →
    as_found (objects.load_as (class_as x.stored) (values.bytes_as (class_as x.stored) (size_as x.stored)) x.at
    (not x.is_tested) a d)
    ≡ memory.load x a (as_done d)
load_same x a d = load_by x.stored x.at x.is_tested a d

pub load_runs :
    (x : Access) (class : Class) (size : Option ℕ) (rooted : Bool) (a : ℕ) (r : Result Value Halt) (d e : State)
    → class ≡ class_as x.stored → size ≡ size_as x.stored → rooted ≡ not x.is_tested
    → machine.RunsWorth r e (objects.load_as class (values.bytes_as class size) x.at rooted a d)
    → RunsWorth r (as_done e) (memory.load x a (as_done d))
load_runs x class size rooted a r d e is has tests h =
    carried worth r e (objects.load_as class (values.bytes_as class size) x.at rooted a d) (memory.load x a (as_done d))
    (rw (is, has, tests) (load_same x a d)) h

put_tested : (b : Bool) (n at operator a : ℕ) (bytes : ℕ) (z : ℤ) (d : State) →
    as_found (cond (not b || can_access d.store a n)
    (cond (not b || can_write d.store a n) (Ok (z, with_store (write n a bytes d.store) d))
    (stop operator undefined.LiteralWrite d)) (stop at undefined.Dereference d))
    ≡ cond (not b || can_access d.store a n)
    (cond (not b || can_write d.store a n)
    (found z (states.with_store (write n a bytes d.store) (as_done d)))
    (states.stop operator undefined.LiteralWrite (as_done d)))
    (states.stop at undefined.Dereference (as_done d))
put_tested true n at operator a bytes z d = sym
    (test_same (can_access d.store a n) _ _
    (cond (can_write d.store a n) (Ok (z, with_store (write n a bytes d.store) d))
    (stop operator undefined.LiteralWrite d))
    (stop at undefined.Dereference d)
    (test_same (can_write d.store a n) _ _ (Ok (z, with_store (write n a bytes d.store) d))
    (stop operator undefined.LiteralWrite d) refl refl) refl)
put_tested false n at operator a bytes z d = refl

pub put_same : (operator : ℕ) (x : Access) (a : ℕ) (z : ℤ) (d : State) →
    as_found (objects.put_as (class_as x.stored) (values.bytes_as (class_as x.stored) (size_as x.stored)) x.at operator
    (not x.is_tested) a (values.converted_to (class_as x.stored) z) d)
    ≡ memory.put operator x a z (as_done d)
put_same operator x a z d =
    ap₂ (λ n y. as_found (objects.put_as (class_as x.stored) n x.at operator (not x.is_tested) a y d)) (size_is x.stored)
    (converted_as x.stored z)
    ∙ ap (λ bytes. as_found (cond (not x.is_tested || can_access d.store a (core.size_of x.stored))
    (cond (not x.is_tested || can_write d.store a (core.size_of x.stored))
    (Ok (core.converted_to x.stored z, with_store (write (core.size_of x.stored) a bytes d.store) d))
    (stop operator undefined.LiteralWrite d)) (stop x.at undefined.Dereference d)))
    (bytes_are x.stored (core.converted_to x.stored z))
    ∙ put_tested x.is_tested (core.size_of x.stored) x.at operator a
    (core.bytes_of_value x.stored (core.converted_to x.stored z)) (core.converted_to x.stored z) d

pub put_runs :
    (x : Access) (operator : ℕ) (class : Class) (size : Option ℕ) (rooted : Bool) (a : ℕ) (z : ℤ) (r : Result Value Halt)
    (d e : State)
    → class ≡ class_as x.stored → size ≡ size_as x.stored → rooted ≡ not x.is_tested
    → machine.RunsWorth r e
    (objects.put_as class (values.bytes_as class size) x.at operator rooted a (values.converted_to class z) d)
    → RunsWorth r (as_done e) (memory.put operator x a z (as_done d))
put_runs x operator class size rooted a z r d e is has tests h =
    carried worth r e
    (objects.put_as class (values.bytes_as class size) x.at operator rooted a (values.converted_to class z) d)
    (memory.put operator x a z (as_done d)) (rw (is, has, tests) (put_same operator x a z d)) h

-- ---- pointers

pub moved_same : (at size : ℕ) (count : ℤ) (a : ℕ) (d : State) →
    as_found (pointers.moved at size count a d) ≡ memory.moved at size count a (as_done d)
moved_same at size count a d = sym (moved_to_same at a (pos a +ℤ count *ℤ pos size) d)

pub ordered_same : (at : ℕ) (r : Relation) (holds : Bool) (a b : ℕ) (d : State) → holds ≡ core.in_order r a b →
    as_found (pointers.ordered at (λ a b. holds) a b d) ≡ memory.ordered at r a b (as_done d)
ordered_same at r holds a b d is = sym
    (test_same (in_one_object d.store a b) _ _ (Ok (number_of holds, d)) (stop at undefined.PointerOrder d)
    (ap (λ h. found (number_of h) (as_done d)) (sym is)) refl)

pub apart_same : (at size a b : ℕ) (d : State) →
    as_found (pointers.apart at size a b d) ≡ memory.apart at size a b (as_done d)
apart_same at size a b d = sym
    (test_same (in_one_object d.store a b) _ _ (Ok (pointers.elements_in (pos a -ℤ pos b) size, d))
    (stop at undefined.PointerOrder d) refl refl)
