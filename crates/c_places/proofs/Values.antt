-- Reading, writing and reckoning meet no place.
use Rattle.std.proofs.Common.{ℕ, ℤ, pos, negsuc, ◌+ℤ◌, ◌*ℤ◌, neg_ℤ, Bool, true, false, cond, Option, Some, None}
use Rattle.std.proofs.Common.{Ok, Err, le_refl}
use Rattle.std.specs.Prelude.{◌-ℤ◌, not, ◌||◌, nat_lt, nat_le, nat_eq}
use Rattle.plain_data.specs.declared.run.Undefined.TheVariants.{Dereference, LiteralWrite, PointerRange, PointerOrder}
use Rattle.c_language.specs.Integers.{promoted, usual, number_of}
use Rattle.c_store.specs.Store.{write}
use Rattle.c_store.specs.Access.{can_access, can_write, in_one_object}
use Rattle.c_language.specs.declared.expr.BinaryOperator.{BinaryOperator}
use Rattle.c_language.specs.declared.expr.BinaryOperator.TheVariants as o
use Rattle.c_language.specs.declared.expr.UnaryOperator.{UnaryOperator}
use Rattle.c_language.specs.declared.ctype.IntegerKind.{IntegerKind}
use Rattle.c_language.specs.declared.tables.Tables.{Tables}
use Rattle.c_language.specs.Operators.{Answer}
use Rattle.c_language.specs.Typing.{Typed, type_of, worked, turned}
use Rattle.c_means.specs.Parts.{State, Outcome, stop, or_stop, with_store}
use Rattle.c_means.specs.Values.{address, class_in, bytes_of, converted_to, bytes_of_value}
use Rattle.c_means.specs.Objects.{load, put, is_read, value_at}
use Rattle.c_means.specs.Operators.{Operand, operand, on_integers, arithmetic, shift, addition_of, subtraction_of}
use Rattle.c_means.specs.Operators.{relation, equality}
use Rattle.c_means.specs.Operators.{are_integers, operated, operated_on, turned_of, turned_value}
use Rattle.c_means.specs.Pointers.{moved_to, moved, ordered, apart, elements_in}
use Rattle.c_places.proofs.Counts.{met, AddsTo, Quiet}

pub either : {A : Type 0} (p i j before : ℕ) (c : Bool) (x y : Outcome A) →
    AddsTo p i j before x → AddsTo p i j before y → AddsTo p i j before (cond c x y)
either p i j before true x y hx hy = hx
either p i j before false x y hx hy = hy

pub loads : (p : ℕ) (x : Typed) (rooted : Bool) (a : ℕ) (d : State) → Quiet p d (load x rooted a d)
loads p x rooted a d i =
    let c = class_in (type_of x) in
    let n = bytes_of x.after.tables (type_of x) in
    either p i i (met p d) (rooted || not (is_read c) || can_access d.store a n) (Ok (value_at c n d.store a, d))
    (stop x.at Dereference d) (record { holds = le_refl _ }) (record { holds = le_refl _ })

pub puts : (p at : ℕ) (tables : Tables) (x : Typed) (rooted : Bool) (a : ℕ) (z : ℤ) (d : State) →
    Quiet p d (put at tables x rooted a z d)
puts p at tables x rooted a z d i =
    let c = class_in (type_of x) in
    let n = bytes_of tables (type_of x) in
    let stored : Outcome ℤ =
    Ok (converted_to c z, with_store (write n a (bytes_of_value c (converted_to c z)) d.store) d) in
    let access : Bool = rooted || can_access d.store a n in
    let writes : Bool = rooted || can_write d.store a n in
    either p i i (met p d) access (cond writes stored (stop at LiteralWrite d)) (stop x.at Dereference d)
    (either p i i (met p d) writes stored (stop at LiteralWrite d) (record { holds = le_refl _ })
    (record { holds = le_refl _ })) (record { holds = le_refl _ })

answered : (p at : ℕ) (x : Answer) (d : State) → Quiet p d (or_stop at x d)
answered p at (Ok z) d i = record { holds = le_refl _ }
answered p at (Err u) d i = record { holds = le_refl _ }

integers : (p : ℕ) (a b : Option IntegerKind) (f : IntegerKind → IntegerKind → Answer) (at : ℕ) (d : State) →
    Quiet p d (on_integers a b f at d)
integers p (Some a) (Some b) f at d i = answered p at (f a b) d i
integers p (Some a) None f at d i = record { holds = le_refl _ }
integers p None b f at d i = record { holds = le_refl _ }

reckons : (p at : ℕ) (op : BinaryOperator) (x y : Operand) (d : State) → Quiet p d (arithmetic at op x y d)
reckons p at op x y d i =
    integers p x.kind y.kind (λ a b. worked op (usual a b) x.value y.value) at d i

shifts : (p at : ℕ) (op : BinaryOperator) (x y : Operand) (d : State) → Quiet p d (shift at op x y d)
shifts p at op x y d i =
    integers p x.kind y.kind (λ a b. worked op (promoted a) x.value y.value) at d i

moves_to : (p at from : ℕ) (z : ℤ) (d : State) → Quiet p d (moved_to at from z d)
moves_to p at from (negsuc n) d i = record { holds = le_refl _ }
moves_to p at from (pos to) d i =
    either p i i (met p d) (in_one_object d.store from to) (Ok (pos to, d)) (stop at PointerRange d)
    (record { holds = le_refl _ })
    (record { holds = le_refl _ })

moves : (p at size : ℕ) (z : ℤ) (a : ℕ) (d : State) → Quiet p d (moved at size z a d)
moves p at size z a d i = moves_to p at a (pos a +ℤ z *ℤ pos size) d i

orders : (p at : ℕ) (order : ℕ → ℕ → Bool) (a b : ℕ) (d : State) → Quiet p d (ordered at order a b d)
orders p at order a b d i =
    either p i i (met p d) (in_one_object d.store a b) (Ok (number_of (order a b), d)) (stop at PointerOrder d)
    (record { holds = le_refl _ }) (record { holds = le_refl _ })

parts : (p at size a b : ℕ) (d : State) → Quiet p d (apart at size a b d)
parts p at size a b d i =
    either p i i (met p d) (in_one_object d.store a b) (Ok (elements_in (pos a -ℤ pos b) size, d))
    (stop at PointerOrder d) (record { holds = le_refl _ }) (record { holds = le_refl _ })

adds : (p : ℕ) (a b : Option IntegerKind) (at : ℕ) (x y : Operand) (d : State) → Quiet p d (addition_of a b at x y d)
adds p (Some a) (Some b) at x y d i = reckons p at o.Add x y d i
adds p None (Some b) at x y d i = moves p at x.element y.value (address x.value) d i
adds p (Some a) None at x y d i = moves p at y.element x.value (address y.value) d i
adds p None None at x y d i = record { holds = le_refl _ }

subtracts : (p : ℕ) (a b : Option IntegerKind) (at : ℕ) (x y : Operand) (d : State) →
    Quiet p d (subtraction_of a b at x y d)
subtracts p (Some a) (Some b) at x y d i = reckons p at o.Subtract x y d i
subtracts p None (Some b) at x y d i = moves p at x.element (neg_ℤ y.value) (address x.value) d i
subtracts p None None at x y d i = parts p at x.element (address x.value) (address y.value) d i
subtracts p (Some a) None at x y d i = record { holds = le_refl _ }

relates : (p at : ℕ) (op : BinaryOperator) (order : ℕ → ℕ → Bool) (x y : Operand) (d : State) →
    Quiet p d (relation at op order x y d)
relates p at op order x y d i =
    either p i i (met p d) (are_integers x.kind y.kind) (arithmetic at op x y d)
    (ordered at order (address x.value) (address y.value) d) (reckons p at op x y d i)
    (orders p at order (address x.value) (address y.value) d i)

equals : (p at : ℕ) (op : BinaryOperator) (same : ℕ → ℕ → Bool) (x y : Operand) (d : State) →
    Quiet p d (equality at op same x y d)
equals p at op same x y d i =
    either p i i (met p d) (are_integers x.kind y.kind) (arithmetic at op x y d)
    (Ok (number_of (same (address x.value) (address y.value)), d)) (reckons p at op x y d i)
    (record { holds = le_refl _ })

pub operates : (p at : ℕ) (op : BinaryOperator) (x y : Operand) (d : State) → Quiet p d (operated at op x y d)
operates p at o.Multiply x y d i = reckons p at o.Multiply x y d i
operates p at o.Divide x y d i = reckons p at o.Divide x y d i
operates p at o.Remainder x y d i = reckons p at o.Remainder x y d i
operates p at o.Add x y d i = adds p x.kind y.kind at x y d i
operates p at o.Subtract x y d i = subtracts p x.kind y.kind at x y d i
operates p at o.ShiftLeft x y d i = shifts p at o.ShiftLeft x y d i
operates p at o.ShiftRight x y d i = shifts p at o.ShiftRight x y d i
operates p at o.Less x y d i = relates p at o.Less nat_lt x y d i
operates p at o.Greater x y d i = relates p at o.Greater (λ a b. nat_lt b a) x y d i
operates p at o.LessEqual x y d i = relates p at o.LessEqual nat_le x y d i
operates p at o.GreaterEqual x y d i = relates p at o.GreaterEqual (λ a b. nat_le b a) x y d i
operates p at o.Equal x y d i = equals p at o.Equal nat_eq x y d i
operates p at o.NotEqual x y d i = equals p at o.NotEqual (λ a b. not (nat_eq a b)) x y d i
operates p at o.BitAnd x y d i = reckons p at o.BitAnd x y d i
operates p at o.BitXor x y d i = reckons p at o.BitXor x y d i
operates p at o.BitOr x y d i = reckons p at o.BitOr x y d i
operates p at o.LogicalAnd x y d i = record { holds = le_refl _ }
operates p at o.LogicalOr x y d i = record { holds = le_refl _ }

pub turns : (p at : ℕ) (op : UnaryOperator) (x : Operand) (d : State) → Quiet p d (turned_value at op x d)
turns p at op x d i = by_kind x.kind
  where
    by_kind : (k : Option IntegerKind) → AddsTo p i i (met p d) (turned_of at op k x.value d)
    by_kind None = record { holds = le_refl _ }
    by_kind (Some a) = answered p at (turned op (promoted a) x.value) d i

pub operates_on : (p at : ℕ) (op : BinaryOperator) (x y : Typed) (v z : ℤ) (d : State) →
    Quiet p d (operated_on at op x y v z d)
operates_on p at op x y v z d =
    operates p at op (operand y.after.tables x v) (operand y.after.tables y z) d
