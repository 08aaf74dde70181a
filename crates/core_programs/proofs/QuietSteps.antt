-- Reading, writing and reckoning print nothing.
use Rattle.std.proofs.Common.{◌≡◌, ℕ, ℤ, pos, negsuc, ◌+ℤ◌, ◌*ℤ◌, neg_ℤ, Bool, true, false, cond, List, Option, Some}
use Rattle.std.proofs.Common.{None, Ok, Err, refl, ◌∙◌}
use Rattle.std.specs.Prelude.{◌-ℤ◌, not, ◌||◌, nat_lt, nat_le, nat_eq}
use Rattle.plain_data.specs.declared.run.Undefined.TheVariants.{Dereference, LiteralWrite, PointerRange, PointerOrder}
use Rattle.c_language.specs.declared.ctype.IntegerKind.{IntegerKind}
use Rattle.c_language.specs.declared.expr.BinaryOperator.{BinaryOperator}
use Rattle.c_language.specs.declared.expr.BinaryOperator.TheVariants as o
use Rattle.c_language.specs.declared.expr.UnaryOperator.{UnaryOperator}
use Rattle.c_language.specs.declared.tables.Tables.{Tables}
use Rattle.c_language.specs.Integers.{promoted, usual, number_of}
use Rattle.c_language.specs.Operators.{Answer}
use Rattle.c_language.specs.Typing.{Typed, type_of, worked, turned}
use Rattle.c_store.specs.Store.{write}
use Rattle.c_store.specs.Access.{can_access, can_write, in_one_object}
use Rattle.c_means.specs.Parts.{State, Outcome, ◌>>=◌, stop, or_stop, with_store}
use Rattle.c_means.specs.Values.{address, class_in, bytes_of, converted_to, bytes_of_value}
use Rattle.c_means.specs.Objects.{load, put, is_read, value_at}
use Rattle.c_means.specs.Operators.{Operand, operand, on_integers, arithmetic, shift, addition_of, subtraction_of}
use Rattle.c_means.specs.Operators.{relation, equality, are_integers, operated, operated_on, turned_of, turned_value}
use Rattle.c_means.specs.Pointers.{moved_to, moved, ordered, apart, elements_in}

-- ---- outcomes

-- the state behind it, or in which the run ended
abbrev pub state_of : {A : Type 0} → Outcome A → State
state_of (Ok x) = x.1
state_of (Err d) = d

-- there this text is what was printed
pub record Leaves {A : Type 0} (text : List ℕ) (x : Outcome A) : Type 0 where
  pub holds : (state_of x).printed ≡ text

-- a step in front of others
pub bind : {A B : Type 0} (text : List ℕ) (x : Outcome A) (f : A × State → Outcome B) → Leaves text x
    → ((v : A × State) → Leaves v.1.printed (f v)) → Leaves text (x >>= f)
bind text (Ok v) f first then = record { holds = (then v).holds ∙ first.holds }
bind text (Err d) f first then = record { holds = first.holds }

pub either : {A : Type 0} (text : List ℕ) (c : Bool) (x y : Outcome A) → Leaves text x → Leaves text y
    → Leaves text (cond c x y)
either text true x y h g = h
either text false x y h g = g

-- ---- objects

pub loads : (x : Typed) (rooted : Bool) (a : ℕ) (d : State) → Leaves d.printed (load x rooted a d)
loads x rooted a d =
    let c = class_in (type_of x) in
    let n = bytes_of x.after.tables (type_of x) in
    either d.printed (rooted || not (is_read c) || can_access d.store a n) (Ok (value_at c n d.store a, d))
    (stop x.at Dereference d) (record { holds = refl }) (record { holds = refl })

pub puts : (at : ℕ) (tables : Tables) (x : Typed) (rooted : Bool) (a : ℕ) (z : ℤ) (d : State)
    → Leaves d.printed (put at tables x rooted a z d)
puts at tables x rooted a z d =
    let c = class_in (type_of x) in
    let n = bytes_of tables (type_of x) in
    let stored : Outcome ℤ =
    Ok (converted_to c z, with_store (write n a (bytes_of_value c (converted_to c z)) d.store) d) in
    let access : Bool = rooted || can_access d.store a n in
    let writes : Bool = rooted || can_write d.store a n in
    either d.printed access (cond writes stored (stop at LiteralWrite d)) (stop x.at Dereference d)
    (either d.printed writes stored (stop at LiteralWrite d) (record { holds = refl }) (record { holds = refl }))
    (record { holds = refl })

-- ---- operators

answered : (at : ℕ) (x : Answer) (d : State) → Leaves d.printed (or_stop at x d)
answered at (Ok z) d = record { holds = refl }
answered at (Err u) d = record { holds = refl }

integers : (a b : Option IntegerKind) (f : IntegerKind → IntegerKind → Answer) (at : ℕ) (d : State)
    → Leaves d.printed (on_integers a b f at d)
integers (Some a) (Some b) f at d = answered at (f a b) d
integers (Some a) None f at d = record { holds = refl }
integers None b f at d = record { holds = refl }

reckons : (at : ℕ) (op : BinaryOperator) (x y : Operand) (d : State) → Leaves d.printed (arithmetic at op x y d)
reckons at op x y d = integers x.kind y.kind (λ a b. worked op (usual a b) x.value y.value) at d

shifts : (at : ℕ) (op : BinaryOperator) (x y : Operand) (d : State) → Leaves d.printed (shift at op x y d)
shifts at op x y d = integers x.kind y.kind (λ a b. worked op (promoted a) x.value y.value) at d

moves_to : (at from : ℕ) (z : ℤ) (d : State) → Leaves d.printed (moved_to at from z d)
moves_to at from (negsuc n) d = record { holds = refl }
moves_to at from (pos to) d =
    either d.printed (in_one_object d.store from to) (Ok (pos to, d)) (stop at PointerRange d)
    (record { holds = refl }) (record { holds = refl })

moves : (at size : ℕ) (z : ℤ) (a : ℕ) (d : State) → Leaves d.printed (moved at size z a d)
moves at size z a d = moves_to at a (pos a +ℤ z *ℤ pos size) d

orders : (at : ℕ) (order : ℕ → ℕ → Bool) (a b : ℕ) (d : State) → Leaves d.printed (ordered at order a b d)
orders at order a b d =
    either d.printed (in_one_object d.store a b) (Ok (number_of (order a b), d)) (stop at PointerOrder d)
    (record { holds = refl }) (record { holds = refl })

parts : (at size a b : ℕ) (d : State) → Leaves d.printed (apart at size a b d)
parts at size a b d =
    either d.printed (in_one_object d.store a b) (Ok (elements_in (pos a -ℤ pos b) size, d))
    (stop at PointerOrder d) (record { holds = refl }) (record { holds = refl })

adds : (a b : Option IntegerKind) (at : ℕ) (x y : Operand) (d : State) → Leaves d.printed (addition_of a b at x y d)
adds (Some a) (Some b) at x y d = reckons at o.Add x y d
adds None (Some b) at x y d = moves at x.element y.value (address x.value) d
adds (Some a) None at x y d = moves at y.element x.value (address y.value) d
adds None None at x y d = record { holds = refl }

subtracts : (a b : Option IntegerKind) (at : ℕ) (x y : Operand) (d : State)
    → Leaves d.printed (subtraction_of a b at x y d)
subtracts (Some a) (Some b) at x y d = reckons at o.Subtract x y d
subtracts None (Some b) at x y d = moves at x.element (neg_ℤ y.value) (address x.value) d
subtracts None None at x y d = parts at x.element (address x.value) (address y.value) d
subtracts (Some a) None at x y d = record { holds = refl }

relates : (at : ℕ) (op : BinaryOperator) (order : ℕ → ℕ → Bool) (x y : Operand) (d : State)
    → Leaves d.printed (relation at op order x y d)
relates at op order x y d =
    either d.printed (are_integers x.kind y.kind) (arithmetic at op x y d)
    (ordered at order (address x.value) (address y.value) d) (reckons at op x y d)
    (orders at order (address x.value) (address y.value) d)

equals : (at : ℕ) (op : BinaryOperator) (same : ℕ → ℕ → Bool) (x y : Operand) (d : State)
    → Leaves d.printed (equality at op same x y d)
equals at op same x y d =
    either d.printed (are_integers x.kind y.kind) (arithmetic at op x y d)
    (Ok (number_of (same (address x.value) (address y.value)), d)) (reckons at op x y d) (record { holds = refl })

pub operates : (at : ℕ) (op : BinaryOperator) (x y : Operand) (d : State) → Leaves d.printed (operated at op x y d)
operates at o.Multiply x y d = reckons at o.Multiply x y d
operates at o.Divide x y d = reckons at o.Divide x y d
operates at o.Remainder x y d = reckons at o.Remainder x y d
operates at o.Add x y d = adds x.kind y.kind at x y d
operates at o.Subtract x y d = subtracts x.kind y.kind at x y d
operates at o.ShiftLeft x y d = shifts at o.ShiftLeft x y d
operates at o.ShiftRight x y d = shifts at o.ShiftRight x y d
operates at o.Less x y d = relates at o.Less nat_lt x y d
operates at o.Greater x y d = relates at o.Greater (λ a b. nat_lt b a) x y d
operates at o.LessEqual x y d = relates at o.LessEqual nat_le x y d
operates at o.GreaterEqual x y d = relates at o.GreaterEqual (λ a b. nat_le b a) x y d
operates at o.Equal x y d = equals at o.Equal nat_eq x y d
operates at o.NotEqual x y d = equals at o.NotEqual (λ a b. not (nat_eq a b)) x y d
operates at o.BitAnd x y d = reckons at o.BitAnd x y d
operates at o.BitXor x y d = reckons at o.BitXor x y d
operates at o.BitOr x y d = reckons at o.BitOr x y d
operates at o.LogicalAnd x y d = record { holds = refl }
operates at o.LogicalOr x y d = record { holds = refl }

pub operates_on : (at : ℕ) (op : BinaryOperator) (x y : Typed) (v z : ℤ) (d : State)
    → Leaves d.printed (operated_on at op x y v z d)
operates_on at op x y v z d = operates at op (operand y.after.tables x v) (operand y.after.tables y z) d

pub turns : (at : ℕ) (op : UnaryOperator) (x : Operand) (d : State) → Leaves d.printed (turned_value at op x d)
turns at op x d = by_kind x.kind
  where
    by_kind : (k : Option IntegerKind) → Leaves d.printed (turned_of at op k x.value d)
    by_kind None = record { holds = refl }
    by_kind (Some a) = answered at (turned op (promoted a) x.value) d
