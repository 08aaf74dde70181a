-- What an expression does (C99 6.5): one function a form, over what its parts do, from left to right.
use Rattle.std.specs.Prelude.{ℕ, suc, ◌+◌, ◌%◌, ◌^◌, ℤ, pos, Bool, true, false, cond, not, ◌&&◌, List, [], ◌∷◌, ◌++◌}
use Rattle.std.specs.Prelude.{Option, Some, None, is_some, Ok, Err, slice_get, unwrap_or, unsigned_abs}
use Rattle.plain_data.specs.declared.run.Undefined.{Undefined}
use Rattle.plain_data.specs.declared.run.Undefined.TheVariants.{MissingValue}
use Rattle.plain_data.specs.declared.run.Side.TheVariants as side
use Rattle.plain_data.specs.declared.run.Happening.TheVariants as happening
use Rattle.c_language.specs.declared.token.IntegerConstant.{IntegerConstant}
use Rattle.c_language.specs.declared.expr.BinaryOperator.{BinaryOperator}
use Rattle.c_language.specs.declared.expr.BinaryOperator.TheVariants as o
use Rattle.c_language.specs.declared.expr.PostfixOperator.{PostfixOperator}
use Rattle.c_language.specs.declared.expr.PostfixOperator.TheVariants as postfix_
use Rattle.c_language.specs.declared.expr.UnaryOperator.{UnaryOperator}
use Rattle.c_language.specs.declared.expr.UnaryOperator.TheVariants as u
use Rattle.c_language.specs.declared.class.Class.{Class}
use Rattle.c_language.specs.declared.class.Class.TheVariants as class
use Rattle.c_language.specs.declared.ctype.CType.{CType}
use Rattle.c_language.specs.declared.ctype.Derivation.{Derivation}
use Rattle.c_language.specs.declared.ctype.Derivation.TheVariants as derivation
use Rattle.c_language.specs.declared.ctype.IntegerKind.{IntegerKind}
use Rattle.c_language.specs.declared.tables.Member.{Member}
use Rattle.c_language.specs.declared.tables.Signature.{Signature}
use Rattle.c_language.specs.declared.tables.Tables.{Tables}
use Rattle.c_language.specs.Types.{integer, kind_of, class_of}
use Rattle.c_language.specs.Integers.{promoted, is_zero, number_of}
use Rattle.c_language.specs.Layouts.{member_of}
use Rattle.c_store.specs.Store.{start}
use Rattle.c_language.specs.declared.scope.Duration.{Duration}
use Rattle.c_language.specs.declared.scope.Duration.TheVariants as duration
use Rattle.c_language.specs.declared.scope.Entry.{Entry}
use Rattle.c_language.specs.declared.scope.Means.{Means}
use Rattle.c_language.specs.declared.shown.Shown.{Shown}
use Rattle.c_language.specs.declared.scope.Means.TheVariants as means
use Rattle.c_language.specs.Scopes.{Name, Scope}
use Rattle.c_language.specs.Typing.{Typed, NamedType, Arguments, type_of, constant_of, no_arguments, and_argument, told_of}
use Rattle.c_language.specs.Typing.{used}
use Rattle.c_language.specs.Typing as says
use Rattle.c_language.specs.declared.scope.Fault.{Fault}
use Rattle.c_means.specs.Parts.{State, Outcome, Env, Run, Level, Site, Part, ◌>>=◌, note, stop, refused, returned}
use Rattle.c_means.specs.Values.{address, class_in, bytes_of, bytes_within, converted_to, value_of_bytes}
use Rattle.c_means.specs.Marks.{Mark, Calls, sides, stops, unless, operator_kinds, minus_kinds, reads_at, writes_at}
use Rattle.c_means.specs.Objects.{is_read, load, put}
use Rattle.c_means.specs.Operators.{Operand, operand, one, kind_in, value_type, target_in, operated, operated_on}
use Rattle.c_means.specs.Operators.{turned_value, negated, is_scalar_class, works_on}

-- ---- kinds of parts

-- how many nodes a part unrolls to, how many places it takes, and what stands at its tokens
pub record Needs : Type 0 where
  pub size : Level → ℕ
  pub room : Level → ℕ
  pub marks : Level → List Mark

-- a node without parts
abbrev pub alone : Needs
alone = record { size = λ l. 1; room = λ l. 0; marks = λ l. [] }

-- a node over its parts, whose places stand one behind another
abbrev pub over_one : Part → Needs
over_one x = record { size = λ l. suc (x.size l); room = x.room; marks = x.marks }

-- over the address of its part
abbrev pub over_place : Part → Needs
over_place x = record (over_one x) { marks = x.place_marks }

abbrev pub over_both : Part → Part → Needs
over_both x y = record {
  size = λ l. suc (x.size l + y.size l);
  room = λ l. x.room l + y.room l;
  marks = λ l. x.marks l ++ y.marks l;
}

-- over the address of the first of them
abbrev pub over_target : Part → Part → Needs
over_target x y = record (over_both x y) { marks = λ l. x.place_marks l ++ y.marks l }

abbrev pub over_three : Part → Part → Part → Needs
over_three c x y = record {
  size = λ l. suc (c.size l + (x.size l + y.size l));
  room = λ l. c.room l + (x.room l + y.room l);
  marks = λ l. c.marks l ++ (x.marks l ++ y.marks l);
}

-- with what stands at the node's own token
abbrev pub marked : List Mark → Needs → Needs
marked own x = record x { marks = λ l. own ++ x.marks l }

abbrev pub with_own : List Mark → Part → Part
with_own own p = record p { place_marks = λ l. own ++ p.place_marks l; marks = λ l. own ++ p.marks l }

abbrev pub no_text : Level → Option (List ℕ)
no_text l = None

-- what is no lvalue has no address: it is evaluated, and 0 stands for one
abbrev pub nowhere : (Level → Run ℤ) → Level → Run ℕ
nowhere run l env base d = do
  v ← run l env base d
  Ok (0, v.1)

-- a value, whose use makes no difference to what is done
abbrev pub valued : Typed → Needs → (Level → Run ℤ) → Part
valued x needs run = record {
  typed = x;
  is_place = false;
  rooted = false;
  text = no_text;
  size = needs.size;
  room = needs.room;
  place_marks = needs.marks;
  marks = needs.marks;
  reach = nowhere run;
  run = run;
  effect = run;
}

abbrev pub loading : Typed → Bool → (Level → Run ℕ) → Level → Run ℤ
loading x rooted reach l env base d = do
  a ← reach l env base d
  load x rooted a.0 a.1

-- a read that may be of no live object
abbrev pub reading : Typed → Bool → List Mark
reading x rooted = reads_at (is_read (class_in (type_of x))) x.at rooted

-- an lvalue or function, by its address: its value is what stands there
abbrev pub placed : Typed → Bool → Needs → (Level → Run ℕ) → Part
placed x rooted needs reach = record {
  typed = x;
  is_place = true;
  rooted = rooted;
  text = no_text;
  size = needs.size;
  room = needs.room;
  place_marks = needs.marks;
  marks = λ l. reading x rooted ++ needs.marks l;
  reach = reach;
  run = loading x rooted reach;
  effect = loading x rooted reach;
}

-- what breaks a rule, and isn't run
abbrev pub unmeant : Typed → Part
unmeant x = valued x alone (λ l env base d. refused d)

-- ---- constants (C99 6.4.4)

abbrev pub constant : Typed → ℤ → Part
constant x z = valued x alone (λ l env base d. Ok (z, d))

-- C99 6.4.4.1
abbrev pub integer_constant : ℕ → IntegerConstant → Scope → Part
integer_constant at c s = constant (says.integer_constant at c s) (pos c.value)

-- C99 6.4.4.4
abbrev pub character_constant : ℕ → ℤ → Scope → Part
character_constant at value s = constant (says.character_constant at value s) value

-- C99 6.4.4.2: refused, as is all of floating type
abbrev pub floating_constant : ℕ → Scope → Part
floating_constant at s = unmeant (says.floating_constant at s)

-- ---- string literals (C99 6.4.5) and `__func__` (C99 6.4.2.2): the array that was made for this one

abbrev pub made_for : ℕ → Typed → Part
made_for at x = placed x false alone (λ l env base d. Ok (start (l.static at), d))

abbrev pub joined : List (List ℕ) → List ℕ
joined [] = []
joined (piece ∷ pieces) = piece ++ joined pieces

abbrev pub string_literal : ℕ → List (List ℕ) → Scope → Part
string_literal at pieces s =
    record (made_for at (says.string_literal at pieces s)) { text = λ l. Some (joined pieces) }

abbrev pub function_name : ℕ → Option Name → Scope → Part
function_name at name s = made_for at (says.function_name at name s)

-- ---- identifiers (C99 6.5.1p2)

-- an automatic object is the one that this entry of its block made; what has static duration is there once
abbrev pub object_number : Duration → ℕ → Level → Env → ℕ
object_number duration.Automatic at l env = env at
object_number duration.Static at l env = l.static at

abbrev pub object_of : Typed → Duration → ℕ → Part
object_of x duration at = placed x true alone (λ l env base d. Ok (start (object_number duration at l env), d))

-- an object, a function, or an enumeration constant
abbrev pub named_as : Typed → ℕ → Means → Part
named_as x at (means.Object t duration linkage) = object_of x duration at
named_as x at (means.Function t linkage) = object_of x duration.Static at
named_as x at (means.Constant z) = constant x z
named_as x at (means.Typedef t) = unmeant x
named_as x at means.Faulty = unmeant x

abbrev pub identifier : ℕ → Scope → Option Entry → Part
identifier at s None = unmeant (says.identifier at s None)
identifier at s (Some e) = named_as (says.identifier at s (Some e)) e.at e.means

-- ---- operands one behind another

-- both values, the left one first; the places of the right one stand behind those of the left one
abbrev pub both_run : Part → Part → Level → Run (ℤ × ℤ)
both_run x y l env base d = do
  v ← x.run l env base d
  w ← y.run l env (base + x.room l) v.1
  Ok ((v.0, w.0), w.1)

-- what an operator on two values may meet
abbrev pub operand_kinds : BinaryOperator → Typed → Typed → List Undefined
operand_kinds op x y = operator_kinds op (kind_in (value_type x)) (kind_in (value_type y))

-- ---- subscripts (C99 6.5.2.1p2): the target of the sum

abbrev pub subscript : ℕ → Part → Part → Part
subscript at x y = placed (says.subscript at x.typed y.typed) false
    (marked (stops at (operand_kinds o.Add x.typed y.typed)) (over_both x y))
    (λ l env base d. do
      v ← both_run x y l env base d
      a ← operated_on at o.Add x.typed y.typed v.0.0 v.0.1 v.1
      Ok (address a.0, a.1))

-- ---- members (C99 6.5.2.3)

abbrev pub offset_in : Option Member → ℕ
offset_in None = 0
offset_in (Some m) = m.offset

abbrev pub offset_of : Tables → Option CType → Name → ℕ
offset_of tables None name = 0
offset_of tables (Some t) name = offset_in (member_of tables t name)

-- so many bytes behind an address, as a 64-bit number
abbrev pub behind : ℕ → ℕ → ℕ
behind offset a = (a + offset) % 2 ^ 64

-- what bytes of a value that is no lvalue's are worth
abbrev pub part_of_value : ℕ → Typed → ℤ → ℤ
part_of_value offset x z =
    value_of_bytes (class_in (type_of x))
    (bytes_within offset (bytes_of x.after.tables (type_of x)) (unsigned_abs z))

-- C99 6.5.2.3p3: of an lvalue the bytes in it, which has the same root; else some bytes of the value
abbrev pub member_of_lvalue : ℕ → Typed → Part → Part
member_of_lvalue offset x p = placed x p.rooted (over_place p)
    (λ l env base d. do
      a ← p.reach l env base d
      Ok (behind offset a.0, a.1))

abbrev pub member_of_value : ℕ → Typed → Part → Part
member_of_value offset x p = valued x (over_one p)
    (λ l env base d. do
      v ← p.run l env base d
      Ok (part_of_value offset x v.0, v.1))

abbrev pub member_by : Bool → ℕ → Typed → Part → Part
member_by true offset x p = member_of_lvalue offset x p
member_by false offset x p = member_of_value offset x p

-- by the form of the operand: where no rule is broken, a structure that has an address is an lvalue
abbrev pub member : ℕ → Name → Part → Part
member at name p =
    member_by p.is_place (offset_of p.typed.after.tables (type_of p.typed) name) (says.member at name p.typed) p

-- C99 6.5.2.3p4
abbrev pub arrow : ℕ → Name → Part → Part
arrow at name p = placed (says.arrow at name p.typed) false (over_one p)
    (λ l env base d. do
      v ← p.run l env base d
      Ok (behind (offset_of p.typed.after.tables (target_in (value_type p.typed)) name) (address v.0), v.1))

-- ---- objects that are read and written again

-- an integer or a pointer, on which the operator has a meaning beside an operand of this kind
abbrev pub is_updated : BinaryOperator → Typed → Option IntegerKind → Bool
is_updated op x kind = is_scalar_class (class_in (type_of x)) && works_on op (kind_in (type_of x)) kind

-- ---- `++` and `--` (C99 6.5.2.4, 6.5.3.1): the value before, and the value that is stored

-- what can't be updated breaks a rule, and is left as it is
abbrev pub steps_if : Bool → ℕ → BinaryOperator → Part → Level → Run (ℤ × ℤ)
steps_if true at op x l env base d = do
  a ← x.reach l env base d
  v ← load x.typed x.rooted a.0 a.1
  w ← operated at op (operand x.typed.after.tables x.typed v.0) one v.1
  z ← put at x.typed.after.tables x.typed x.rooted a.0 w.0 w.1
  Ok ((v.0, z.0), z.1)
steps_if false at op x l env base d = do
  a ← x.reach l env base d
  Ok ((pos 0, pos 0), a.1)

abbrev pub stepped : ℕ → BinaryOperator → Part → Level → Run (ℤ × ℤ)
stepped at op x = steps_if (is_updated op x.typed one.kind) at op x

-- what is updated is read and written
abbrev pub updating : Bool → ℕ → List Undefined → Part → List Mark
updating true at kinds x = stops at kinds ++ writes_at at x.typed.at x.rooted
updating false at kinds x = []

abbrev pub stepping : ℕ → BinaryOperator → Part → List Mark
stepping at op x =
    updating (is_updated op x.typed one.kind) at (operator_kinds op (kind_in (type_of x.typed)) one.kind) x

abbrev pub postfix_by : ℕ → BinaryOperator → Part → Part
postfix_by at op x = valued (says.postfix at x.typed) (marked (stepping at op x) (over_place x))
    (λ l env base d. do
      v ← stepped at op x l env base d
      Ok (v.0.0, v.1))

-- C99 6.5.2.4p2, p3
abbrev pub postfix : ℕ → PostfixOperator → Part → Part
postfix at postfix_.Increment x = postfix_by at o.Add x
postfix at postfix_.Decrement x = postfix_by at o.Subtract x

abbrev pub prefix : ℕ → UnaryOperator → BinaryOperator → Part → Part
prefix at operator op x = valued (says.unary at operator x.typed) (marked (stepping at op x) (over_place x))
    (λ l env base d. do
      v ← stepped at op x l env base d
      Ok (v.0.1, v.1))

-- ---- unary operators (C99 6.5.3)

-- C99 6.5.3.2p3: of `*p` the pointer, of `a[i]` the sum, and nothing is read
abbrev pub address_of : ℕ → Part → Part
address_of at x = valued (says.unary at u.Address x.typed) (over_place x)
    (λ l env base d. do
      a ← x.reach l env base d
      Ok (pos a.0, a.1))

-- C99 6.5.3.2p4
abbrev pub indirection : ℕ → Part → Part
indirection at x = placed (says.unary at u.Indirection x.typed) false (over_one x)
    (λ l env base d. do
      v ← x.run l env base d
      Ok (address v.0, v.1))

abbrev pub on_value : ℕ → UnaryOperator → (Operand → State → Outcome ℤ) → Part → Part
on_value at operator f x = valued (says.unary at operator x.typed) (over_one x)
    (λ l env base d. do
      v ← x.run l env base d
      f (operand x.typed.after.tables x.typed v.0) v.1)

-- what `-` may meet, but for a constant expression
abbrev pub minus_marks : ℕ → Typed → List Mark
minus_marks at x =
    stops at (unless (is_some (constant_of (says.unary at u.Minus x))) (minus_kinds (kind_in (value_type x))))

abbrev pub unary : ℕ → UnaryOperator → Part → Part
unary at u.Address x = address_of at x
unary at u.Indirection x = indirection at x
unary at u.Plus x = on_value at u.Plus (turned_value at u.Plus) x
unary at u.Minus x = with_own (minus_marks at x.typed) (on_value at u.Minus (turned_value at u.Minus) x)
unary at u.Complement x = on_value at u.Complement (turned_value at u.Complement) x
unary at u.Not x = on_value at u.Not negated x
unary at u.Increment x = prefix at u.Increment o.Add x
unary at u.Decrement x = prefix at u.Decrement o.Subtract x

-- ---- `sizeof` (C99 6.5.3.4p2): its operand isn't evaluated, and takes no place

abbrev pub unevaluated : Typed → Part
unevaluated x = constant x (unwrap_or (constant_of x) (pos 0))

abbrev pub size_of_expression : ℕ → Part → Part
size_of_expression at p = unevaluated (says.size_of_expression at p.typed)

abbrev pub size_of_type : ℕ → NamedType → List Fault → Scope → Part
size_of_type at t faults s = unevaluated (says.size_of_type at t faults s)

-- ---- casts (C99 6.5.4p3): to void, the value isn't used (C99 6.3.2.2)

abbrev pub cast_operand : Class → Part → Level → Run ℤ
cast_operand class.Void p = p.effect
cast_operand c p = p.run

abbrev pub cast_as : Class → Typed → Part → Part
cast_as c x p = valued x (over_one p)
    (λ l env base d. do
      v ← cast_operand c p l env base d
      Ok (converted_to c v.0, v.1))

-- of the named type, whether or not a rule is broken
abbrev pub named_class : NamedType → Class
named_class None = class.Void
named_class (Some (Err r)) = class.Void
named_class (Some (Ok t)) = class_of t

abbrev pub cast : ℕ → NamedType → List Fault → Part → Part
cast at t faults p = cast_as (named_class t) (says.cast at t faults p.typed) p

-- ---- binary operators

-- C99 6.5.5 to 6.5.12
abbrev pub both_evaluated : ℕ → BinaryOperator → Part → Part → Part
both_evaluated at op x y = valued (says.binary at op x.typed y.typed)
    (marked (stops at (unless (is_some (constant_of (says.binary at op x.typed y.typed)))
    (operand_kinds op x.typed y.typed))) (over_both x y))
    (λ l env base d. do
      v ← both_run x y l env base d
      operated_on at op x.typed y.typed v.0.0 v.0.1 v.1)

-- a value is taken as a condition, and the branch is noted
abbrev pub on_branch : {A : Type 0} → ℕ → ℤ → (Bool → State → A) → State → A
on_branch at z f d =
    cond (is_zero z) (f false (note (happening.Branch at side.No) d)) (f true (note (happening.Branch at side.Yes) d))

abbrev pub truth_of : Part → Level → Run ℤ
truth_of y l env base d = do
  w ← y.run l env base d
  Ok (number_of (not (is_zero w.0)), w.1)

-- C99 6.5.13p4: the right operand isn't evaluated where the left one is 0
abbrev pub and_then : Part → Level → Env → ℕ → Bool → State → Outcome ℤ
and_then y l env base true d = truth_of y l env base d
and_then y l env base false d = Ok (pos 0, d)

-- C99 6.5.14p4: nor where it isn't 0
abbrev pub or_else : Part → Level → Env → ℕ → Bool → State → Outcome ℤ
or_else y l env base true d = Ok (pos 1, d)
or_else y l env base false d = truth_of y l env base d

abbrev pub logical :
    ℕ → BinaryOperator → (Part → Level → Env → ℕ → Bool → State → Outcome ℤ) → Part → Part → Part
logical at op f x y = valued (says.binary at op x.typed y.typed) (marked (sides at) (over_both x y))
    (λ l env base d. do
      v ← x.run l env base d
      on_branch at v.0 (f y l env (base + x.room l)) v.1)

abbrev pub binary : ℕ → BinaryOperator → Part → Part → Part
binary at o.LogicalAnd x y = logical at o.LogicalAnd and_then x y
binary at o.LogicalOr x y = logical at o.LogicalOr or_else x y
binary at op x y = both_evaluated at op x y

-- ---- the conditional operator (C99 6.5.15p4): one of the two is evaluated, and converted to the type of both

abbrev pub chosen : Class → Part → Part → Level → Env → ℕ → Bool → State → Outcome ℤ
chosen c x y l env base true d = do
  v ← x.run l env base d
  Ok (converted_to c v.0, v.1)
chosen c x y l env base false d = do
  v ← y.run l env (base + x.room l) d
  Ok (converted_to c v.0, v.1)

abbrev pub choice_as : ℕ → Typed → Part → Part → Part → Part
choice_as at t c x y = valued t (marked (sides at) (over_three c x y))
    (λ l env base d. do
      v ← c.run l env base d
      on_branch at v.0 (chosen (class_in (type_of t)) x y l env (base + c.room l)) v.1)

abbrev pub choice : ℕ → Part → Part → Part → Part
choice at c x y = choice_as at (says.choice at c.typed x.typed y.typed) c x y

-- ---- assignment (C99 6.5.16)

-- C99 6.5.16.1p2: the target, the value, and the store
abbrev pub simple : ℕ → Part → Part → Level → Run ℤ
simple at x y l env base d = do
  a ← x.reach l env base d
  w ← y.run l env (base + x.room l) a.1
  put at y.typed.after.tables x.typed x.rooted a.0 w.0 w.1

-- C99 6.5.16.2p3: the target is evaluated once, and its value is taken before the right operand is evaluated; what
-- can't be updated breaks a rule, and is left as it is
abbrev pub compound_if : Bool → ℕ → BinaryOperator → Part → Part → Level → Run ℤ
compound_if true at op x y l env base d = do
  a ← x.reach l env base d
  v ← load x.typed x.rooted a.0 a.1
  w ← y.run l env (base + x.room l) v.1
  z ← operated_on at op x.typed y.typed v.0 w.0 w.1
  put at y.typed.after.tables x.typed x.rooted a.0 z.0 z.1
compound_if false at op x y l env base d = do
  a ← x.reach l env base d
  w ← y.run l env (base + x.room l) a.1
  refused w.1

abbrev pub compound : ℕ → BinaryOperator → Part → Part → Level → Run ℤ
compound at op x y = compound_if (is_updated op x.typed (kind_in (value_type y.typed))) at op x y

abbrev pub assigned : ℕ → Option BinaryOperator → Part → Part → Level → Run ℤ
assigned at None x y = simple at x y
assigned at (Some op) x y = compound at op x y

abbrev pub storing : ℕ → Option BinaryOperator → Part → Part → List Mark
storing at None x y = writes_at at x.typed.at x.rooted
storing at (Some op) x y =
    let kind = kind_in (value_type y.typed) in
    updating (is_updated op x.typed kind) at (operator_kinds op (kind_in (type_of x.typed)) kind) x

abbrev pub assignment : ℕ → Option BinaryOperator → Part → Part → Part
assignment at op x y = valued (says.assignment at op x.typed y.typed) (marked (storing at op x y) (over_target x y))
    (assigned at op x y)

-- ---- the comma operator (C99 6.5.17p2): the left operand's value isn't used

abbrev pub comma : ℕ → Part → Part → Part
comma at x y = valued (says.comma at x.typed y.typed) (over_both x y)
    (λ l env base d. do
      v ← x.effect l env base d
      y.run l env (base + x.room l) v.1)

-- ---- calls (C99 6.5.2.2)

-- an argument, and the type to which it is converted
pub record Passed : Type 0 where
  pub part : Part
  pub ctype : Option CType

abbrev pub promoted_as : CType → Option IntegerKind → CType
promoted_as t None = t
promoted_as t (Some kind) = integer (promoted kind)

abbrev pub promoted_type : Option CType → Option CType
promoted_type None = None
promoted_type (Some t) = Some (promoted_as t (kind_of t))

-- to the type of the parameter, or where none is declared to the promoted type (C99 6.5.2.2p4, p6, p7)
abbrev pub passed : List Part → List CType → List Passed
passed [] ts = []
passed (p ∷ ps) [] = record { part = p; ctype = promoted_type (value_type p.typed) } ∷ passed ps []
passed (p ∷ ps) (t ∷ ts) = record { part = p; ctype = Some t } ∷ passed ps ts

abbrev pub parameters_in : Option Signature → List CType
parameters_in None = []
parameters_in (Some g) = g.parameters

abbrev pub parameters_from : Tables → List Derivation → List CType
parameters_from tables (derivation.Function n ∷ ds) = parameters_in (slice_get tables.signatures n)
parameters_from tables _ = []

-- the types of the parameters that a function's type declares
abbrev pub parameters_of : Tables → Option CType → List CType
parameters_of tables None = []
parameters_of tables (Some t) = parameters_from tables t.derivations

abbrev pub all_sizes : List Passed → Level → ℕ
all_sizes [] l = 0
all_sizes (q ∷ qs) l = q.part.size l + all_sizes qs l

abbrev pub all_rooms : List Passed → Level → ℕ
all_rooms [] l = 0
all_rooms (q ∷ qs) l = q.part.room l + all_rooms qs l

-- from left to right, each converted before the next is evaluated
abbrev pub arguments : List Passed → Level → Run (List ℤ)
arguments [] l env base d = Ok ([], d)
arguments (q ∷ qs) l env base d = do
  v ← q.part.run l env base d
  vs ← arguments qs l env (base + q.part.room l) v.1
  Ok (converted_to (class_in q.ctype) v.0 ∷ vs.0, vs.1)

abbrev pub all_marks : List Passed → Level → List Mark
all_marks [] l = []
all_marks (q ∷ qs) l = q.part.marks l ++ all_marks qs l

abbrev pub passed_types : List Passed → List (Option CType)
passed_types [] = []
passed_types (q ∷ qs) = q.ctype ∷ passed_types qs

abbrev pub passed_texts : List Passed → Level → List (Option (List ℕ))
passed_texts [] l = []
passed_texts (q ∷ qs) l = q.part.text l ∷ passed_texts qs l

abbrev pub site : ℕ → Entry → Typed → List Passed → Level → Site
site at callee x qs l = record {
  at = at;
  callee = callee;
  ctype = type_of x;
  types = passed_types qs;
  texts = passed_texts qs l;
  scope = x.after;
}

-- the arguments, the event, and what the function does
abbrev pub calling : (Level → Site) → List Passed → Level → Run (Option ℤ)
calling g qs l env base d = do
  vs ← arguments qs l env base d
  acting (g l) l env vs.0 (base + all_rooms qs l) (note (happening.Call (g l).at) vs.1)
  where
    acting : Site → Level → Env → List ℤ → ℕ → State → Outcome (Option ℤ)
    acting g l env vs base d = returned d (l.call g env vs base d.store d.count)

-- a function that returns a value must have given one where it is used (C99 6.9.1p12)
abbrev pub needed : ℕ → Class → Option ℤ → State → Outcome ℤ
needed at c (Some z) d = Ok (z, d)
needed at class.Void None d = Ok (pos 0, d)
needed at c None d = stop at MissingValue d

-- what an identity function hands on is a literal where its argument is one
abbrev pub text_at : Option ℕ → List (Option (List ℕ)) → Option (List ℕ)
text_at None texts = None
text_at (Some i) texts = unwrap_or (slice_get texts i) None

abbrev pub answered : ℕ → Typed → (Level → Site) → List Passed → Level → Run ℤ
answered at x g qs l env base d = do
  v ← calling g qs l env base d
  needed at (class_in (type_of x)) v.0 v.1

-- it is a call, and what its rule says
abbrev pub call_marks : Site → Level → List Mark
call_marks g l = Calls g.at ∷ l.marks g

abbrev pub direct_call : ℕ → Typed → (Level → Site) → List Passed → Part
direct_call at x g qs = record {
  typed = x;
  is_place = false;
  rooted = false;
  text = λ l. text_at (l.identity (g l).callee.name) (g l).texts;
  size = λ l. suc (all_sizes qs l + l.size (g l));
  room = λ l. all_rooms qs l + l.room (g l);
  place_marks = λ l. call_marks (g l) l ++ all_marks qs l;
  marks = λ l. call_marks (g l) l ++ all_marks qs l;
  reach = nowhere (answered at x g qs);
  run = answered at x g qs;
  effect = λ l env base d. do
    v ← calling g qs l env base d
    Ok (unwrap_or v.0 (pos 0), v.1);
}

abbrev pub call_of : Option Entry → Typed → Typed → List Passed → Part
call_of None f x qs = unmeant x
call_of (Some e) f x qs = direct_call f.at x (site f.at e x qs) qs

-- what the arguments say to the types, behind those before them
abbrev pub arguments_said : Arguments → List Part → Arguments
arguments_said xs [] = xs
arguments_said xs (p ∷ ps) = arguments_said (and_argument xs (told_of (used p.typed))) ps

abbrev pub designated : Option Shown → Option Entry
designated None = None
designated (Some x) = x.designates

-- the callee is a name, perhaps in parentheses: every other call is refused, as one by a pointer is
abbrev pub call : ℕ → Part → List Part → Scope → Part
call at f ps s =
    call_of (designated f.typed.shown) f.typed (call_said at f.typed ps s)
    (passed ps (parameters_of s.tables (type_of f.typed)))
  where
    call_said : ℕ → Typed → List Part → Scope → Typed
    call_said at f ps s = says.call at f.at f.shown (arguments_said (no_arguments f.faults) ps) s
