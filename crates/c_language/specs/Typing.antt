-- What an expression says before it is evaluated (C99 6.5, 6.6): `Typed`, its type as written, its constant value,
-- whether it is an
-- lvalue, the rules that it breaks, and the scope behind it. One function a form, over what its parts say.
--
-- A node that breaks a rule has no type, and a node of which a part has no type breaks no rule itself.
use Rattle.std.specs.Prelude.{
  ℕ,
  zero,
  suc,
  ◌+◌,
  ℤ,
  pos,
  negsuc,
  nat_eq,
  nat_lt,
  Bool,
  true,
  false,
  cond,
  not,
  ◌&&◌,
  ◌||◌,
  List,
  [],
  ◌∷◌,
  ◌++◌,
  length,
  Option,
  Some,
  None,
  Result,
  Ok,
  Err,
  slice_get,
}
use Rattle.plain_data.specs.declared.run.Undefined.{Undefined}
use Rattle.c_language.specs.declared.token.IntegerConstant.{IntegerConstant}
use Rattle.c_language.specs.declared.expr.BinaryOperator.{BinaryOperator}
use Rattle.c_language.specs.declared.expr.BinaryOperator.TheVariants as o
use Rattle.c_language.specs.declared.expr.UnaryOperator.{UnaryOperator}
use Rattle.c_language.specs.declared.expr.UnaryOperator.TheVariants as u
use Rattle.c_language.specs.declared.class.Class.{Class}
use Rattle.c_language.specs.declared.class.Class.TheVariants as class
use Rattle.c_language.specs.declared.ctype.Base.TheVariants as base
use Rattle.c_language.specs.declared.ctype.CType.{CType}
use Rattle.c_language.specs.declared.ctype.Derivation.{Derivation}
use Rattle.c_language.specs.declared.ctype.Derivation.TheVariants as d
use Rattle.c_language.specs.declared.ctype.IntegerKind.{IntegerKind}
use Rattle.c_language.specs.declared.ctype.IntegerKind.TheVariants as k
use Rattle.c_language.specs.declared.ctype.Qualifiers.{Qualifiers}
use Rattle.c_language.specs.declared.tables.Content.{Content}
use Rattle.c_language.specs.declared.tables.Content.TheVariants as content_
use Rattle.c_language.specs.declared.tables.Layout.{Layout}
use Rattle.c_language.specs.declared.tables.Member.{Member}
use Rattle.c_language.specs.declared.tables.OpaqueCause.TheVariants as cause
use Rattle.c_language.specs.declared.tables.Prototype.{Prototype}
use Rattle.c_language.specs.declared.tables.Prototype.TheVariants as prototype_
use Rattle.c_language.specs.declared.tables.Signature.{Signature}
use Rattle.c_language.specs.declared.tables.Tables.{Tables}
use Rattle.c_language.specs.Types.{
  unqualified,
  with_both,
  void,
  integer,
  pointer,
  pointer_to,
  array,
  qualified,
  qualifiers_of,
  is_const,
  unqualified_version,
  target_of,
  returned_of,
  class_of,
  kind_of,
  aggregate_of,
  is_integer,
  is_scalar,
  is_floating,
  is_pointer,
  is_void,
  is_array,
  is_function,
  content_of,
}
use Rattle.c_language.specs.Integers.{promoted, usual, of_constant, converted, is_zero, number_of}
use Rattle.c_language.specs.Layouts.{size_of, is_sized, is_too_large, member_named}
use Rattle.c_language.specs.Compatible.{decayed}
use Rattle.c_language.specs.Operators.{
  Answer,
  sum,
  difference,
  product,
  quotient,
  remainder,
  shifted_left,
  shifted_right,
  bits_and,
  bits_xor,
  bits_or,
  complement,
  negation,
  less,
  less_equal,
  unequal,
  equal,
}
use Rattle.c_language.specs.declared.scope.Entry.{Entry}
use Rattle.c_language.specs.declared.scope.Fault.{Fault}
use Rattle.c_language.specs.declared.scope.LayoutRule.{LayoutRule}
use Rattle.c_language.specs.declared.scope.LayoutRule.TheVariants as layout
use Rattle.c_language.specs.declared.scope.Means.{Means}
use Rattle.c_language.specs.declared.scope.Means.TheVariants as means
use Rattle.c_language.specs.declared.scope.Rule.{Rule}
use Rattle.c_language.specs.declared.scope.Rule.TheVariants as rule
use Rattle.c_language.specs.declared.shown.Argument.{Argument}
use Rattle.c_language.specs.declared.shown.Called.{Called}
use Rattle.c_language.specs.declared.shown.Shown.{Shown}
use Rattle.c_language.specs.declared.shown.Told.{Told}
use Rattle.c_language.specs.Scopes.{Name, Scope}

-- What an expression says: its own token, parentheses apart; what it shows, where neither it nor a part breaks a
-- rule; the rules that
-- it and its parts break, in order; and the scope behind it.
pub record Typed : Type 0 where
  pub at : ℕ
  pub shown : Option Shown
  pub faults : List Fault
  pub after : Scope

abbrev pub type_in : Option Shown → Option CType
type_in None = None
type_in (Some x) = Some x.ctype

abbrev pub value_in : Option Shown → Option ℤ
value_in None = None
value_in (Some x) = x.value

-- its type as written, where it has one
abbrev pub type_of : Typed → Option CType
type_of x = type_in x.shown

-- its value, where it is constant
abbrev pub constant_of : Typed → Option ℤ
constant_of x = value_in x.shown

-- what a node says of itself, or the rule that it breaks: of several the first in the order of refusals
abbrev pub Judgement : Type 0
Judgement = Result Shown Rule

abbrev pub fault_at : ℕ → Rule → List Fault
fault_at at r = record { at = at; rule = r } ∷ []

abbrev pub incomplete : Rule
incomplete = rule.Layout layout.Incomplete

abbrev pub too_large : Rule
too_large = rule.Layout layout.ObjectTooLarge

abbrev pub no_constant : Rule
no_constant = rule.Layout layout.NotConstant

-- ---- what nodes show

-- a value that isn't constant
abbrev pub some_value : CType → Shown
some_value t = record {
  ctype = t;
  value = None;
  is_null = false;
  is_lvalue = false;
  is_literal =
      false;
  designates = None;
}

-- an object
abbrev pub an_object : CType → Shown
an_object t = record {
  ctype = t;
  value = None;
  is_null = false;
  is_lvalue = true;
  is_literal = false;
  designates =
      None;
}

abbrev pub null_where : Option ℤ → Bool
null_where None = false
null_where (Some z) = is_zero z

-- a value of an integer type, constant or not; a constant 0 is a null pointer constant (C99 6.3.2.3p3)
abbrev pub an_integer : IntegerKind → Option ℤ → Shown
an_integer kind z = record {
  ctype = integer kind;
  value = z;
  is_null = null_where z;
  is_lvalue =
      false;
  is_literal = false;
  designates = None;
}

-- ---- nodes

-- in front of the scope that it leaves
abbrev pub typed_in : Told → Scope → Typed
typed_in x s = record { at = x.at; shown = x.shown; faults = x.faults; after = s }

abbrev pub told_of : Typed → Told
told_of x = record { at = x.at; shown = x.shown; faults = x.faults }

-- a node that shows nothing, since it or a part breaks a rule
abbrev pub typeless : ℕ → List Fault → Told
typeless at faults = record { at = at; shown = None; faults = faults }

-- a node that breaks a rule itself
abbrev pub refused : ℕ → Rule → List Fault → Told
refused at r faults = typeless at (faults ++ fault_at at r)

-- an expression of floating type is refused where it stands
abbrev pub node : ℕ → Judgement → List Fault → Told
node at (Err r) faults = refused at r faults
node at (Ok x) faults = cond (is_floating x.ctype) (refused at rule.FloatUsed faults) (record {
  at = at;
  shown =
      Some x;
  faults = faults;
})

abbrev pub node_over : ℕ → Option Shown → (Shown → Judgement) → List Fault → Told
node_over at None f faults = typeless at faults
node_over at (Some x) f faults = node at (f x) faults

abbrev pub node_over_two : ℕ → Option Shown → Option Shown → (Shown → Shown → Judgement) → List Fault → Told
node_over_two at None y f faults = typeless at faults
node_over_two at (Some x) None f faults = typeless at faults
node_over_two at (Some x) (Some y) f faults = node at (f x y) faults

-- a node over one part
abbrev pub over : ℕ → Typed → (Shown → Judgement) → Typed
over at x f = typed_in (node_over at x.shown f x.faults) x.after

-- a node over two parts, of which the second stands behind the first
abbrev pub over_two : ℕ → Typed → Typed → (Shown → Shown → Judgement) → Typed
over_two at x y f = typed_in (node_over_two at x.shown y.shown f (x.faults ++ y.faults)) y.after

-- ---- values of lvalues, arrays and functions (C99 6.3.2.1)

abbrev pub value_of_array : Shown → Judgement
value_of_array x = cond x.is_lvalue (Ok (some_value (decayed x.ctype))) (Err rule.TypeMismatch)

abbrev pub value_where : Bool → Shown → Judgement
value_where true x = Ok (record x { ctype = unqualified_version x.ctype; is_lvalue = false })
value_where false x = Err incomplete

-- An array turns into a pointer to its first element, a function into a pointer to it, an object into its value,
-- without
-- qualifiers (C99 6.3.2.1p2 to p4). An array that is no lvalue has no first element, and an object whose size isn't
-- known no value.
abbrev pub value_by_class : Tables → Class → Shown → Judgement
value_by_class tables class.Array x = value_of_array x
value_by_class tables class.Function x = Ok (some_value (decayed x.ctype))
value_by_class tables (class.Aggregate n) x = value_where (is_sized tables x.ctype) x
value_by_class tables class.Opaque x = value_where false x
value_by_class tables class.Void x = value_where true x
value_by_class tables (class.Integer kind) x = value_where true x
value_by_class tables class.Floating x = value_where true x
value_by_class tables class.Pointer x = value_where true x

abbrev pub value_of : Tables → Shown → Judgement
value_of tables x = value_by_class tables (class_of x.ctype) x

abbrev pub used_told : Tables → Told → Told
used_told tables x = node_over x.at x.shown (value_of tables) x.faults

-- the part as a value
abbrev pub used : Typed → Typed
used x = typed_in (used_told x.after.tables (told_of x)) x.after

-- ---- primary expressions (C99 6.5.1)

-- C99 6.4.4.1p5
abbrev pub integer_told : ℕ → IntegerConstant → Told
integer_told at c = node at (Ok (an_integer (of_constant c.integer_type) (Some (pos c.value)))) []

abbrev pub integer_constant : ℕ → IntegerConstant → Scope → Typed
integer_constant at c s = typed_in (integer_told at c) s

-- C99 6.4.4.4p10
abbrev pub character_told : ℕ → ℤ → Told
character_told at value = node at (Ok (an_integer k.Int (Some value))) []

abbrev pub character_constant : ℕ → ℤ → Scope → Typed
character_constant at value s = typed_in (character_told at value) s

-- C99 6.4.4.2p4: a constant of floating type
abbrev pub floating_told : ℕ → Told
floating_told at = refused at rule.FloatUsed []

abbrev pub floating_constant : ℕ → Scope → Typed
floating_constant at s = typed_in (floating_told at) s

abbrev pub total : List (List ℕ) → ℕ
total [] = 0
total (p ∷ ps) = length p + total ps

-- an array of the bytes and one more (C99 6.4.5p5)
abbrev pub literal_type : List (List ℕ) → CType
literal_type pieces = array (Some (suc (total pieces))) (integer k.Char)

abbrev pub within_limit : Tables → Shown → Judgement
within_limit tables x = cond (is_too_large tables x.ctype) (Err too_large) (Ok x)

abbrev pub literal_shown : Tables → List (List ℕ) → Judgement
literal_shown tables pieces = within_limit tables (record (an_object (literal_type pieces)) { is_literal = true })

abbrev pub string_literal : ℕ → List (List ℕ) → Scope → Typed
string_literal at pieces s = typed_in (node at (literal_shown s.tables pieces) []) s

-- a literal of the function's name (C99 6.4.2.2); there is none outside a function
abbrev pub function_name : ℕ → Option Name → Scope → Typed
function_name at None s = typed_in (refused at rule.Undeclared []) s
function_name at (Some name) s = string_literal at (name ∷ []) s

abbrev pub entry_shown : Entry → Shown → Shown
entry_shown e x = record x { designates = Some e }

-- a declared name of an object or function, or an enumeration constant (C99 6.5.1p2, p5); a typedef name is none
abbrev pub named_as : ℕ → Entry → Means → Told
named_as at e (means.Object t duration linkage) = node at (Ok (entry_shown e (an_object t))) []
named_as at e (means.Function t linkage) = node at (Ok (entry_shown e (some_value t))) []
named_as at e (means.Typedef t) = refused at rule.Undeclared []
named_as at e (means.Constant z) = node at (Ok (entry_shown e (an_integer k.Int (Some z)))) []
named_as at e means.Faulty = typeless at []

abbrev pub named_told : ℕ → Option Entry → Told
named_told at None = refused at rule.Undeclared []
named_told at (Some e) = named_as at e e.means

abbrev pub identifier : ℕ → Scope → Option Entry → Typed
identifier at s e = typed_in (named_told at e) s

-- ---- operands

abbrev pub on_integers_of : Option IntegerKind → Option IntegerKind → (IntegerKind → IntegerKind → Judgement) →
    Judgement
on_integers_of (Some a) (Some b) f = f a b
on_integers_of (Some a) None f = Err rule.TypeMismatch
on_integers_of None b f = Err rule.TypeMismatch

-- both operands are integers
abbrev pub on_integers : Shown → Shown → (IntegerKind → IntegerKind → Judgement) → Judgement
on_integers x y f = on_integers_of (kind_of x.ctype) (kind_of y.ctype) f

-- a pointer to a type whose size is known moves by elements (C99 6.5.6p2, p8)
abbrev pub moved_to : Tables → Shown → Option CType → Judgement
moved_to tables x None = Err rule.TypeMismatch
moved_to tables x (Some t) = cond (is_sized tables t) (Ok (some_value x.ctype)) (Err incomplete)

abbrev pub moved : Tables → Shown → Judgement
moved tables x = moved_to tables x (target_of x.ctype)

-- ---- binary operators (C99 6.5.5 to 6.5.14), over values

abbrev pub truth : ℤ → Bool
truth z = not (is_zero z)

-- what an operator makes of two numbers, brought to the type in which it works; `&&` and `||` take them as they are
abbrev pub worked : BinaryOperator → IntegerKind → ℤ → ℤ → Answer
worked o.Multiply kind x y = product kind x y
worked o.Divide kind x y = quotient kind x y
worked o.Remainder kind x y = remainder kind x y
worked o.Add kind x y = sum kind x y
worked o.Subtract kind x y = difference kind x y
worked o.ShiftLeft kind x y = shifted_left kind x y
worked o.ShiftRight kind x y = shifted_right kind x y
worked o.Less kind x y = Ok (less kind x y)
worked o.Greater kind x y = Ok (less kind y x)
worked o.LessEqual kind x y = Ok (less_equal kind x y)
worked o.GreaterEqual kind x y = Ok (less_equal kind y x)
worked o.Equal kind x y = Ok (equal kind x y)
worked o.NotEqual kind x y = Ok (unequal kind x y)
worked o.BitAnd kind x y = Ok (bits_and kind x y)
worked o.BitXor kind x y = Ok (bits_xor kind x y)
worked o.BitOr kind x y = Ok (bits_or kind x y)
worked o.LogicalAnd kind x y = Ok (number_of (truth x && truth y))
worked o.LogicalOr kind x y = Ok (number_of (truth x || truth y))

-- an operator that is undefined has no value (C99 6.6p4)
abbrev pub defined : Answer → Option ℤ
defined (Ok z) = Some z
defined (Err reason) = None

-- constant where both operands are (C99 6.6p6)
abbrev pub worked_on : BinaryOperator → IntegerKind → Option ℤ → Option ℤ → Option ℤ
worked_on op kind None y = None
worked_on op kind (Some x) None = None
worked_on op kind (Some x) (Some y) = defined (worked op kind x y)

-- C99 6.5.5, 6.5.10 to 6.5.12, and 6.5.6 on integers: the type that the usual conversions give
abbrev pub arithmetic : BinaryOperator → Shown → Shown → Judgement
arithmetic op x y = on_integers x y (λ a b. Ok (an_integer (usual a b) (worked_on op (usual a b) x.value y.value)))

-- C99 6.5.7p3: the type of the promoted left operand
abbrev pub shift : BinaryOperator → Shown → Shown → Judgement
shift op x y = on_integers x y (λ a b. Ok (an_integer (promoted a) (worked_on op (promoted a) x.value y.value)))

-- C99 6.5.6p2: integers, or a pointer and an integer
abbrev pub addition_of : Tables → Bool → Bool → Shown → Shown → Judgement
addition_of tables true false x y = cond (is_integer y.ctype) (moved tables x) (Err rule.TypeMismatch)
addition_of tables false true x y = cond (is_integer x.ctype) (moved tables y) (Err rule.TypeMismatch)
addition_of tables true true x y = Err rule.TypeMismatch
addition_of tables false false x y = arithmetic o.Add x y

abbrev pub addition : Tables → Shown → Shown → Judgement
addition tables x y = addition_of tables (is_pointer x.ctype) (is_pointer y.ctype) x y

abbrev pub as_distance : Judgement → Judgement → Judgement
as_distance (Err r) q = Err r
as_distance (Ok x) (Err r) = Err r
as_distance (Ok x) (Ok y) = Ok (some_value (integer k.Long))

-- C99 6.5.6p3: integers, two pointers, or a pointer and an integer
abbrev pub subtraction_of : Tables → Bool → Bool → Shown → Shown → Judgement
subtraction_of tables true true x y = as_distance (moved tables x) (moved tables y)
subtraction_of tables true false x y = cond (is_integer y.ctype) (moved tables x) (Err rule.TypeMismatch)
subtraction_of tables false true x y = Err rule.TypeMismatch
subtraction_of tables false false x y = arithmetic o.Subtract x y

abbrev pub subtraction : Tables → Shown → Shown → Judgement
subtraction tables x y = subtraction_of tables (is_pointer x.ctype) (is_pointer y.ctype) x y

abbrev pub compared_values : BinaryOperator → Shown → Shown → Option IntegerKind → Option IntegerKind → Option ℤ
compared_values op x y (Some a) (Some b) = worked_on op (usual a b) x.value y.value
compared_values op x y (Some a) None = None
compared_values op x y None b = None

abbrev pub scalars : Shown → Shown → Shown → Judgement
scalars x y z = cond (is_scalar x.ctype && is_scalar y.ctype) (Ok z) (Err rule.TypeMismatch)

-- C99 6.5.8p6, 6.5.9p3: 1 or 0, of type `int`
abbrev pub comparison : BinaryOperator → Shown → Shown → Judgement
comparison op x y = scalars x y (an_integer k.Int (compared_values op x y (kind_of x.ctype) (kind_of y.ctype)))

-- C99 6.5.13p3, 6.5.14p3
abbrev pub logical : BinaryOperator → Shown → Shown → Judgement
logical op x y = scalars x y (an_integer k.Int (worked_on op k.Int x.value y.value))

abbrev pub operated : Tables → BinaryOperator → Shown → Shown → Judgement
operated tables o.Multiply x y = arithmetic o.Multiply x y
operated tables o.Divide x y = arithmetic o.Divide x y
operated tables o.Remainder x y = arithmetic o.Remainder x y
operated tables o.Add x y = addition tables x y
operated tables o.Subtract x y = subtraction tables x y
operated tables o.ShiftLeft x y = shift o.ShiftLeft x y
operated tables o.ShiftRight x y = shift o.ShiftRight x y
operated tables o.Less x y = comparison o.Less x y
operated tables o.Greater x y = comparison o.Greater x y
operated tables o.LessEqual x y = comparison o.LessEqual x y
operated tables o.GreaterEqual x y = comparison o.GreaterEqual x y
operated tables o.Equal x y = comparison o.Equal x y
operated tables o.NotEqual x y = comparison o.NotEqual x y
operated tables o.BitAnd x y = arithmetic o.BitAnd x y
operated tables o.BitXor x y = arithmetic o.BitXor x y
operated tables o.BitOr x y = arithmetic o.BitOr x y
operated tables o.LogicalAnd x y = logical o.LogicalAnd x y
operated tables o.LogicalOr x y = logical o.LogicalOr x y

abbrev pub binary : ℕ → BinaryOperator → Typed → Typed → Typed
binary at op x y = over_two at (used x) (used y) (operated y.after.tables op)

-- ---- unary operators (C99 6.5.3)

-- C99 6.5.3.2p1, p3: of an lvalue or a function
abbrev pub address : Shown → Judgement
address x = cond (x.is_lvalue || is_function x.ctype) (Ok (some_value (pointer_to x.ctype))) (Err rule.TypeMismatch)

abbrev pub target_shown : CType → Shown
target_shown t = cond (is_function t) (some_value t) (an_object t)

abbrev pub indirection_to : Option CType → Judgement
indirection_to None = Err rule.TypeMismatch
indirection_to (Some t) = Ok (target_shown t)

-- C99 6.5.3.2p2, p4
abbrev pub indirection : Shown → Judgement
indirection x = indirection_to (target_of x.ctype)

abbrev pub on_integer_of : Option IntegerKind → (IntegerKind → Judgement) → Judgement
on_integer_of None f = Err rule.TypeMismatch
on_integer_of (Some a) f = f a

-- what a unary operator makes of a number, brought to the promoted type; `!` takes it as it is
abbrev pub turned : UnaryOperator → IntegerKind → ℤ → Answer
turned u.Plus kind z = Ok (converted kind z)
turned u.Minus kind z = negation kind z
turned u.Complement kind z = Ok (complement kind z)
turned u.Not kind z = Ok (number_of (is_zero z))
turned u.Address kind z = Ok z
turned u.Indirection kind z = Ok z
turned u.Increment kind z = Ok z
turned u.Decrement kind z = Ok z

abbrev pub turned_on : UnaryOperator → IntegerKind → Option ℤ → Option ℤ
turned_on op kind None = None
turned_on op kind (Some z) = defined (turned op kind z)

-- C99 6.5.3.3p1 to p4
abbrev pub promoted_by : UnaryOperator → Shown → Judgement
promoted_by op x = on_integer_of (kind_of x.ctype) (λ a. Ok (an_integer (promoted a) (turned_on op (promoted a)
    x.value)))

-- C99 6.5.3.3p5
abbrev pub negated : Shown → Judgement
negated x = cond (is_scalar x.ctype) (Ok (an_integer k.Int (turned_on u.Not k.Int x.value))) (Err rule.TypeMismatch)

-- A modifiable lvalue (C99 6.3.2.1p1): no array or function, not qualified by `const`.
abbrev pub is_modifiable : Shown → Bool
is_modifiable x = x.is_lvalue && not (is_array x.ctype) && not (is_function x.ctype) && not (is_const x.ctype)

-- an array or function is no modifiable lvalue, whatever else is wrong with it
abbrev pub or_not_modifiable : Shown → Rule
or_not_modifiable x = cond (is_array x.ctype || is_function x.ctype) rule.NotModifiable rule.TypeMismatch

-- what is said of a target, or that it can't be modified
abbrev pub on_modifiable : Shown → Judgement → Judgement
on_modifiable x (Err rule.TypeMismatch) = Err (or_not_modifiable x)
on_modifiable x j = cond (is_modifiable x) j (Err rule.NotModifiable)

-- a pointer object that moves: its value has no qualifiers
abbrev pub moved_plainly : Tables → Shown → Judgement
moved_plainly tables x = moved tables (some_value (unqualified_version x.ctype))

abbrev pub stepped_in : Tables → Class → Shown → Judgement
stepped_in tables (class.Integer kind) x = Ok (some_value (unqualified_version x.ctype))
stepped_in tables class.Pointer x = moved_plainly tables x
stepped_in tables class.Array x = Err rule.TypeMismatch
stepped_in tables class.Function x = Err rule.TypeMismatch
stepped_in tables class.Void x = Err rule.TypeMismatch
stepped_in tables class.Floating x = Err rule.FloatUsed
stepped_in tables (class.Aggregate n) x = Err rule.TypeMismatch
stepped_in tables class.Opaque x = Err rule.TypeMismatch

-- `++` and `--` (C99 6.5.2.4p1, 6.5.3.1p1): a modifiable lvalue of integer or pointer type
abbrev pub stepped : Tables → Shown → Judgement
stepped tables x = on_modifiable x (stepped_in tables (class_of x.ctype) x)

-- `&`, `++` and `--` take the operand as it stands, the others its value
abbrev pub operand_told : Tables → UnaryOperator → Told → Told
operand_told tables u.Address x = x
operand_told tables u.Increment x = x
operand_told tables u.Decrement x = x
operand_told tables u.Indirection x = used_told tables x
operand_told tables u.Plus x = used_told tables x
operand_told tables u.Minus x = used_told tables x
operand_told tables u.Complement x = used_told tables x
operand_told tables u.Not x = used_told tables x

abbrev pub operand : UnaryOperator → Typed → Typed
operand op x = typed_in (operand_told x.after.tables op (told_of x)) x.after

abbrev pub unary_judged : Tables → UnaryOperator → Shown → Judgement
unary_judged tables u.Address x = address x
unary_judged tables u.Indirection x = indirection x
unary_judged tables u.Plus x = promoted_by u.Plus x
unary_judged tables u.Minus x = promoted_by u.Minus x
unary_judged tables u.Complement x = promoted_by u.Complement x
unary_judged tables u.Not x = negated x
unary_judged tables u.Increment x = stepped tables x
unary_judged tables u.Decrement x = stepped tables x

abbrev pub unary : ℕ → UnaryOperator → Typed → Typed
unary at op x = over at (operand op x) (unary_judged x.after.tables op)

abbrev pub postfix : ℕ → Typed → Typed
postfix at x = over at x (stepped x.after.tables)

-- ---- `sizeof` (C99 6.5.3.4): of a type whose size is known

abbrev pub size_as : Option ℕ → Judgement
size_as None = Err incomplete
size_as (Some n) = Ok (an_integer k.UnsignedLong (Some (pos n)))

abbrev pub size_in : Tables → CType → Judgement
size_in tables t = cond (is_too_large tables t) (Err too_large) (size_as (size_of tables t))

abbrev pub size_shown : Tables → Shown → Judgement
size_shown tables x = size_in tables x.ctype

-- the operand isn't evaluated, and doesn't turn into a pointer
abbrev pub size_of_expression : ℕ → Typed → Typed
size_of_expression at x = over at x (size_shown x.after.tables)

-- ---- type names (C99 6.7.6) as other definitions tell them: the type, or the rule that it breaks, where its parts
-- have types

abbrev pub NamedType : Type 0
NamedType = Option (Result CType Rule)

abbrev pub over_named : ℕ → NamedType → (CType → Judgement) → List Fault → Told
over_named at None f faults = typeless at faults
over_named at (Some (Err r)) f faults = refused at r faults
over_named at (Some (Ok t)) f faults = node at (f t) faults

abbrev pub size_of_type : ℕ → NamedType → List Fault → Scope → Typed
size_of_type at t faults s = typed_in (over_named at t (size_in s.tables) faults) s

-- ---- casts (C99 6.5.4)

abbrev pub cast_value : Option IntegerKind → Option IntegerKind → Option ℤ → Option ℤ
cast_value (Some to) (Some from) (Some z) = Some (converted to z)
cast_value (Some to) (Some from) None = None
cast_value (Some to) None z = None
cast_value None from z = None

abbrev pub is_plain_void_pointer_to : Option CType → Bool
is_plain_void_pointer_to None = false
is_plain_void_pointer_to (Some t) = is_void t && not (qualifiers_of t).is_const && not (qualifiers_of t).is_volatile

-- an integer constant 0 cast to `void *` is a null pointer constant (C99 6.3.2.3p3)
abbrev pub keeps_null : CType → Shown → Bool
keeps_null to x = null_where x.value && is_plain_void_pointer_to (target_of to)

abbrev pub cast_shown : CType → Shown → Shown
cast_shown to x =
    let z = cast_value (kind_of to) (kind_of x.ctype) x.value in
    record {
      ctype = unqualified_version to;
      value = z;
      is_null = null_where z || keeps_null to x;
      is_lvalue =
          false;
      is_literal = false;
      designates = None;
    }

-- C99 6.5.4p2: to void, or a scalar to a scalar type
abbrev pub cast_to : CType → Shown → Judgement
cast_to to x = cond (is_void to || (is_scalar to && is_scalar x.ctype)) (Ok (cast_shown to x)) (Err rule.TypeMismatch)

abbrev pub cast_over : ℕ → NamedType → Option Shown → List Fault → Told
cast_over at None x faults = typeless at faults
cast_over at (Some (Err r)) x faults = refused at r faults
cast_over at (Some (Ok t)) x faults = node_over at x (cast_to t) faults

abbrev pub cast : ℕ → NamedType → List Fault → Typed → Typed
cast at t faults x = typed_in (cast_over at t (used x).shown (faults ++ (used x).faults)) x.after

-- ---- subscripts (C99 6.5.2.1): the target of a sum

abbrev pub element_in : Judgement → Judgement
element_in (Err r) = Err r
element_in (Ok x) = indirection x

abbrev pub element : Tables → Shown → Shown → Judgement
element tables x y = element_in (addition tables x y)

abbrev pub subscript : ℕ → Typed → Typed → Typed
subscript at x y = over_two at (used x) (used y) (element y.after.tables)

-- ---- members (C99 6.5.2.3)

abbrev pub member_shown : Qualifiers → Bool → Member → Shown
member_shown q lvalue m = record {
  ctype = qualified q m.ctype;
  value = None;
  is_null = false;
  is_lvalue =
      lvalue;
  is_literal = false;
  designates = None;
}

abbrev pub found_member : Qualifiers → Bool → Option Member → Judgement
found_member q lvalue None = Err rule.TypeMismatch
found_member q lvalue (Some m) = Ok (member_shown q lvalue m)

-- the members of an incomplete or opaque type aren't known
abbrev pub member_of_content : Qualifiers → Bool → Name → Content → Judgement
member_of_content q lvalue name content_.Incomplete = Err incomplete
member_of_content q lvalue name (content_.Opaque cause.BitField) = Err rule.BitField
member_of_content q lvalue name (content_.Opaque cause.Other) = Err incomplete
member_of_content q lvalue name (content_.Complete l) = found_member q lvalue (member_named name l.members)

abbrev pub member_in : Tables → Qualifiers → Bool → Name → Option ℕ → Judgement
member_in tables q lvalue name None = Err rule.TypeMismatch
member_in tables q lvalue name (Some n) = member_of_content q lvalue name (content_of tables n)

-- a member of a qualified object is so qualified, and an lvalue where the object is one (C99 6.5.2.3p3)
abbrev pub member_shown_of : Tables → Name → Shown → Judgement
member_shown_of tables name x = member_in tables (qualifiers_of x.ctype) x.is_lvalue name (aggregate_of x.ctype)

abbrev pub member : ℕ → Name → Typed → Typed
member at name x = over at x (member_shown_of x.after.tables name)

abbrev pub pointed_member_of : Tables → Name → Option CType → Judgement
pointed_member_of tables name None = Err rule.TypeMismatch
pointed_member_of tables name (Some t) = member_shown_of tables name (an_object t)

abbrev pub pointed_member : Tables → Name → Shown → Judgement
pointed_member tables name x = pointed_member_of tables name (target_of x.ctype)

-- C99 6.5.2.3p4
abbrev pub arrow : ℕ → Name → Typed → Typed
arrow at name x = over at (used x) (pointed_member x.after.tables name)

-- ---- the conditional operator (C99 6.5.15)

abbrev pub with_target_qualifiers : CType → CType → CType
with_target_qualifiers t other = pointer_to (qualified (qualifiers_of other) t)

-- C99 6.5.15p6: to what both pointers point, with the qualifiers of both; a null pointer constant takes the other's
-- type, and a
-- pointer to void makes the other one so
abbrev pub joined_targets : Shown → Shown → CType → CType → CType
joined_targets x y t u =
    cond x.is_null y.ctype (cond y.is_null x.ctype (cond (is_void t) (with_target_qualifiers t u) (cond (is_void u)
    (with_target_qualifiers u t) (with_target_qualifiers t u))))

abbrev pub joined_pointers : Shown → Shown → Option CType → Option CType → Judgement
joined_pointers x y (Some t) (Some u) = Ok (some_value (joined_targets x y t u))
joined_pointers x y (Some t) None = Ok (some_value x.ctype)
joined_pointers x y None (Some u) = Ok (some_value y.ctype)
joined_pointers x y None None = Err rule.TypeMismatch

abbrev pub chosen : Option ℤ → Option ℤ → Option ℤ → Option ℤ
chosen (Some c) (Some x) (Some y) = Some (cond (is_zero c) y x)
chosen (Some c) (Some x) None = None
chosen (Some c) None y = None
chosen None x y = None

abbrev pub chosen_as : IntegerKind → Option ℤ → Option ℤ
chosen_as kind None = None
chosen_as kind (Some z) = Some (converted kind z)

abbrev pub same_aggregate : Option ℕ → Option ℕ → Bool
same_aggregate (Some m) (Some n) = nat_eq m n
same_aggregate (Some m) None = false
same_aggregate None n = false

-- two void expressions, or two values of one structure or union type
abbrev pub joined_others : Shown → Shown → Judgement
joined_others x y =
    cond ((is_void x.ctype && is_void y.ctype) || same_aggregate (aggregate_of x.ctype) (aggregate_of y.ctype)) (Ok
    (some_value x.ctype)) (Err rule.TypeMismatch)

abbrev pub joined_kinds : Option ℤ → Shown → Shown → Option IntegerKind → Option IntegerKind → Judgement
joined_kinds c x y (Some a) (Some b) = Ok (an_integer (usual a b) (chosen_as (usual a b) (chosen c x.value y.value)))
joined_kinds c x y (Some a) None = joined_pointers x y (target_of x.ctype) (target_of y.ctype)
joined_kinds c x y None (Some b) = joined_pointers x y (target_of x.ctype) (target_of y.ctype)
joined_kinds c x y None None =
    cond (is_pointer x.ctype && is_pointer y.ctype) (joined_pointers x y (target_of x.ctype) (target_of y.ctype))
    (joined_others x y)

-- C99 6.5.15p2, p3, p5
abbrev pub choice_of : Shown → Shown → Shown → Judgement
choice_of c x y = cond (is_scalar c.ctype) (joined_kinds c.value x y (kind_of x.ctype) (kind_of y.ctype)) (Err
    rule.TypeMismatch)

abbrev pub choice_over : ℕ → Option Shown → Option Shown → Option Shown → List Fault → Told
choice_over at None x y faults = typeless at faults
choice_over at (Some c) x y faults = node_over_two at x y (choice_of c) faults

abbrev pub choice : ℕ → Typed → Typed → Typed → Typed
choice at c x y =
    typed_in (choice_over at (used c).shown (used x).shown (used y).shown ((used c).faults ++ (used x).faults
    ++ (used y).faults)) y.after

-- ---- assignment (C99 6.5.16)

-- a scalar to a scalar, or a structure or union to one of its type (C99 6.5.16.1p1)
abbrev pub is_assignable : CType → CType → Bool
is_assignable to from = (is_scalar to && is_scalar from) || same_aggregate (aggregate_of to) (aggregate_of from)

-- the value has the type of the target without qualifiers (C99 6.5.16p3)
abbrev pub assigned : Shown → Shown → Judgement
assigned x y =
    on_modifiable x (cond (is_assignable x.ctype y.ctype) (Ok (some_value (unqualified_version x.ctype))) (Err
    rule.TypeMismatch))

-- C99 6.5.16.2p1, p2: the target is a pointer only in `+=` and `-=` of an integer, else both are of arithmetic type
abbrev pub compound_of : Tables → BinaryOperator → Bool → Shown → Shown → Judgement
compound_of tables op false x y = on_integers x y (λ a b. Ok (some_value (unqualified_version x.ctype)))
compound_of tables o.Add true x y = cond (is_integer y.ctype) (moved_plainly tables x) (Err rule.TypeMismatch)
compound_of tables o.Subtract true x y = cond (is_integer y.ctype) (moved_plainly tables x) (Err rule.TypeMismatch)
compound_of tables _ true x y = Err rule.TypeMismatch

abbrev pub compound : Tables → BinaryOperator → Shown → Shown → Judgement
compound tables op x y =
    on_modifiable x (compound_of tables op (is_pointer x.ctype) x y)

abbrev pub assignment_judged : Tables → Option BinaryOperator → Shown → Shown → Judgement
assignment_judged tables None x y = assigned x y
assignment_judged tables (Some op) x y = compound tables op x y

abbrev pub assignment : ℕ → Option BinaryOperator → Typed → Typed → Typed
assignment at op x y = over_two at x (used y) (assignment_judged y.after.tables op)

-- ---- the comma operator (C99 6.5.17): a void expression, then a value, which isn't constant (C99 6.6p3)

abbrev pub second_judged : Shown → Judgement
second_judged x = Ok (some_value x.ctype)

abbrev pub comma : ℕ → Typed → Typed → Typed
comma at x y = over_two at x (used y) (λ a b. second_judged b)

-- ---- calls (C99 6.5.2.2)

abbrev pub broken : ℕ → Rule → Called
broken at r = record { ctype = None; faults = fault_at at r }

-- what a structure given as an argument breaks: the rules of types before that no structure is given
abbrev pub structure_given : ℕ → Class → Rule
structure_given n (class.Aggregate m) = cond (nat_eq n m) rule.StructByValue rule.TypeMismatch
structure_given n _ = rule.TypeMismatch

-- an argument that is converted to the type of its parameter (C99 6.5.2.2p4, p7)
abbrev pub argument_fault : ℕ → ℕ → Class → Class → List Fault
argument_fault callee at (class.Aggregate n) parameter = fault_at callee (structure_given n parameter)
argument_fault callee at class.Void parameter = fault_at callee rule.TypeMismatch
argument_fault callee at from class.Floating = fault_at at rule.FloatUsed
argument_fault callee at from (class.Integer kind) = []
argument_fault callee at from class.Pointer = []
argument_fault callee at from (class.Aggregate n) = fault_at callee rule.TypeMismatch
argument_fault callee at from class.Opaque = fault_at callee rule.TypeMismatch
argument_fault callee at from class.Void = fault_at callee rule.TypeMismatch
argument_fault callee at from class.Array = fault_at callee rule.TypeMismatch
argument_fault callee at from class.Function = fault_at callee rule.TypeMismatch

-- an argument for which no parameter is declared (C99 6.5.2.2p6)
abbrev pub loose_fault : ℕ → Class → List Fault
loose_fault callee (class.Aggregate n) = fault_at callee rule.StructByValue
loose_fault callee class.Void = fault_at callee rule.TypeMismatch
loose_fault callee (class.Integer kind) = []
loose_fault callee class.Floating = []
loose_fault callee class.Pointer = []
loose_fault callee class.Array = []
loose_fault callee class.Function = []
loose_fault callee class.Opaque = []

abbrev pub loose_faults : ℕ → List Argument → List Fault
loose_faults callee [] = []
loose_faults callee (x ∷ xs) = loose_fault callee x.class ++ loose_faults callee xs

-- arguments beyond the parameters: only behind `...`, or where nothing is said of parameters
abbrev pub surplus_faults : ℕ → Prototype → List Argument → List Fault
surplus_faults callee p [] = []
surplus_faults callee prototype_.Fixed (x ∷ xs) = fault_at callee rule.TypeMismatch
surplus_faults callee prototype_.Variadic (x ∷ xs) = loose_faults callee (x ∷ xs)
surplus_faults callee prototype_.Unspecified (x ∷ xs) = loose_faults callee (x ∷ xs)
surplus_faults callee prototype_.EmptyDefinition (x ∷ xs) = loose_faults callee (x ∷ xs)

abbrev pub argument_faults : ℕ → Prototype → List CType → List Argument → List Fault
argument_faults callee p [] xs = surplus_faults callee p xs
argument_faults callee p (t ∷ ts) [] = fault_at callee rule.TypeMismatch
argument_faults callee p (t ∷ ts) (x ∷ xs) = argument_fault callee x.at x.class (class_of t)
    ++ argument_faults callee p ts xs

abbrev pub signature_faults : ℕ → Option Signature → List Argument → List Fault
signature_faults callee None xs = []
signature_faults callee (Some g) xs = argument_faults callee g.prototype g.parameters xs

abbrev pub result_faults : ℕ → Class → List Fault
result_faults callee (class.Aggregate n) = fault_at callee rule.StructByValue
result_faults callee class.Floating = fault_at callee rule.FloatUsed
result_faults callee class.Opaque = fault_at callee rule.StructByValue
result_faults callee class.Void = []
result_faults callee (class.Integer kind) = []
result_faults callee class.Pointer = []
result_faults callee class.Array = []
result_faults callee class.Function = []

abbrev pub type_where : List Fault → CType → Option CType
type_where [] t = Some t
type_where (f ∷ fs) t = None

abbrev pub called_with : List Fault → CType → Called
called_with faults t = record { ctype = type_where faults (unqualified_version t); faults = faults }

abbrev pub called_directly : Tables → ℕ → List Derivation → Option CType → List Argument → Called
called_directly tables callee (d.Function n ∷ ds) (Some result) xs =
    called_with (signature_faults callee (slice_get tables.signatures n) xs
    ++ result_faults callee (class_of result)) result
called_directly tables callee _ _ xs = broken callee rule.TypeMismatch

abbrev pub is_named : Option Entry → Bool
is_named None = false
is_named (Some e) = true

abbrev pub named_place : Bool → ℕ → ℕ → ℕ
named_place is_name at callee = cond is_name callee at

-- what a call through a pointer breaks: the rules of every call of the function, and that it is indirect
abbrev pub called_through : Tables → ℕ → CType → List Argument → Called
called_through tables place f xs = record {
  ctype = None;
  faults = (called_directly tables place f.derivations (returned_of f) xs).faults ++ fault_at place rule.IndirectCall;
}

-- only pointers to functions are called
abbrev pub called_by_value : Tables → ℕ → Option CType → List Argument → Called
called_by_value tables place None xs = broken place rule.TypeMismatch
called_by_value tables place (Some t) xs =
    cond (is_function t) (called_through tables place t xs) (broken place rule.TypeMismatch)

-- The callee is the name of a function, perhaps in parentheses; every other call is indirect (C99 6.5.2.2p1). It stands
-- at the name of the pointer, else at the `(` of the call.
abbrev pub called_as : Tables → ℕ → ℕ → Bool → Bool → CType → List Argument → Called
called_as tables at callee true true t xs = called_directly tables callee t.derivations (returned_of t) xs
called_as tables at callee false true t xs = called_through tables at t xs
called_as tables at callee is_name false t xs =
    called_by_value tables (named_place is_name at callee) (target_of t) xs

-- what is said of arguments together, as values, from left to right: none where one has no type
pub record Arguments : Type 0 where
  pub all : Option (List Argument)
  pub faults : List Fault

abbrev pub no_arguments : List Fault → Arguments
no_arguments faults = record { all = Some []; faults = faults }

abbrev pub with_argument : ℕ → Option Shown → Option (List Argument) → Option (List Argument)
with_argument at (Some x) (Some xs) = Some (xs ++ record { at = at; class = class_of x.ctype } ∷ [])
with_argument at (Some x) None = None
with_argument at None xs = None

-- one more, as a value
abbrev pub and_argument : Arguments → Told → Arguments
and_argument xs x = record { all = with_argument x.at x.shown xs.all; faults = xs.faults ++ x.faults }

abbrev pub called_shown : Option CType → Option Shown
called_shown None = None
called_shown (Some t) = Some (some_value t)

abbrev pub call_of : ℕ → List Fault → Called → Told
call_of at faults c = record { at = at; shown = called_shown c.ctype; faults = faults ++ c.faults }

abbrev pub call_over : Tables → ℕ → ℕ → Option Shown → Option (List Argument) → List Fault → Told
call_over tables at callee None xs faults = typeless at faults
call_over tables at callee (Some f) None faults = typeless at faults
call_over tables at callee (Some f) (Some xs) faults =
    call_of at faults (called_as tables at callee (is_named f.designates) (is_function f.ctype) f.ctype xs)

-- a call of what stands at `callee`, whose faults stand before those of the arguments
abbrev pub call : ℕ → ℕ → Option Shown → Arguments → Scope → Typed
call at callee f xs s = typed_in (call_over s.tables at callee f xs.all xs.faults) s

-- ---- constant expressions (C99 6.6)

-- the value that must be constant, at the expression's own token where it isn't
abbrev pub not_constant_value : ℕ → Option ℤ → List Fault
not_constant_value at None = fault_at at no_constant
not_constant_value at (Some z) = []

abbrev pub not_constant_of : ℕ → Option Shown → List Fault
not_constant_of at None = []
not_constant_of at (Some x) = not_constant_value at x.value

abbrev pub not_constant : Typed → List Fault
not_constant x = not_constant_of x.at x.shown

abbrev pub cause_in : List Fault → LayoutRule
cause_in [] = layout.NotConstant
cause_in (f ∷ fs) = elim f.rule as (λ _. LayoutRule) [ rule.Layout r ↦ r | _ ↦ cause_in fs ]

abbrev pub constant_as : Option ℤ → List Fault → Result ℤ LayoutRule
constant_as None faults = Err (cause_in faults)
constant_as (Some z) faults = Ok z

-- the constant value of an expression, or why there is none: a size that isn't known, one that is too large, or that
-- it isn't constant
abbrev pub const_value : Typed → Result ℤ LayoutRule
const_value x = constant_as (constant_of x) x.faults

-- a scalar condition of a statement, which stands at the statement's keyword (C99 6.8.4.1p1, 6.8.5p2)
abbrev pub condition_faults_of : ℕ → Option Shown → List Fault
condition_faults_of at None = []
condition_faults_of at (Some x) = cond (is_scalar x.ctype) [] (fault_at at rule.TypeMismatch)

abbrev pub condition_faults : ℕ → Typed → List Fault
condition_faults at x = (used x).faults ++ condition_faults_of at (used x).shown
