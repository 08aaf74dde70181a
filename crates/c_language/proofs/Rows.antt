-- Worked rows: what the trees of small declarations and expressions say.
use Rattle.std.proofs.Common.{
  ◌≡◌,
  ℕ,
  ℤ,
  pos,
  negsuc,
  suc,
  List,
  [],
  ◌∷◌,
  Bool,
  true,
  false,
  Option,
  Some,
  None,
  Ok,
  Err,
  refl,
  ap,
}
use Rattle.c_language.specs.declared.token.IntegerType.TheVariants as i
use Rattle.c_language.specs.declared.expr.AggregateKind.TheVariants as kind
use Rattle.c_language.specs.declared.expr.BinaryOperator.TheVariants as o
use Rattle.c_language.specs.declared.expr.UnaryOperator.TheVariants as u
use Rattle.c_language.specs.declared.expr.StorageClass.TheVariants as class
use Rattle.c_language.specs.declared.expr.TypeWord.TheVariants as w
use Rattle.c_language.specs.declared.expr.TypeWord.{TypeWord}
use Rattle.c_language.specs.declared.expr.TagName.{TagName}
use Rattle.c_language.specs.Folds.{fold_expr, fold_declarator, fold_specifier, fold_member, fold_type_name, fold_parameter}
use Rattle.c_language.specs.declared.ctype.IntegerKind.TheVariants as k
use Rattle.c_language.specs.Types.{integer as integer_type, aggregate}
use Rattle.c_language.specs.Integers.{converted}
use Rattle.c_language.specs.Operators.{exact}
use Rattle.c_language.specs.Layouts.{size_of, align_of, offset_of}
use Rattle.c_language.specs.declared.scope.LayoutRule.TheVariants as layout
use Rattle.c_language.specs.Scopes.{Name, Scope, empty}
use Rattle.c_language.specs.Typing.{Typed, type_of, constant_of, const_value}
use Rattle.c_language.specs.Trees.{ExprSays, itself, typing, typed}
use Rattle.c_language.specs.Declares.{Says}
use Rattle.c_language.specs.Declarations.{Item, Declares, declaration_by}
use Rattle.c_language.specs.Initials.{InitialSaid, Fills, value_says, list_says, item_says}
use Rattle.c_language.specs.Units.{initialises}
use Rattle.c_language.specs.declared.scope.Fault.{Fault}
use Rattle.c_language.specs.declared.scope.Rule.TheVariants as rule
use Rattle.c_language.specs.Scopes.{enter, leave}
use Rattle.c_language.proofs.Built.{Built}
use Rattle.c_language.proofs.Built as built

abbrev OfExpr : Type 0
OfExpr = Built (fold_expr {c = Says ExprSays} typing)

abbrev OfDeclarator : Type 0
OfDeclarator = Built (fold_declarator {c = Says ExprSays} typing)

abbrev OfSpecifier : Type 0
OfSpecifier = Built (fold_specifier {c = Says ExprSays} typing)

abbrev OfMember : Type 0
OfMember = Built (fold_member {c = Says ExprSays} typing)

-- ---- names

abbrev a : Name
a = 97 ∷ []

abbrev b : Name
b = 98 ∷ []

abbrev c : Name
c = 99 ∷ []

abbrev s : Name
s = 115 ∷ []

-- ---- spelling of trees; offsets are only told where a row asks for them

abbrev number : ℕ → OfExpr
number n = built.integer typing 0 (record { value = n; integer_type = i.Int })

abbrev the : Name → OfExpr
the name = built.identifier typing 0 name

abbrev word : TypeWord → OfSpecifier
word x = built.word typing 0 x

abbrev as_ : Name → OfDeclarator
as_ name = built.named typing 0 name

abbrev pointer : OfDeclarator → OfDeclarator
pointer d = built.pointer typing 0 [] d

abbrev field : OfSpecifier → OfDeclarator → OfMember
field t d = built.member_declaration typing (t ∷ []) (built.plain typing d ∷ [])

abbrev structure : Option TagName → List OfMember → OfSpecifier
structure tag ms = built.aggregate typing 0 kind.Struct tag ms

abbrev size_of_type : List OfSpecifier → OfDeclarator → OfExpr
size_of_type ss d = built.sizeof_type typing 0 (built.type_name typing ss d)

abbrev omitted : OfDeclarator
omitted = built.omitted typing

-- ---- what trees say from the file's scope

-- a declaration in a scope: its specifiers, and its declarators without initializers
abbrev item : OfDeclarator → Item
item d = record { declarator = d.says; initial = None }

abbrev items : List OfDeclarator → List Item
items [] = []
items (d ∷ ds) = item d ∷ items ds

abbrev declaration : List OfSpecifier → List OfDeclarator → Scope → Scope
declaration ss ds s = (declaration_by (built.all_say (fold_specifier {c =
    Says ExprSays} typing) ss) (items ds) s).after

abbrev declaration_faults : List OfSpecifier → List OfDeclarator → Scope → List Fault
declaration_faults ss ds s = (declaration_by (built.all_say (fold_specifier {c =
    Says ExprSays} typing) ss) (items ds) s).faults

-- ---- sizeof (struct { char a; int b; short c; })

abbrev char_int_short : OfExpr
char_int_short = size_of_type (structure None (field (word w.Char) (as_ a) ∷ field (word w.Int) (as_ b)
    ∷ field (word w.Short) (as_ c) ∷ []) ∷ []) omitted

pub row_size_of_structure : constant_of (typed char_int_short.tree empty) ≡ Some (pos 12)
unfolding typed
row_size_of_structure = ap (λ f. constant_of (f empty)) char_int_short.is

-- ---- sizeof (struct { char a; long double d; })

abbrev char_long_double : OfExpr
char_long_double =
    size_of_type (structure None (field (word w.Char) (as_ a) ∷ built.member_declaration typing (word w.Long
    ∷ word w.Double ∷ []) (built.plain typing (as_ b) ∷ []) ∷ []) ∷ []) omitted

pub row_size_of_long_double : constant_of (typed char_long_double.tree empty) ≡ Some (pos 32)
unfolding typed
row_size_of_long_double = ap (λ f. constant_of (f empty)) char_long_double.is

-- ---- struct s { char a; int b; short c; }; : the layout

abbrev s_tag : ℕ → TagName
s_tag at = record { at = at; name = s }

abbrev of_three : Scope
of_three =
    declaration (structure (Some (s_tag 7)) (field (word w.Char) (as_ a) ∷ field (word w.Int) (as_ b)
    ∷ field (word w.Short) (as_ c) ∷ []) ∷ []) [] empty

pub row_layout :
    size_of of_three.tables (aggregate 0) ∷ align_of of_three.tables (aggregate 0)
    ∷ offset_of of_three.tables (aggregate 0) 1
    ∷ offset_of of_three.tables (aggregate 0) 2 ∷ []
    ≡ Some 12 ∷ Some 4 ∷ Some 4 ∷ Some 8 ∷ []
row_layout = refl

-- ---- 2 > 1 && a, with an object a; 1 ? 2 : a

abbrev int_a : Scope
int_a = declaration (word w.Int ∷ []) (as_ a ∷ []) empty

abbrev and_a : OfExpr
and_a = built.binary typing 9 o.LogicalAnd (built.binary typing 5 o.Greater (number 2) (number 1)) (the a)

pub row_and_isn't_constant : const_value (typed and_a.tree int_a) ≡ Err layout.NotConstant
unfolding typed
row_and_isn't_constant = ap (λ f. const_value (f int_a)) and_a.is

abbrev choice_a : OfExpr
choice_a = built.conditional typing 9 (number 1) (number 2) (the a)

pub row_choice_isn't_constant : const_value (typed choice_a.tree int_a) ≡ Err layout.NotConstant
unfolding typed
row_choice_isn't_constant = ap (λ f. const_value (f int_a)) choice_a.is

abbrev choice_of_constants : OfExpr
choice_of_constants = built.conditional typing 9 (number 0) (number 2) (built.unary typing 3 u.Minus (number 7))

pub row_choice_is_constant : const_value (typed choice_of_constants.tree int_a) ≡ Ok (negsuc 6)
unfolding typed exact converted
row_choice_is_constant = ap (λ f. const_value (f int_a)) choice_of_constants.is

-- 0 && 1 / 0 has no value: each operand must be constant
abbrev zero_divisor : OfExpr
zero_divisor = built.binary typing 9 o.LogicalAnd (number 0) (built.binary typing 5 o.Divide (number 1) (number 0))

pub row_zero_divisor : const_value (typed zero_divisor.tree empty) ≡ Err layout.NotConstant
unfolding typed exact converted
row_zero_divisor = ap (λ f. const_value (f empty)) zero_divisor.is

-- ---- enum { a = 4, b, c = sizeof (int) }; : c, b and the type of b

abbrev enumerators : OfSpecifier
enumerators = built.enumeration typing 0 None
    (built.enumerator typing 7 a (Some (number 4)) ∷ built.enumerator typing 14 b None
    ∷ built.enumerator typing 17 c (Some (size_of_type (word w.Int ∷ []) omitted)) ∷ [])
    false

abbrev with_enumerators : Scope
with_enumerators = declaration (enumerators ∷ []) [] empty

pub row_enumerators :
    const_value ((the a).says with_enumerators) ∷ const_value ((the b).says with_enumerators)
    ∷ const_value ((the c).says with_enumerators) ∷ []
    ≡ Ok (pos 4) ∷ Ok (pos 5) ∷ Ok (pos 4) ∷ []
row_enumerators = refl

-- ---- struct s *a; struct s { int b; }; : the type of a->b, and of *a before the completion

abbrev pointed : Scope
pointed = declaration (built.tag typing 0 kind.Struct (s_tag 7) ∷ []) (pointer (as_ a) ∷ []) empty

abbrev completed : Scope
completed = declaration (structure (Some (s_tag 7)) (field (word w.Int) (as_ b) ∷ []) ∷ []) [] pointed

abbrev a_arrow_b : OfExpr
a_arrow_b = built.arrow typing 21 (the a) b

pub row_before_completion : (typed a_arrow_b.tree pointed).faults ≡ record {
  at = 21;
  rule =
      rule.Layout layout.Incomplete;
} ∷ []
unfolding typed
row_before_completion = ap (λ f. (f pointed).faults) a_arrow_b.is

pub row_after_completion : type_of (typed a_arrow_b.tree completed) ≡ Some (integer_type k.Int)
unfolding typed
row_after_completion = ap (λ f. type_of (f completed)) a_arrow_b.is

-- ---- struct s { struct s *a; int b; } c; : c.a->a->b

abbrev of_itself : Scope
of_itself =
    declaration (structure (Some (s_tag 7)) (field (built.tag typing 0 kind.Struct (s_tag 18)) (pointer (as_ a))
    ∷ field (word w.Int) (as_ b) ∷ []) ∷ []) (as_ c ∷ []) empty

abbrev through_itself : OfExpr
through_itself = built.arrow typing 5 (built.arrow typing 4 (built.member typing 3 (the c) a) a) b

pub row_of_itself : type_of (typed through_itself.tree of_itself) ≡ Some (integer_type k.Int)
unfolding typed
row_of_itself = ap (λ f. type_of (f of_itself)) through_itself.is

-- ---- struct s { char a; };  { struct s; struct s *b; b->a }  sizeof (struct s)

abbrev outer_s : Scope
outer_s = declaration (structure (Some (s_tag 7)) (field (word w.Char) (as_ a) ∷ []) ∷ []) [] empty

abbrev inner_s : Scope
inner_s =
    declaration (built.tag typing 0 kind.Struct (s_tag 37) ∷ []) (pointer (as_ b) ∷ [])
    (declaration (built.tag typing 0 kind.Struct (s_tag 27) ∷ []) [] (enter outer_s))

abbrev b_arrow_a : OfExpr
b_arrow_a = built.arrow typing 50 (the b) a

pub row_hidden_tag : (typed b_arrow_a.tree inner_s).faults ≡ record {
  at = 50;
  rule =
      rule.Layout layout.Incomplete;
} ∷ []
unfolding typed
row_hidden_tag = ap (λ f. (f inner_s).faults) b_arrow_a.is

abbrev size_of_s : OfExpr
size_of_s = size_of_type (built.tag typing 0 kind.Struct (s_tag 70) ∷ []) omitted

pub row_tag_again : constant_of (typed size_of_s.tree (leave inner_s)) ≡ Some (pos 1)
unfolding typed
row_tag_again = ap (λ f. constant_of (f (leave inner_s))) size_of_s.is

-- ---- typedef char a; int f(int a, int b[sizeof a]); : the parameter hides the typedef, and only in its own scope

abbrev typedef_a : Scope
typedef_a = declaration (built.storage typing 0 class.Typedef ∷ word w.Char ∷ []) (as_ a ∷ []) empty

abbrev hidden_by_parameter : OfDeclarator
hidden_by_parameter = built.function typing 0 (as_ c)
    (built.parameter typing (word w.Int ∷ []) (as_ a)
    ∷ built.parameter typing (word w.Int ∷ []) (pointer (built.array typing 0 (as_ b) [] (Some (built.sizeof_expr
    typing 0 (the a))))) ∷ [])
    false

pub row_typedef_hidden : (declaration_faults (word w.Int ∷ []) (hidden_by_parameter ∷ []) typedef_a) ≡ []
row_typedef_hidden = refl

pub row_typedef_again : (declaration_faults (built.typedef typing 0 a ∷ []) (as_ b ∷ []) (declaration (word w.Int
    ∷ []) (hidden_by_parameter ∷ []) typedef_a)) ≡ []
row_typedef_again = refl

-- an expression names no typedef
pub row_typedef_is_no_expression : ((the a).says typedef_a).faults ≡ record { at = 0; rule = rule.Undeclared } ∷ []
row_typedef_is_no_expression = refl

-- ---- initializers: int a[] = { 1, 2, 3 }; struct { int a; int b; } c[] = { 1, 2, 3 }; char b[] = "xy";

abbrev value : OfExpr → InitialSaid
value x = value_says {E = ExprSays} itself x.says

abbrev braces : List InitialSaid → InitialSaid
braces xs = list_says 0 (undesignated xs)
  where
    undesignated : List InitialSaid → List Fills
    undesignated [] = []
    undesignated (x ∷ xs) = item_says {E = ExprSays} itself [] x ∷ undesignated xs

abbrev initialised_declaration : List OfSpecifier → OfDeclarator → InitialSaid → Scope → Declares
initialised_declaration ss d x s =
    declaration_by (built.all_say (fold_specifier {c = Says ExprSays} typing) ss) (record {
      declarator =
          d.says;
      initial = Some (initialises x);
    } ∷ []) s

abbrev unknown_length : Name → OfDeclarator
unknown_length name = built.array typing 0 (as_ name) [] None

abbrev size_of_name : Name → Scope → Option ℤ
size_of_name name s = constant_of ((built.sizeof_expr typing 0 (the name)).says s)

abbrev one_two_three : InitialSaid
one_two_three = braces (value (number 1) ∷ value (number 2) ∷ value (number 3) ∷ [])

pub row_length_of_list : size_of_name a (initialised_declaration (word w.Int
    ∷ []) (unknown_length a) one_two_three empty).after ≡ Some (pos 12)
row_length_of_list = refl

abbrev pair_of_ints : OfSpecifier
pair_of_ints = structure None (field (word w.Int) (as_ a) ∷ field (word w.Int) (as_ b) ∷ [])

pub row_length_without_braces : size_of_name c (initialised_declaration (pair_of_ints
    ∷ []) (unknown_length c) one_two_three empty).after ≡ Some (pos 16)
row_length_without_braces = refl

abbrev two_letters : OfExpr
two_letters = built.string typing 0 ((120 ∷ 121 ∷ []) ∷ [])

pub row_length_of_literal : size_of_name b (initialised_declaration (word w.Char
    ∷ []) (unknown_length b) (value two_letters) empty).after ≡ Some (pos 3)
row_length_of_literal = refl

pub row_too_many : (initialised_declaration (word w.Int ∷ []) (as_ a) one_two_three empty).faults ≡
    record { at = 0; rule = rule.TypeMismatch } ∷ record { at = 0; rule = rule.TypeMismatch } ∷ []
row_too_many = refl

-- struct { int a; int b; } c = { 1, 2, { 3 } }; the list in excess, and its value
pub row_list_in_excess : (initialised_declaration (pair_of_ints ∷ []) (as_ c) (braces (value (number 1)
    ∷ value (number 2) ∷ braces (value (number 3) ∷ []) ∷ [])) empty).faults ≡
    record { at = 0; rule = rule.TypeMismatch } ∷ record { at = 0; rule = rule.TypeMismatch } ∷ []
row_list_in_excess = refl

-- struct { int a; int b; } c[] = { 1, 2, { 3 } }; the list is for the next element
pub row_list_behind_a_full_part : size_of_name c (initialised_declaration (pair_of_ints
    ∷ []) (unknown_length c) (braces (value (number 1) ∷ value (number 2)
    ∷ braces (value (number 3) ∷ []) ∷ [])) empty).after ≡ Some (pos 16)
row_list_behind_a_full_part = refl
