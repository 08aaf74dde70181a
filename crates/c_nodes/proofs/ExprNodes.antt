-- The ranks and heights of expressions that are made.
use Rattle.std.proofs.Common.{◌≡◌, ℕ, ℤ, suc, List, Option, refl, sym, ap, ◌∙◌, arith, ◌+◌}
use Rattle.std.specs.Prelude.{max, map}
use Rattle.c_language.specs.declared.token.IntegerConstant.{IntegerConstant}
use Rattle.c_language.specs.declared.expr.BinaryOperator.{BinaryOperator}
use Rattle.c_language.specs.declared.expr.PostfixOperator.{PostfixOperator}
use Rattle.c_language.specs.declared.expr.UnaryOperator.{UnaryOperator}
use Rattle.c_language.specs.declared.expr.TypeName.{TypeName}
use Rattle.c_language.specs.declared.expr.Expr.{Expr}
use Rattle.c_language.specs.declared.expr.Expr.TheVariants as expr
use Rattle.c_grammar.specs.Spelling.{rank_of}
use Rattle.c_grammar.specs.Grammar.{shape, highest_shape, type_name_of}
use Rattle.c_grammar.proofs.Equations.{
  shape-Integer,
  shape-Floating,
  shape-Character,
  shape-StringLiteral,
  shape-FunctionName,
  shape-Identifier,
  shape-Parenthesized,
  shape-Subscript,
  shape-Call,
  shape-Member,
  shape-Arrow,
  shape-Postfix,
  shape-Unary,
  shape-SizeofExpr,
  shape-SizeofType,
  shape-Cast,
  shape-Binary,
  shape-Conditional,
  shape-Assign,
  shape-Comma,
}

pub rank_parenthesized : (at : ℕ) (inner : Expr) → 0 ≡ (shape (expr.Parenthesized at inner)).rank
rank_parenthesized at inner = sym (ap (λ w. w.rank) (shape-Parenthesized at inner))

pub height_parenthesized : (at : ℕ) (inner : Expr) (h0 h : ℕ) → h0 ≡ (shape inner).height → h ≡ h0 →
    h + 1 ≡ (shape (expr.Parenthesized at inner)).height
height_parenthesized at inner h0 h e0 g =
    let s = ap (λ w. w.height) (shape-Parenthesized at inner) in
    omega (arith, s)

pub rank_subscript : (at : ℕ) (array : Expr) (index : Expr) → 1 ≡ (shape (expr.Subscript at array index)).rank
rank_subscript at array index = sym (ap (λ w. w.rank) (shape-Subscript at array index))

pub height_subscript : (at : ℕ) (array : Expr) (index : Expr) (h0 h1 h : ℕ) → h0 ≡ (shape array).height →
    h1 ≡ (shape index).height → h ≡ (max h0 h1) → h + 1 ≡ (shape (expr.Subscript at array index)).height
height_subscript at array index h0 h1 h e0 e1 g =
    let s = ap (λ w. w.height) (shape-Subscript at array index) in
    omega (arith, s)

pub rank_member : (at : ℕ) (object : Expr) (member : List ℕ) → 1 ≡ (shape (expr.Member at object member)).rank
rank_member at object member = sym (ap (λ w. w.rank) (shape-Member at object member))

pub height_member : (at : ℕ) (object : Expr) (member : List ℕ) (h0 h : ℕ) → h0 ≡ (shape object).height →
    h ≡ h0 → h + 1 ≡ (shape (expr.Member at object member)).height
height_member at object member h0 h e0 g =
    let s = ap (λ w. w.height) (shape-Member at object member) in
    omega (arith, s)

pub rank_arrow : (at : ℕ) (pointer : Expr) (member : List ℕ) → 1 ≡ (shape (expr.Arrow at pointer member)).rank
rank_arrow at pointer member = sym (ap (λ w. w.rank) (shape-Arrow at pointer member))

pub height_arrow : (at : ℕ) (pointer : Expr) (member : List ℕ) (h0 h : ℕ) → h0 ≡ (shape pointer).height →
    h ≡ h0 → h + 1 ≡ (shape (expr.Arrow at pointer member)).height
height_arrow at pointer member h0 h e0 g =
    let s = ap (λ w. w.height) (shape-Arrow at pointer member) in
    omega (arith, s)

pub rank_postfix : (at : ℕ) (operator : PostfixOperator) (operand : Expr) →
    1 ≡ (shape (expr.Postfix at operator operand)).rank
rank_postfix at operator operand = sym (ap (λ w. w.rank) (shape-Postfix at operator operand))

pub height_postfix : (at : ℕ) (operator : PostfixOperator) (operand : Expr) (h0 h : ℕ) →
    h0 ≡ (shape operand).height → h ≡ h0 → h + 1 ≡ (shape (expr.Postfix at operator operand)).height
height_postfix at operator operand h0 h e0 g =
    let s = ap (λ w. w.height) (shape-Postfix at operator operand) in
    omega (arith, s)

pub rank_unary : (at : ℕ) (operator : UnaryOperator) (operand : Expr) →
    2 ≡ (shape (expr.Unary at operator operand)).rank
rank_unary at operator operand = sym (ap (λ w. w.rank) (shape-Unary at operator operand))

pub height_unary : (at : ℕ) (operator : UnaryOperator) (operand : Expr) (h0 h : ℕ) →
    h0 ≡ (shape operand).height → h ≡ h0 → h + 1 ≡ (shape (expr.Unary at operator operand)).height
height_unary at operator operand h0 h e0 g =
    let s = ap (λ w. w.height) (shape-Unary at operator operand) in
    omega (arith, s)

pub rank_sizeof_expr : (at : ℕ) (operand : Expr) → 2 ≡ (shape (expr.SizeofExpr at operand)).rank
rank_sizeof_expr at operand = sym (ap (λ w. w.rank) (shape-SizeofExpr at operand))

pub height_sizeof_expr : (at : ℕ) (operand : Expr) (h0 h : ℕ) → h0 ≡ (shape operand).height → h ≡ h0 →
    h + 1 ≡ (shape (expr.SizeofExpr at operand)).height
height_sizeof_expr at operand h0 h e0 g =
    let s = ap (λ w. w.height) (shape-SizeofExpr at operand) in
    omega (arith, s)

pub rank_binary : (at : ℕ) (operator : BinaryOperator) (left : Expr) (right : Expr) →
    rank_of operator ≡ (shape (expr.Binary at operator left right)).rank
rank_binary at operator left right = sym (ap (λ w. w.rank) (shape-Binary at operator left right))

pub height_binary : (at : ℕ) (operator : BinaryOperator) (left : Expr) (right : Expr) (h0 h1 h : ℕ) →
    h0 ≡ (shape left).height → h1 ≡ (shape right).height → h ≡ (max h0 h1) →
    h + 1 ≡ (shape (expr.Binary at operator left right)).height
height_binary at operator left right h0 h1 h e0 e1 g =
    let s = ap (λ w. w.height) (shape-Binary at operator left right) in
    omega (arith, s)

pub rank_conditional : (at : ℕ) (condition : Expr) (positive : Expr) (negative : Expr) →
    14 ≡ (shape (expr.Conditional at condition positive negative)).rank
rank_conditional at condition positive negative = sym
    (ap (λ w. w.rank) (shape-Conditional at condition positive negative))

pub height_conditional : (at : ℕ) (condition : Expr) (positive : Expr) (negative : Expr) (h0 h1 h2 h : ℕ) →
    h0 ≡ (shape condition).height → h1 ≡ (shape positive).height → h2 ≡ (shape negative).height →
    h ≡ (max h0 (max h1 h2)) → h + 1 ≡ (shape (expr.Conditional at condition positive negative)).height
height_conditional at condition positive negative h0 h1 h2 h e0 e1 e2 g =
    let s = ap (λ w. w.height) (shape-Conditional at condition positive negative) in
    omega (arith, s)

pub rank_assign : (at : ℕ) (operator : Option BinaryOperator) (target : Expr) (value : Expr) →
    15 ≡ (shape (expr.Assign at operator target value)).rank
rank_assign at operator target value = sym (ap (λ w. w.rank) (shape-Assign at operator target value))

pub height_assign : (at : ℕ) (operator : Option BinaryOperator) (target : Expr) (value : Expr) (h0 h1 h : ℕ) →
    h0 ≡ (shape target).height → h1 ≡ (shape value).height → h ≡ (max h0 h1) →
    h + 1 ≡ (shape (expr.Assign at operator target value)).height
height_assign at operator target value h0 h1 h e0 e1 g =
    let s = ap (λ w. w.height) (shape-Assign at operator target value) in
    omega (arith, s)

pub rank_comma : (at : ℕ) (left : Expr) (right : Expr) → 16 ≡ (shape (expr.Comma at left right)).rank
rank_comma at left right = sym (ap (λ w. w.rank) (shape-Comma at left right))

pub height_comma : (at : ℕ) (left : Expr) (right : Expr) (h0 h1 h : ℕ) → h0 ≡ (shape left).height →
    h1 ≡ (shape right).height → h ≡ (max h0 h1) → h + 1 ≡ (shape (expr.Comma at left right)).height
height_comma at left right h0 h1 h e0 e1 g =
    let s = ap (λ w. w.height) (shape-Comma at left right) in
    omega (arith, s)

pub rank_integer : (at : ℕ) (constant : IntegerConstant) → 0 ≡ (shape (expr.Integer at constant)).rank
rank_integer at constant = sym (ap (λ w. w.rank) (shape-Integer at constant))

pub height_integer : (at : ℕ) (constant : IntegerConstant) → 1 ≡ (shape (expr.Integer at constant)).height
height_integer at constant = sym (ap (λ w. w.height) (shape-Integer at constant))

pub rank_floating : (at : ℕ) → 0 ≡ (shape (expr.Floating at)).rank
rank_floating at = sym (ap (λ w. w.rank) (shape-Floating at))

pub height_floating : (at : ℕ) → 1 ≡ (shape (expr.Floating at)).height
height_floating at = sym (ap (λ w. w.height) (shape-Floating at))

pub rank_character : (at : ℕ) (value : ℤ) → 0 ≡ (shape (expr.Character at value)).rank
rank_character at value = sym (ap (λ w. w.rank) (shape-Character at value))

pub height_character : (at : ℕ) (value : ℤ) → 1 ≡ (shape (expr.Character at value)).height
height_character at value = sym (ap (λ w. w.height) (shape-Character at value))

pub rank_function_name : (at : ℕ) → 0 ≡ (shape (expr.FunctionName at)).rank
rank_function_name at = sym (ap (λ w. w.rank) (shape-FunctionName at))

pub height_function_name : (at : ℕ) → 1 ≡ (shape (expr.FunctionName at)).height
height_function_name at = sym (ap (λ w. w.height) (shape-FunctionName at))

pub rank_identifier : (at : ℕ) (name : List ℕ) → 0 ≡ (shape (expr.Identifier at name)).rank
rank_identifier at name = sym (ap (λ w. w.rank) (shape-Identifier at name))

pub height_identifier : (at : ℕ) (name : List ℕ) → 1 ≡ (shape (expr.Identifier at name)).height
height_identifier at name = sym (ap (λ w. w.height) (shape-Identifier at name))

pub rank_string_literal : (at : ℕ) (pieces : List (List ℕ)) → 0 ≡ (shape (expr.StringLiteral at pieces)).rank
rank_string_literal at pieces = sym (ap (λ w. w.rank) (shape-StringLiteral at pieces))

pub height_string_literal : (at : ℕ) (pieces : List (List ℕ)) → 1 ≡ (shape (expr.StringLiteral at pieces)).height
height_string_literal at pieces = sym (ap (λ w. w.height) (shape-StringLiteral at pieces))

pub rank_call : (at : ℕ) (callee : Expr) (arguments : List Expr) → 1 ≡ (shape (expr.Call at callee arguments)).rank
rank_call at callee arguments = sym (ap (λ w. w.rank) (shape-Call at callee arguments))

pub height_call : (at : ℕ) (callee : Expr) (arguments : List Expr) (h0 h1 h : ℕ) → h0 ≡ (shape callee).height →
    h1 ≡ highest_shape (map shape arguments) → h ≡ (max h0 h1) →
    h + 1 ≡ (shape (expr.Call at callee arguments)).height
height_call at callee arguments h0 h1 h e0 e1 g =
    let s = ap (λ w. w.height) (shape-Call at callee arguments) in
    omega (arith, s)

pub rank_sizeof_type : (at : ℕ) (t : TypeName) → 2 ≡ (shape (expr.SizeofType at t)).rank
rank_sizeof_type at t = sym (ap (λ w. w.rank) (shape-SizeofType at t))

pub height_sizeof_type : (at : ℕ) (t : TypeName) (h : ℕ) → h ≡ (type_name_of t).height →
    h + 1 ≡ (shape (expr.SizeofType at t)).height
height_sizeof_type at t h e =
    let s = ap (λ w. w.height) (shape-SizeofType at t) in
    omega (arith, s)

pub rank_cast : (at : ℕ) (t : TypeName) (operand : Expr) → 3 ≡ (shape (expr.Cast at t operand)).rank
rank_cast at t operand = sym (ap (λ w. w.rank) (shape-Cast at t operand))

pub height_cast : (at : ℕ) (t : TypeName) (operand : Expr) (h0 h1 h : ℕ) → h0 ≡ (type_name_of t).height →
    h1 ≡ (shape operand).height → h ≡ (max h0 h1) → h + 1 ≡ (shape (expr.Cast at t operand)).height
height_cast at t operand h0 h1 h e0 e1 g =
    let s = ap (λ w. w.height) (shape-Cast at t operand) in
    omega (arith, s)
