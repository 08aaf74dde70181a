-- What the grammar derives is read: expressions, declaration specifiers and declarators.
use Rattle.std.proofs.Common.{◌≡◌, ◌≤◌, ◌<◌, ℕ, List, [], ◌∷◌, Some, Bool, true, false}
use Rattle.c_language.specs.declared.token.Punctuator.TheVariants as mark
use Rattle.c_language.specs.declared.expr.Expr.{Expr}
use Rattle.c_language.specs.declared.expr.Specifier.{Specifier}
use Rattle.c_language.specs.declared.expr.Declarator.{Declarator}
use Rattle.c_language.specs.declared.expr.TypeName.{TypeName}
use Rattle.c_grammar.specs.declared.declarator_place.DeclaratorPlace.{DeclaratorPlace}
use Rattle.c_grammar.specs.Parts.{State, Spans, specifies_in}
use Rattle.c_grammar.specs.Grammar.{
  Derives,
  DerivesSpecifier,
  DerivesDeclarator,
  all_specified,
  specification,
  highest_specifier,
  ended_in,
  type_name_of,
}
use Rattle.c_grammar.specs.Reading.{rules, begins, binds, specification_at, type_name_at}
use Rattle.c_language.proofs.Induction.{Each, Steps, of_expr, of_specifier, of_declarator, of_type_name}
use Rattle.c_grammar.proofs.Begins.{specifies}
use Rattle.c_grammar.proofs.Reach.{ExprRead, read_from, inner}
use Rattle.c_grammar.proofs.Read.{
  SpecifierRead,
  inner_specifier,
  DeclaratorRead,
  inner_declarator,
  FieldRead,
  EnumeratorRead,
  MemberRead,
  ParameterRead,
  TypeNameRead,
}
use Rattle.c_grammar.proofs.ExprsComplete.{
  integer_base,
  floating_base,
  character_base,
  function_name_base,
  identifier_base,
  literal_base,
  parenthesized_base,
  subscript_base,
  call_base,
  member_base,
  arrow_base,
  postfix_base,
  unary_base,
  sizeof_expr_base,
  sizeof_type_base,
  cast_base,
  binary_base,
  conditional_base,
  assign_base,
  comma_base,
}
use Rattle.c_grammar.proofs.SpecifiersComplete.{
  specification_read,
  storage_read,
  qualifier_read,
  inline_read,
  word_read,
  typedef_read,
  tag_read,
  enum_tag_read,
  enumerator_read,
  enumeration_read,
  plain_read,
  bits_read,
  member_read,
  aggregate_read,
}
use Rattle.c_grammar.proofs.DeclaratorsComplete.{
  name_base,
  omitted_base,
  grouped_base,
  pointer_base,
  array_base,
  function_base,
  parameter_read,
  type_name_read,
}

read_steps : Steps DeclaratorRead ExprRead FieldRead SpecifierRead EnumeratorRead MemberRead ParameterRead TypeNameRead
read_steps = record {
  on_integer = λ at constant. read_from _ (integer_base at constant);
  on_floating = λ at. read_from _ (floating_base at);
  on_character = λ at value. read_from _ (character_base at value);
  on_string_literal = λ at pieces. read_from _ (literal_base at pieces);
  on_function_name = λ at. read_from _ (function_name_base at);
  on_identifier = λ at name. read_from _ (identifier_base at name);
  on_parenthesized = λ at e i. read_from _ (parenthesized_base at e i);
  on_subscript = λ at array index i j. read_from _ (subscript_base at array index i j);
  on_call = λ at callee arguments i js. read_from _ (call_base at callee arguments i js);
  on_member = λ at object member i. read_from _ (member_base at object member i);
  on_arrow = λ at pointer member i. read_from _ (arrow_base at pointer member i);
  on_postfix = λ at operator operand i. read_from _ (postfix_base at operator operand i);
  on_unary = λ at operator operand i. read_from _ (unary_base at operator operand i);
  on_sizeof_expr = λ at operand i. read_from _ (sizeof_expr_base at operand i);
  on_sizeof_type = λ at type_name i. read_from _ (sizeof_type_base at type_name i);
  on_cast = λ at type_name operand i j. read_from _ (cast_base at type_name operand i j);
  on_binary = λ at operator left right i j. read_from _ (binary_base at operator left right i j);
  on_conditional =
      λ at condition positive negative i j k. read_from _ (conditional_base at condition positive negative i j k);
  on_assign = λ at operator target value i j. read_from _ (assign_base at operator target value i j);
  on_comma = λ at left right i j. read_from _ (comma_base at left right i j);
  on_specifier_storage = storage_read;
  on_specifier_qualifier = qualifier_read;
  on_specifier_inline = inline_read;
  on_specifier_word = word_read;
  on_specifier_typedef = typedef_read;
  on_specifier_tag = tag_read;
  on_specifier_aggregate = aggregate_read;
  on_specifier_enum_tag = enum_tag_read;
  on_specifier_enumeration = enumeration_read;
  on_field_plain = plain_read;
  on_field_bits = bits_read;
  on_declarator_name = name_base;
  on_declarator_omitted = omitted_base;
  on_declarator_grouped = grouped_base;
  on_declarator_pointer = pointer_base;
  on_declarator_array = array_base;
  on_declarator_function = function_base;
  on_type_name = type_name_read;
  on_member_declaration = member_read;
  on_enumerator = enumerator_read;
  on_parameter = parameter_read;
}

expr_read : (e : Expr) → ExprRead e
expr_read e =
    of_expr DeclaratorRead ExprRead FieldRead SpecifierRead EnumeratorRead MemberRead ParameterRead TypeNameRead
    read_steps e

specifier_read : (x : Specifier) → SpecifierRead x
specifier_read x =
    of_specifier DeclaratorRead ExprRead FieldRead SpecifierRead EnumeratorRead MemberRead ParameterRead TypeNameRead
    read_steps x

declarator_read : (d : Declarator) → DeclaratorRead d
declarator_read d =
    of_declarator DeclaratorRead ExprRead FieldRead SpecifierRead EnumeratorRead MemberRead ParameterRead TypeNameRead
    read_steps d

type_read : (x : TypeName) → TypeNameRead x
type_read x =
    of_type_name DeclaratorRead ExprRead FieldRead SpecifierRead EnumeratorRead MemberRead ParameterRead TypeNameRead
    read_steps x

each_specifier : (xs : List Specifier) → Each SpecifierRead xs
each_specifier [] = tt
each_specifier (x ∷ xs) = (specifier_read x, each_specifier xs)

-- an expression before a token that no operator begins which binds so tightly
pub expr_complete : (limit rank : ℕ) (s z : State) (e : Expr) → Derives limit rank s e z → rank < binds z →
    (rules limit).expr rank s ≡ Some (e, z)
expr_complete limit rank s z e d h = inner e (expr_read e) limit rank s z d.spans d.fits d.low h

-- a specifier before no `{`
pub specifier_complete : (limit : ℕ) (typed : Bool) (s z : State) (x : Specifier) → DerivesSpecifier limit typed s x
    z → begins mark.LeftBrace z ≡ false → ((rules limit).specifier s ≡ Some (x, z)) × (specifies_in typed s.0 s.1 ≡
    true)
specifier_complete limit typed s z x d h =
    (inner_specifier x (specifier_read x) limit typed s z d.spans d.low h, (specifies x typed s z d.spans).begins)

-- a declarator before a token that ends it
pub declarator_complete : (limit : ℕ) (where_ : DeclaratorPlace) (s z : State) (d : Declarator) → DerivesDeclarator
    limit where_ s d z → ended_in z.0 ≡ true → (rules limit).declarator where_ s ≡ Some (d, z)
declarator_complete limit where_ s z d x h =
    inner_declarator d (declarator_read d) limit where_ s z x.spans x.named x.low h

-- the specifiers of a declaration, before no further one
pub specification_complete : (limit : ℕ) (s z : State) (xs : List Specifier) →
    Spans (specification (all_specified xs)) s z → highest_specifier (all_specified xs) ≤ limit → specifies_in true
    z.0 z.1 ≡ false → begins mark.LeftBrace z ≡ false → specification_at (rules limit) s ≡ Some (xs, z)
specification_complete limit s z xs x low ends brace =
    specification_read limit xs s z (each_specifier xs) low x ends brace

-- a type name before a token that ends a declarator
pub type_name_complete : (limit : ℕ) (s z : State) (x : TypeName) → Spans (type_name_of x).parts s z →
    (type_name_of x).height ≤ limit → ended_in z.0 ≡ true → begins mark.LeftBrace z ≡ false →
    type_name_at (rules limit) s ≡ Some (x, z)
type_name_complete limit s z x y low ended brace =
    type_read x limit s z y low (record { ended = ended; no_brace = brace })
