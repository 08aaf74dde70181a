-- The names of each kind of tree, in terms of those of the trees in it.
use Rattle.std.proofs.Common.{◌≡◌, ℕ, ℤ, List, [], ◌∷◌, Option, Some, None, Bool, refl, sym, ap, ◌∙◌}
use Rattle.std.specs.Prelude.{map, option_map}
use Rattle.c_language.specs.declared.token.IntegerConstant.{IntegerConstant}
use Rattle.c_language.specs.declared.expr.UnaryOperator.{UnaryOperator}
use Rattle.c_language.specs.declared.expr.PostfixOperator.{PostfixOperator}
use Rattle.c_language.specs.declared.expr.BinaryOperator.{BinaryOperator}
use Rattle.c_language.specs.declared.expr.StorageClass.{StorageClass}
use Rattle.c_language.specs.declared.expr.Qualifier.{Qualifier}
use Rattle.c_language.specs.declared.expr.TypeWord.{TypeWord}
use Rattle.c_language.specs.declared.expr.AggregateKind.{AggregateKind}
use Rattle.c_language.specs.declared.expr.ArrayWord.{ArrayWord}
use Rattle.c_language.specs.declared.expr.TagName.{TagName}
use Rattle.c_language.specs.declared.expr.Expr.{Expr}
use Rattle.c_language.specs.declared.expr.Field.{Field}
use Rattle.c_language.specs.declared.expr.Specifier.{Specifier}
use Rattle.c_language.specs.declared.expr.Declarator.{Declarator}
use Rattle.c_language.specs.declared.expr.Enumerator.{Enumerator}
use Rattle.c_language.specs.declared.expr.MemberDeclaration.{MemberDeclaration}
use Rattle.c_language.specs.declared.expr.Parameter.{Parameter}
use Rattle.c_language.specs.declared.expr.TypeName.{TypeName}
use Rattle.c_language.specs.declared.expr.Expr.TheVariants as expr
use Rattle.c_language.specs.declared.expr.Specifier.TheVariants as specifier
use Rattle.c_language.specs.declared.expr.Field.TheVariants as field
use Rattle.c_language.specs.declared.expr.Declarator.TheVariants as declarator
use Rattle.c_language.specs.declared.unit.Declaration.{Declaration}
use Rattle.c_language.specs.declared.unit.ForStart.{ForStart}
use Rattle.c_language.specs.declared.unit.Initializer.{Initializer, fold-roll-Initializer}
use Rattle.c_language.specs.declared.unit.Initializer.TheOpen as initial_open
use Rattle.c_language.specs.declared.unit.Initializer.TheVariants as initial
use Rattle.c_language.specs.declared.unit.Initializer.TheVariants.{rolls-Value as rolls-Initializer-Value}
use Rattle.c_language.specs.declared.unit.Initializer.TheVariants.{rolls-List as rolls-Initializer-List}
use Rattle.c_language.specs.declared.unit.InitializerItem.{InitializerItem, fold-roll-InitializerItem}
use Rattle.c_language.specs.declared.unit.Stmt.{Stmt, fold-roll-Stmt}
use Rattle.c_language.specs.declared.unit.Stmt.TheOpen as stmt_open
use Rattle.c_language.specs.declared.unit.Stmt.TheVariants as stmt
use Rattle.c_language.specs.declared.unit.Stmt.TheVariants.{rolls-Block, rolls-Declared, rolls-Value, rolls-Label}
use Rattle.c_language.specs.declared.unit.Stmt.TheVariants.{rolls-Case}
use Rattle.c_language.specs.declared.unit.Stmt.TheVariants.{rolls-Default, rolls-If, rolls-Switch, rolls-While, rolls-Do}
use Rattle.c_language.specs.declared.unit.Stmt.TheVariants.{rolls-For, rolls-Goto, rolls-Continue, rolls-Break}
use Rattle.c_language.specs.declared.unit.Stmt.TheVariants.{rolls-Return}
use Rattle.c_language.proofs.Folds as eq
use Rattle.c_language.specs.Scopes.{Name}
use Rattle.c_means.specs.Expressions.{joined}
use Rattle.c_means.specs.Names.{Names, naming, none, using, ordinary, tagged, literal, declaring, ◌then◌, all}
use Rattle.c_means.specs.Names.{if_some, scoped, settled, tag_declared, tag_used, derived, function_names, with_name}
use Rattle.c_means.specs.Names.{names_of, declarator_names, specifier_of, all_of, of_some, designator_names}
use Rattle.c_means.specs.Names.{initializer_names, initializer_step, item_step, declaration_names, start_names}
use Rattle.c_means.specs.Names.{stmt_names, stmt_step}
use Rattle.c_names.specs.Trees.{field_names, enumerator_names, member_names, parameter_names, type_name_names}
use Rattle.c_names.specs.Trees.{item_names}

-- ---- expressions

pub names-Integer : {x : Expr} (at : ℕ) (constant : IntegerConstant) → x ≡ expr.Integer at constant → names_of x ≡ none
unfolding names_of declarator_names specifier_of field_names enumerator_names member_names parameter_names
    type_name_names
names-Integer at constant is = ap names_of is ∙ eq.fold-Integer naming at constant

pub names-Floating : {x : Expr} (at : ℕ) → x ≡ expr.Floating at → names_of x ≡ none
unfolding names_of declarator_names specifier_of field_names enumerator_names member_names parameter_names
    type_name_names
names-Floating at is = ap names_of is ∙ eq.fold-Floating naming at

pub names-Character : {x : Expr} (at : ℕ) (value : ℤ) → x ≡ expr.Character at value → names_of x ≡ none
unfolding names_of declarator_names specifier_of field_names enumerator_names member_names parameter_names
    type_name_names
names-Character at value is = ap names_of is ∙ eq.fold-Character naming at value

pub names-StringLiteral : {x : Expr} (at : ℕ) (pieces : List (List ℕ)) → x ≡ expr.StringLiteral at pieces → names_of x ≡ literal at (Some (joined pieces))
unfolding names_of declarator_names specifier_of field_names enumerator_names member_names parameter_names
    type_name_names
names-StringLiteral at pieces is = ap names_of is ∙ eq.fold-StringLiteral naming at pieces

pub names-FunctionName : {x : Expr} (at : ℕ) → x ≡ expr.FunctionName at → names_of x ≡ literal at None
unfolding names_of declarator_names specifier_of field_names enumerator_names member_names parameter_names
    type_name_names
names-FunctionName at is = ap names_of is ∙ eq.fold-FunctionName naming at

pub names-Identifier : {x : Expr} (at : ℕ) (name : Name) → x ≡ expr.Identifier at name → names_of x ≡ using (ordinary name)
unfolding names_of declarator_names specifier_of field_names enumerator_names member_names parameter_names
    type_name_names
names-Identifier at name is = ap names_of is ∙ eq.fold-Identifier naming at name

pub names-Parenthesized : {x : Expr} (at : ℕ) (y : Expr) → x ≡ expr.Parenthesized at y → names_of x ≡ names_of y
unfolding names_of declarator_names specifier_of field_names enumerator_names member_names parameter_names
    type_name_names
names-Parenthesized at y is = ap names_of is ∙ eq.fold-Parenthesized naming at y

pub names-Subscript : {x : Expr} (at : ℕ) (y : Expr) (z : Expr) → x ≡ expr.Subscript at y z → names_of x ≡ (names_of y then names_of z)
unfolding names_of declarator_names specifier_of field_names enumerator_names member_names parameter_names
    type_name_names
names-Subscript at y z is = ap names_of is ∙ eq.fold-Subscript naming at y z

pub names-Call : {x : Expr} (at : ℕ) (y : Expr) (zs : List Expr) → x ≡ expr.Call at y zs → names_of x ≡ (names_of y then all (map names_of zs))
unfolding names_of declarator_names specifier_of field_names enumerator_names member_names parameter_names
    type_name_names
names-Call at y zs is = ap names_of is ∙ eq.fold-Call naming at y zs

pub names-Member : {x : Expr} (at : ℕ) (y : Expr) (name : Name) → x ≡ expr.Member at y name → names_of x ≡ names_of y
unfolding names_of declarator_names specifier_of field_names enumerator_names member_names parameter_names
    type_name_names
names-Member at y name is = ap names_of is ∙ eq.fold-Member naming at y name

pub names-Arrow : {x : Expr} (at : ℕ) (y : Expr) (name : Name) → x ≡ expr.Arrow at y name → names_of x ≡ names_of y
unfolding names_of declarator_names specifier_of field_names enumerator_names member_names parameter_names
    type_name_names
names-Arrow at y name is = ap names_of is ∙ eq.fold-Arrow naming at y name

pub names-Postfix : {x : Expr} (at : ℕ) (op : PostfixOperator) (y : Expr) → x ≡ expr.Postfix at op y → names_of x ≡ names_of y
unfolding names_of declarator_names specifier_of field_names enumerator_names member_names parameter_names
    type_name_names
names-Postfix at op y is = ap names_of is ∙ eq.fold-Postfix naming at op y

pub names-Unary : {x : Expr} (at : ℕ) (op : UnaryOperator) (y : Expr) → x ≡ expr.Unary at op y → names_of x ≡ names_of y
unfolding names_of declarator_names specifier_of field_names enumerator_names member_names parameter_names
    type_name_names
names-Unary at op y is = ap names_of is ∙ eq.fold-Unary naming at op y

pub names-SizeofExpr : {x : Expr} (at : ℕ) (y : Expr) → x ≡ expr.SizeofExpr at y → names_of x ≡ names_of y
unfolding names_of declarator_names specifier_of field_names enumerator_names member_names parameter_names
    type_name_names
names-SizeofExpr at y is = ap names_of is ∙ eq.fold-SizeofExpr naming at y

pub names-SizeofType : {x : Expr} (at : ℕ) (y : TypeName) → x ≡ expr.SizeofType at y → names_of x ≡ type_name_names y
unfolding names_of declarator_names specifier_of field_names enumerator_names member_names parameter_names
    type_name_names
names-SizeofType at y is = ap names_of is ∙ eq.fold-SizeofType naming at y

pub names-Cast : {x : Expr} (at : ℕ) (y : TypeName) (z : Expr) → x ≡ expr.Cast at y z → names_of x ≡ (type_name_names y then names_of z)
unfolding names_of declarator_names specifier_of field_names enumerator_names member_names parameter_names
    type_name_names
names-Cast at y z is = ap names_of is ∙ eq.fold-Cast naming at y z

pub names-Binary : {x : Expr} (at : ℕ) (op : BinaryOperator) (y : Expr) (z : Expr) → x ≡ expr.Binary at op y z → names_of x ≡ (names_of y then names_of z)
unfolding names_of declarator_names specifier_of field_names enumerator_names member_names parameter_names
    type_name_names
names-Binary at op y z is = ap names_of is ∙ eq.fold-Binary naming at op y z

pub names-Conditional : {x : Expr} (at : ℕ) (c : Expr) (y : Expr) (z : Expr) → x ≡ expr.Conditional at c y z → names_of x ≡ (names_of c then names_of y then names_of z)
unfolding names_of declarator_names specifier_of field_names enumerator_names member_names parameter_names
    type_name_names
names-Conditional at c y z is = ap names_of is ∙ eq.fold-Conditional naming at c y z

pub names-Assign : {x : Expr} (at : ℕ) (op : Option BinaryOperator) (y : Expr) (z : Expr) → x ≡ expr.Assign at op y z → names_of x ≡ (names_of y then names_of z)
unfolding names_of declarator_names specifier_of field_names enumerator_names member_names parameter_names
    type_name_names
names-Assign at op y z is = ap names_of is ∙ eq.fold-Assign naming at op y z

pub names-Comma : {x : Expr} (at : ℕ) (y : Expr) (z : Expr) → x ≡ expr.Comma at y z → names_of x ≡ (names_of y then names_of z)
unfolding names_of declarator_names specifier_of field_names enumerator_names member_names parameter_names
    type_name_names
names-Comma at y z is = ap names_of is ∙ eq.fold-Comma naming at y z

-- ---- declarators

pub declarator-Name : {x : Declarator} (at : ℕ) (name : Name) → x ≡ declarator.Name at name → declarator_names x ≡ record none { named = Some (at, name) }
unfolding names_of declarator_names specifier_of field_names enumerator_names member_names parameter_names
    type_name_names
declarator-Name at name is = ap declarator_names is ∙ eq.fold-Name naming at name

pub declarator-Omitted : {x : Declarator} → x ≡ declarator.Omitted → declarator_names x ≡ none
unfolding names_of declarator_names specifier_of field_names enumerator_names member_names parameter_names
    type_name_names
declarator-Omitted is = ap declarator_names is ∙ eq.fold-Omitted naming

pub declarator-Grouped : {x : Declarator} (at : ℕ) (y : Declarator) → x ≡ declarator.Grouped at y → declarator_names x ≡ declarator_names y
unfolding names_of declarator_names specifier_of field_names enumerator_names member_names parameter_names
    type_name_names
declarator-Grouped at y is = ap declarator_names is ∙ eq.fold-Grouped naming at y

pub declarator-Pointer : {x : Declarator} (at : ℕ) (qualifiers : List Qualifier) (y : Declarator) → x ≡ declarator.Pointer at qualifiers y → declarator_names x ≡ derived (declarator_names y) none
unfolding names_of declarator_names specifier_of field_names enumerator_names member_names parameter_names
    type_name_names
declarator-Pointer at qualifiers y is = ap declarator_names is ∙ eq.fold-Pointer naming at qualifiers y

pub declarator-Array : {x : Declarator} (at : ℕ) (y : Declarator) (words : List ArrayWord) (z : Option Expr) → x ≡ declarator.Array at y words z → declarator_names x ≡ derived (declarator_names y) (if_some (option_map names_of z))
unfolding names_of declarator_names specifier_of field_names enumerator_names member_names parameter_names
    type_name_names
declarator-Array at y words z is = ap declarator_names is ∙ eq.fold-Array naming at y words z

pub declarator-Function : {x : Declarator} (at : ℕ) (y : Declarator) (zs : List Parameter) (variadic : Bool) → x ≡ declarator.Function at y zs variadic → declarator_names x ≡ function_names (declarator_names y) (all (map parameter_names zs))
unfolding names_of declarator_names specifier_of field_names enumerator_names member_names parameter_names
    type_name_names
declarator-Function at y zs variadic is = ap declarator_names is ∙ eq.fold-Function naming at y zs variadic

-- ---- specifiers

pub specifier-Storage : {x : Specifier} (at : ℕ) (class : StorageClass) → x ≡ specifier.Storage at class → specifier_of x ≡ none
unfolding names_of declarator_names specifier_of field_names enumerator_names member_names parameter_names
    type_name_names
specifier-Storage at class is = ap specifier_of is ∙ eq.fold-Storage naming at class

pub specifier-Qualifier : {x : Specifier} (at : ℕ) (qualifier : Qualifier) → x ≡ specifier.Qualifier at qualifier → specifier_of x ≡ none
unfolding names_of declarator_names specifier_of field_names enumerator_names member_names parameter_names
    type_name_names
specifier-Qualifier at qualifier is = ap specifier_of is ∙ eq.fold-Qualifier naming at qualifier

pub specifier-Inline : {x : Specifier} (at : ℕ) → x ≡ specifier.Inline at → specifier_of x ≡ none
unfolding names_of declarator_names specifier_of field_names enumerator_names member_names parameter_names
    type_name_names
specifier-Inline at is = ap specifier_of is ∙ eq.fold-Inline naming at

pub specifier-Word : {x : Specifier} (at : ℕ) (word : TypeWord) → x ≡ specifier.Word at word → specifier_of x ≡ none
unfolding names_of declarator_names specifier_of field_names enumerator_names member_names parameter_names
    type_name_names
specifier-Word at word is = ap specifier_of is ∙ eq.fold-Word naming at word

pub specifier-Typedef : {x : Specifier} (at : ℕ) (name : Name) → x ≡ specifier.Typedef at name → specifier_of x ≡ using (ordinary name)
unfolding names_of declarator_names specifier_of field_names enumerator_names member_names parameter_names
    type_name_names
specifier-Typedef at name is = ap specifier_of is ∙ eq.fold-Typedef naming at name

pub specifier-Tag : {x : Specifier} (at : ℕ) (kind : AggregateKind) (tag : TagName) → x ≡ specifier.Tag at kind tag → specifier_of x ≡ tag_used tag
unfolding names_of declarator_names specifier_of field_names enumerator_names member_names parameter_names
    type_name_names
specifier-Tag at kind tag is = ap specifier_of is ∙ eq.fold-Tag naming at kind tag

pub specifier-Aggregate : {x : Specifier} (at : ℕ) (kind : AggregateKind) (tag : Option TagName) (ys : List MemberDeclaration) → x ≡ specifier.Aggregate at kind tag ys → specifier_of x ≡ settled (tag_declared tag then all (map member_names ys))
unfolding names_of declarator_names specifier_of field_names enumerator_names member_names parameter_names
    type_name_names
specifier-Aggregate at kind tag ys is = ap specifier_of is ∙ eq.fold-Aggregate naming at kind tag ys

pub specifier-EnumTag : {x : Specifier} (at : ℕ) (tag : TagName) → x ≡ specifier.EnumTag at tag → specifier_of x ≡ using (tagged tag.name)
unfolding names_of declarator_names specifier_of field_names enumerator_names member_names parameter_names
    type_name_names
specifier-EnumTag at tag is = ap specifier_of is ∙ eq.fold-EnumTag naming at tag

pub specifier-Enumeration : {x : Specifier} (at : ℕ) (tag : Option TagName) (ys : List Enumerator) (trailing : Bool) → x ≡ specifier.Enumeration at tag ys trailing → specifier_of x ≡ (tag_declared tag then all (map enumerator_names ys))
unfolding names_of declarator_names specifier_of field_names enumerator_names member_names parameter_names
    type_name_names
specifier-Enumeration at tag ys trailing is = ap specifier_of is ∙ eq.fold-Enumeration naming at tag ys trailing

-- ---- fields

pub field-Plain : {x : Field} (y : Declarator) → x ≡ field.Plain y → field_names x ≡ declarator_names y
unfolding names_of declarator_names specifier_of field_names enumerator_names member_names parameter_names
    type_name_names
field-Plain y is = ap field_names is ∙ eq.fold-Plain naming y

pub field-Bits : {x : Field} (at : ℕ) (y : Option Declarator) (z : Expr) → x ≡ field.Bits at y z → field_names x ≡ (if_some (option_map declarator_names y) then names_of z)
unfolding names_of declarator_names specifier_of field_names enumerator_names member_names parameter_names
    type_name_names
field-Bits at y z is = ap field_names is ∙ eq.fold-Bits naming at y z

-- ---- enumerators, members, parameters and type names

pub enumerator-is : (x : Enumerator) → enumerator_names x ≡ (if_some (option_map names_of x.value) then declaring x.at (ordinary x.name))
unfolding names_of declarator_names specifier_of field_names enumerator_names member_names parameter_names
    type_name_names
enumerator-is x = eq.fold-Enumerator naming x

pub member-is : (x : MemberDeclaration) → member_names x ≡ settled (all (map specifier_of x.specifiers) then all (map field_names x.fields))
unfolding names_of declarator_names specifier_of field_names enumerator_names member_names parameter_names
    type_name_names
member-is x = eq.fold-MemberDeclaration naming x

pub parameter-is : (x : Parameter) → parameter_names x ≡ settled (all (map specifier_of x.specifiers) then with_name (declarator_names x.declarator))
unfolding names_of declarator_names specifier_of field_names enumerator_names member_names parameter_names
    type_name_names
parameter-is x = eq.fold-Parameter naming x

pub type-name-is : (x : TypeName) → type_name_names x ≡ settled (all (map specifier_of x.specifiers) then declarator_names x.declarator)
unfolding names_of declarator_names specifier_of field_names enumerator_names member_names parameter_names
    type_name_names
type-name-is x = eq.fold-TypeName naming x

-- ---- initializers

pub initializer-Value : {x : Initializer} (value : Expr) → x ≡ initial.Value value → initializer_names x ≡ names_of value
unfolding initializer_names item_names
initializer-Value value is =
    ap initializer_names is ∙ ap initializer_names (sym (rolls-Initializer-Value value))
    ∙ fold-roll-Initializer Names Names initializer_step item_step (initial_open.Value value)

pub initializer-List : {x : Initializer} (at : ℕ) (items : List InitializerItem) (trailing : Bool) →
    x ≡ initial.List at items trailing → initializer_names x ≡ all (map item_names items)
unfolding initializer_names item_names
initializer-List at items trailing is =
    ap initializer_names is ∙ ap initializer_names (sym (rolls-Initializer-List at items trailing))
    ∙ fold-roll-Initializer Names Names initializer_step item_step (initial_open.List at items trailing)

pub item-is : (x : InitializerItem) → item_names x ≡ (all_of designator_names x.designators then initializer_names x.value)
unfolding initializer_names item_names
item-is x =
    fold-roll-InitializerItem Names Names initializer_step item_step
    (record { designators = x.designators; value = x.value })

-- ---- statements

pub stmt-Block : {x : Stmt} (at : ℕ) (items : List Stmt) → x ≡ stmt.Block at items → stmt_names x ≡ scoped (all (map stmt_names items))
unfolding stmt_names
stmt-Block at items is =
    ap stmt_names is ∙ ap stmt_names (sym (rolls-Block at items))
    ∙ fold-roll-Stmt Names stmt_step (stmt_open.Block at items)

pub stmt-Declared : {x : Stmt} (declaration : Declaration) → x ≡ stmt.Declared declaration → stmt_names x ≡ declaration_names declaration
unfolding stmt_names
stmt-Declared declaration is =
    ap stmt_names is ∙ ap stmt_names (sym (rolls-Declared declaration))
    ∙ fold-roll-Stmt Names stmt_step (stmt_open.Declared declaration)

pub stmt-Value : {x : Stmt} (at : ℕ) (value : Option Expr) → x ≡ stmt.Value at value → stmt_names x ≡ of_some names_of value
unfolding stmt_names
stmt-Value at value is =
    ap stmt_names is ∙ ap stmt_names (sym (rolls-Value at value))
    ∙ fold-roll-Stmt Names stmt_step (stmt_open.Value at value)

pub stmt-Label : {x : Stmt} (at : ℕ) (name : Name) (body : Stmt) → x ≡ stmt.Label at name body → stmt_names x ≡ stmt_names body
unfolding stmt_names
stmt-Label at name body is =
    ap stmt_names is ∙ ap stmt_names (sym (rolls-Label at name body))
    ∙ fold-roll-Stmt Names stmt_step (stmt_open.Label at name body)

pub stmt-Case : {x : Stmt} (at : ℕ) (value : Expr) (body : Stmt) → x ≡ stmt.Case at value body → stmt_names x ≡ (names_of value then stmt_names body)
unfolding stmt_names
stmt-Case at value body is =
    ap stmt_names is ∙ ap stmt_names (sym (rolls-Case at value body))
    ∙ fold-roll-Stmt Names stmt_step (stmt_open.Case at value body)

pub stmt-Default : {x : Stmt} (at : ℕ) (body : Stmt) → x ≡ stmt.Default at body → stmt_names x ≡ stmt_names body
unfolding stmt_names
stmt-Default at body is =
    ap stmt_names is ∙ ap stmt_names (sym (rolls-Default at body))
    ∙ fold-roll-Stmt Names stmt_step (stmt_open.Default at body)

pub stmt-If : {x : Stmt} (at : ℕ) (condition : Expr) (positive : Stmt) (negative : Option Stmt) → x ≡ stmt.If at condition positive negative → stmt_names x ≡ scoped
    (names_of condition then scoped (stmt_names positive) then scoped (if_some (option_map stmt_names negative)))
unfolding stmt_names
stmt-If at condition positive None is =
    ap stmt_names is ∙ ap stmt_names (sym (rolls-If at condition positive None))
    ∙ fold-roll-Stmt Names stmt_step (stmt_open.If at condition positive None)
stmt-If at condition positive (Some y) is =
    ap stmt_names is ∙ ap stmt_names (sym (rolls-If at condition positive (Some y)))
    ∙ fold-roll-Stmt Names stmt_step (stmt_open.If at condition positive (Some y))

pub stmt-Switch : {x : Stmt} (at : ℕ) (value : Expr) (body : Stmt) → x ≡ stmt.Switch at value body → stmt_names x ≡ scoped (names_of value then scoped (stmt_names body))
unfolding stmt_names
stmt-Switch at value body is =
    ap stmt_names is ∙ ap stmt_names (sym (rolls-Switch at value body))
    ∙ fold-roll-Stmt Names stmt_step (stmt_open.Switch at value body)

pub stmt-While : {x : Stmt} (at : ℕ) (condition : Expr) (body : Stmt) → x ≡ stmt.While at condition body → stmt_names x ≡ scoped (names_of condition then scoped (stmt_names body))
unfolding stmt_names
stmt-While at condition body is =
    ap stmt_names is ∙ ap stmt_names (sym (rolls-While at condition body))
    ∙ fold-roll-Stmt Names stmt_step (stmt_open.While at condition body)

pub stmt-Do : {x : Stmt} (at : ℕ) (body : Stmt) (condition : Expr) → x ≡ stmt.Do at body condition → stmt_names x ≡ scoped (scoped (stmt_names body) then names_of condition)
unfolding stmt_names
stmt-Do at body condition is =
    ap stmt_names is ∙ ap stmt_names (sym (rolls-Do at body condition))
    ∙ fold-roll-Stmt Names stmt_step (stmt_open.Do at body condition)

pub stmt-For : {x : Stmt} (at : ℕ) (start : ForStart) (condition : Option Expr) (step : Option Expr) (body : Stmt) → x ≡ stmt.For at start condition step body → stmt_names x ≡ scoped
    (start_names start then of_some names_of condition then of_some names_of step then scoped (stmt_names body))
unfolding stmt_names
stmt-For at start condition step body is =
    ap stmt_names is ∙ ap stmt_names (sym (rolls-For at start condition step body))
    ∙ fold-roll-Stmt Names stmt_step (stmt_open.For at start condition step body)

pub stmt-Goto : {x : Stmt} (at : ℕ) (name : Name) → x ≡ stmt.Goto at name → stmt_names x ≡ none
unfolding stmt_names
stmt-Goto at name is =
    ap stmt_names is ∙ ap stmt_names (sym (rolls-Goto at name))
    ∙ fold-roll-Stmt Names stmt_step (stmt_open.Goto at name)

pub stmt-Continue : {x : Stmt} (at : ℕ) → x ≡ stmt.Continue at → stmt_names x ≡ none
unfolding stmt_names
stmt-Continue at is =
    ap stmt_names is ∙ ap stmt_names (sym (rolls-Continue at))
    ∙ fold-roll-Stmt Names stmt_step (stmt_open.Continue at)

pub stmt-Break : {x : Stmt} (at : ℕ) → x ≡ stmt.Break at → stmt_names x ≡ none
unfolding stmt_names
stmt-Break at is =
    ap stmt_names is ∙ ap stmt_names (sym (rolls-Break at))
    ∙ fold-roll-Stmt Names stmt_step (stmt_open.Break at)

pub stmt-Return : {x : Stmt} (at : ℕ) (value : Option Expr) → x ≡ stmt.Return at value → stmt_names x ≡ of_some names_of value
unfolding stmt_names
stmt-Return at value is =
    ap stmt_names is ∙ ap stmt_names (sym (rolls-Return at value))
    ∙ fold-roll-Stmt Names stmt_step (stmt_open.Return at value)

-- ---- lists

pub all_of_is : {A : Type 0} (f : A → Names) (xs : List A) → all (map f xs) ≡ all_of f xs
all_of_is f [] = refl
all_of_is f (x ∷ xs) = ap (λ y. f x then y) (all_of_is f xs)
