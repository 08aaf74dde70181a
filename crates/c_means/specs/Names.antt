-- Which names a tree uses, and which it declares (C99 6.2.1, 6.2.3): one fold over the whole syntax, with the string
-- literals in it. A name that is used behind its declaration in the same tree is bound there; what stays is used of
-- what stands around the tree.
use Rattle.std.specs.Prelude.{ℕ, Bool, true, false, cond, not, ◌&&◌, ◌||◌, List, [], ◌∷◌, ◌++◌, Option, Some, None}
use Rattle.std.specs.Str.{bytes_eq}
use Rattle.c_language.specs.declared.expr.Declarator.{Declarator}
use Rattle.c_language.specs.declared.expr.Declarator.TheOpen as open_
use Rattle.c_language.specs.declared.expr.Expr.{Expr}
use Rattle.c_language.specs.declared.expr.Specifier.{Specifier}
use Rattle.c_language.specs.declared.expr.TagName.{TagName}
use Rattle.c_language.specs.declared.unit.Body.{Body}
use Rattle.c_language.specs.declared.unit.Body.TheVariants as body
use Rattle.c_language.specs.declared.unit.Declaration.{Declaration}
use Rattle.c_language.specs.declared.unit.Designator.{Designator}
use Rattle.c_language.specs.declared.unit.Designator.TheVariants as designator
use Rattle.c_language.specs.declared.unit.External.{External}
use Rattle.c_language.specs.declared.unit.External.TheVariants as external
use Rattle.c_language.specs.declared.unit.ForStart.{ForStart}
use Rattle.c_language.specs.declared.unit.ForStart.TheVariants as start_
use Rattle.c_language.specs.declared.unit.InitDeclarator.{InitDeclarator}
use Rattle.c_language.specs.declared.unit.Initializer.{Initializer, fold-Initializer}
use Rattle.c_language.specs.declared.unit.Initializer.TheOpen as initial_
use Rattle.c_language.specs.declared.unit.Stmt.{Stmt, fold-Stmt}
use Rattle.c_language.specs.declared.unit.Stmt.TheOpen as stmt_
use Rattle.c_language.specs.Folds.{Carrier, Algebra, DeclaratorLayer, ExprLayer, FieldLayer, SpecifierLayer}
use Rattle.c_language.specs.Folds.{EnumeratorLayer, MemberDeclarationLayer, ParameterLayer, TypeNameLayer, fold_expr}
use Rattle.c_language.specs.Folds.{fold_declarator, fold_specifier}
use Rattle.c_language.specs.Scopes.{Name}
use Rattle.c_means.specs.Expressions.{joined}

-- an ordinary name, or a tag
pub record Word : Type 0 where
  pub is_tag : Bool
  pub name : Name

abbrev pub ordinary : Name → Word
ordinary name = record { is_tag = false; name = name }

abbrev pub tagged : Name → Word
tagged name = record { is_tag = true; name = name }

abbrev pub same_bool : Bool → Bool → Bool
same_bool true b = b
same_bool false b = not b

abbrev pub same_word : Word → Word → Bool
same_word x y = same_bool x.is_tag y.is_tag && bytes_eq x.name y.name

-- a declared name, by its offset
pub record Binding : Type 0 where
  pub at : ℕ
  pub word : Word

-- a string literal with its bytes, or `__func__`, whose bytes are its function's name
pub record Literal : Type 0 where
  pub at : ℕ
  pub text : Option (List ℕ)

-- `refers` are tags without a list, which declare themselves where nothing else is declared (C99 6.7.2.3p7); `named`
-- is the name of a declarator, and `parameters` what the function declarator next to it declares.
pub record Names : Type 0 where
  pub uses : List Word
  pub declares : List Binding
  pub bound : List ℕ
  pub literals : List Literal
  pub refers : List Binding
  pub named : Option (ℕ × Name)
  pub is_derived : Bool
  pub parameters : List Binding

abbrev pub none : Names
none = record {
  uses = [];
  declares = [];
  bound = [];
  literals = [];
  refers = [];
  named = None;
  is_derived = false;
  parameters = [];
}

abbrev pub using : Word → Names
using w = record none { uses = w ∷ [] }

abbrev pub declaring : ℕ → Word → Names
declaring at w = record none { declares = record { at = at; word = w } ∷ [] }

abbrev pub literal : ℕ → Option (List ℕ) → Names
literal at text = record none { literals = record { at = at; text = text } ∷ [] }

-- ---- one behind the other

-- the last declaration of a name
abbrev pub binding_of : Word → List Binding → Option ℕ → Option ℕ
binding_of w [] found = found
binding_of w (b ∷ bs) found = binding_of w bs (cond (same_word b.word w) (Some b.at) found)

abbrev pub free_if : Word → Option ℕ → List Word → List Word
free_if w None ws = w ∷ ws
free_if w (Some at) ws = ws

abbrev pub free : List Binding → List Word → List Word
free bs [] = []
free bs (w ∷ ws) = free_if w (binding_of w bs None) (free bs ws)

abbrev pub bound_if : Option ℕ → List ℕ → List ℕ
bound_if None ats = ats
bound_if (Some at) ats = at ∷ ats

abbrev pub bound_in : List Binding → List Word → List ℕ
bound_in bs [] = []
bound_in bs (w ∷ ws) = bound_if (binding_of w bs None) (bound_in bs ws)

infixr 5 ◌then◌
abbrev pub ◌then◌ : Names → Names → Names
x then y = record none {
  uses = x.uses ++ free x.declares y.uses;
  declares = x.declares ++ y.declares;
  bound = x.bound ++ y.bound ++ bound_in x.declares y.uses;
  literals = x.literals ++ y.literals;
  refers = x.refers ++ y.refers;
}

abbrev pub all : List Names → Names
all [] = none
all (x ∷ xs) = x then all xs

abbrev pub if_some : Option Names → Names
if_some None = none
if_some (Some x) = x

-- what it declares ends with it
abbrev pub scoped : Names → Names
scoped x = record x { declares = []; refers = [] }

-- its tags without a list are of what stands around it
abbrev pub settled : Names → Names
settled x = record x { refers = [] }

-- ---- specifiers

abbrev pub tag_declared : Option TagName → Names
tag_declared None = none
tag_declared (Some t) = declaring t.at (tagged t.name)

abbrev pub tag_used : TagName → Names
tag_used t = record (using (tagged t.name)) { refers = record { at = t.at; word = tagged t.name } ∷ [] }

abbrev pub Every : Carrier
Every = record {
  declarator = Names;
  expr = Names;
  field = Names;
  specifier = Names;
  enumerator = Names;
  member = Names;
  parameter = Names;
  type_name = Names;
}

abbrev pub specifier_step : SpecifierLayer Every → Names
specifier_step (open_.Storage at class) = none
specifier_step (open_.Qualifier at qualifier) = none
specifier_step (open_.Inline at) = none
specifier_step (open_.Word at word) = none
specifier_step (open_.Typedef at name) = using (ordinary name)
specifier_step (open_.Tag at kind tag) = tag_used tag
specifier_step (open_.Aggregate at kind tag members) = settled (tag_declared tag then all members)
specifier_step (open_.EnumTag at tag) = using (tagged tag.name)
specifier_step (open_.Enumeration at tag enumerators trailing) = tag_declared tag then all enumerators

abbrev pub enumerator_step : EnumeratorLayer Every → Names
enumerator_step e = if_some e.value then declaring e.at (ordinary e.name)

-- members have a name space of their own (C99 6.2.3p1)
abbrev pub field_step : FieldLayer Every → Names
field_step (open_.Plain declarator) = declarator
field_step (open_.Bits at declarator width) = if_some declarator then width

abbrev pub member_step : MemberDeclarationLayer Every → Names
member_step m = settled (all m.specifiers then all m.fields)

-- ---- declarators

abbrev pub derived : Names → Names → Names
derived inner x = record (inner then x) { named = inner.named; is_derived = true; parameters = inner.parameters }

abbrev pub parameters_from : Bool → List Binding → List Binding → List Binding
parameters_from true inner own = inner
parameters_from false inner own = own

-- what a list of parameters declares ends with it, but in the body of a function (C99 6.2.1p4)
abbrev pub function_names : Names → Names → Names
function_names inner ps =
    record (derived inner (scoped ps)) { parameters = parameters_from inner.is_derived inner.parameters ps.declares }

abbrev pub declarator_step : DeclaratorLayer Every → Names
declarator_step (open_.Name at name) = record none { named = Some (at, name) }
declarator_step open_.Omitted = none
declarator_step (open_.Grouped at inner) = inner
declarator_step (open_.Pointer at qualifiers inner) = derived inner none
declarator_step (open_.Array at inner words length) = derived inner (if_some length)
declarator_step (open_.Function at inner parameters variadic) = function_names inner (all parameters)

-- the name of a declarator, where it has one, is in force behind it
abbrev pub name_declared : Option (ℕ × Name) → Names
name_declared None = none
name_declared (Some n) = declaring n.0 (ordinary n.1)

abbrev pub with_name : Names → Names
with_name d = d then name_declared d.named

abbrev pub parameter_step : ParameterLayer Every → Names
parameter_step p = settled (all p.specifiers then with_name p.declarator)

abbrev pub type_name_step : TypeNameLayer Every → Names
type_name_step t = settled (all t.specifiers then t.declarator)

-- ---- expressions

abbrev pub expr_step : ExprLayer Every → Names
expr_step (open_.Integer at constant) = none
expr_step (open_.Floating at) = none
expr_step (open_.Character at value) = none
expr_step (open_.StringLiteral at pieces) = literal at (Some (joined pieces))
expr_step (open_.FunctionName at) = literal at None
expr_step (open_.Identifier at name) = using (ordinary name)
expr_step (open_.Parenthesized at inner) = inner
expr_step (open_.Subscript at array index) = array then index
expr_step (open_.Call at callee arguments) = callee then all arguments
expr_step (open_.Member at object name) = object
expr_step (open_.Arrow at pointer name) = pointer
expr_step (open_.Postfix at operator operand) = operand
expr_step (open_.Unary at operator operand) = operand
expr_step (open_.SizeofExpr at operand) = operand
expr_step (open_.SizeofType at name) = name
expr_step (open_.Cast at name operand) = name then operand
expr_step (open_.Binary at operator left right) = left then right
expr_step (open_.Conditional at condition positive negative) = condition then positive then negative
expr_step (open_.Assign at operator target value) = target then value
expr_step (open_.Comma at left right) = left then right

abbrev pub naming : Algebra Every
naming = record {
  declarator = declarator_step;
  expr = expr_step;
  field = field_step;
  specifier = specifier_step;
  enumerator = enumerator_step;
  member = member_step;
  parameter = parameter_step;
  type_name = type_name_step;
}

unfoldable pub names_of : Expr → Names
names_of e = fold_expr {c = Every} naming e

unfoldable pub declarator_names : Declarator → Names
declarator_names x = fold_declarator {c = Every} naming x

unfoldable pub specifier_of : Specifier → Names
specifier_of x = fold_specifier {c = Every} naming x

abbrev pub all_of : {A : Type 0} → (A → Names) → List A → Names
all_of f [] = none
all_of f (x ∷ xs) = f x then all_of f xs

abbrev pub of_some : {A : Type 0} → (A → Names) → Option A → Names
of_some f None = none
of_some f (Some x) = f x

-- ---- initializers and declarations

abbrev pub designator_names : Designator → Names
designator_names (designator.Member at member) = none
designator_names (designator.Element at index) = names_of index

abbrev pub initializer_step : initial_.Initializer-F Names Names → Names
initializer_step (initial_.Value value) = names_of value
initializer_step (initial_.List at items trailing) = all items

abbrev pub item_step : initial_.InitializerItem-F Names Names → Names
item_step x = all_of designator_names x.designators then x.value

unfoldable pub initializer_names : Initializer → Names
initializer_names x = fold-Initializer Names Names initializer_step item_step x

-- a name is in force in its own initializer (C99 6.2.1p7)
abbrev pub declared_names : InitDeclarator → Names
declared_names x = with_name (declarator_names x.declarator) then of_some initializer_names x.initializer

abbrev pub is_among : Word → List Binding → Bool
is_among w [] = false
is_among w (b ∷ bs) = same_word b.word w || is_among w bs

abbrev pub without : List Binding → List Word → List Word
without bs [] = []
without bs (w ∷ ws) = cond (is_among w bs) (without bs ws) (w ∷ without bs ws)

-- a tag that stands alone is declared anew (C99 6.7.2.3p7)
abbrev pub standing_alone : Names → Names
standing_alone x = record x { uses = without x.refers x.uses; declares = x.declares ++ x.refers; refers = [] }

abbrev pub with_declarators : Names → List InitDeclarator → Names
with_declarators x [] = standing_alone x
with_declarators x (y ∷ ys) = settled (x then all_of declared_names (y ∷ ys))

abbrev pub declaration_names : Declaration → Names
declaration_names d = with_declarators (all_of specifier_of d.specifiers) d.declarators

-- ---- statements: each is a block, but for declarations and labels

abbrev pub start_names : ForStart → Names
start_names (start_.Value value) = of_some names_of value
start_names (start_.Declared d) = declaration_names d

abbrev pub stmt_step : stmt_.Stmt-F Names → Names
stmt_step (stmt_.Block at items) = scoped (all items)
stmt_step (stmt_.Declared d) = declaration_names d
stmt_step (stmt_.Value at value) = of_some names_of value
stmt_step (stmt_.Label at name body) = body
stmt_step (stmt_.Case at value body) = names_of value then body
stmt_step (stmt_.Default at body) = body
stmt_step (stmt_.If at condition positive negative) =
    scoped (names_of condition then scoped positive then scoped (if_some negative))
stmt_step (stmt_.Switch at value body) = scoped (names_of value then scoped body)
stmt_step (stmt_.While at condition body) = scoped (names_of condition then scoped body)
stmt_step (stmt_.Do at body condition) = scoped (scoped body then names_of condition)
stmt_step (stmt_.For at begins condition step body) =
    scoped (start_names begins then of_some names_of condition then of_some names_of step then scoped body)
stmt_step (stmt_.Goto at name) = none
stmt_step (stmt_.Continue at) = none
stmt_step (stmt_.Break at) = none
stmt_step (stmt_.Return at value) = of_some names_of value

unfoldable pub stmt_names : Stmt → Names
stmt_names x = fold-Stmt Names stmt_step x

-- ---- external declarations: a function's body is in the scope of its parameters

abbrev pub body_names : Body → Names
body_names (body.Read block) = stmt_names block
body_names (body.Unread at) = none

abbrev pub with_body : Names → Names → Names
with_body d b = with_name d then scoped (record none { declares = d.parameters } then b)

abbrev pub external_names : External → Names
external_names (external.Function specifiers declarator b) =
    settled (all_of specifier_of specifiers then with_body (declarator_names declarator) (body_names b))
external_names (external.Declared d) = declaration_names d
external_names (external.Empty at) = none
