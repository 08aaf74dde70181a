-- Folds over the trees that stand in one another: expressions, type names, specifiers, member declarations, fields,
-- enumerators, declarators and parameters. What is said of a tree is said layer by layer, from what is said of the
-- trees in it; `crate::proofs::Folds` has the equation of each kind of tree.
use Rattle.std.specs.Prelude.{map}
use Rattle.c_language.specs.declared.expr.Declarator.{Declarator, fold-Declarator, roll-Declarator, map-Declarator}
use Rattle.c_language.specs.declared.expr.Expr.{Expr, fold-Expr, roll-Expr, map-Expr}
use Rattle.c_language.specs.declared.expr.Field.{Field, fold-Field, roll-Field, map-Field}
use Rattle.c_language.specs.declared.expr.Specifier.{Specifier, fold-Specifier, roll-Specifier, map-Specifier}
use Rattle.c_language.specs.declared.expr.Enumerator.{Enumerator, fold-Enumerator, roll-Enumerator, map-Enumerator}
use Rattle.c_language.specs.declared.expr.MemberDeclaration.{MemberDeclaration, fold-MemberDeclaration, roll-MemberDeclaration, map-MemberDeclaration}
use Rattle.c_language.specs.declared.expr.Parameter.{Parameter, fold-Parameter, roll-Parameter, map-Parameter}
use Rattle.c_language.specs.declared.expr.TypeName.{TypeName, fold-TypeName, roll-TypeName, map-TypeName}
use Rattle.c_language.specs.declared.expr.Declarator.TheOpen as open_

-- what is said of a tree of each type
pub record Carrier : Type 1 where
  pub declarator : Type 0
  pub expr : Type 0
  pub field : Type 0
  pub specifier : Type 0
  pub enumerator : Type 0
  pub member : Type 0
  pub parameter : Type 0
  pub type_name : Type 0

-- one layer of each type, with what is said of the trees in it
abbrev pub DeclaratorLayer : Carrier → Type 0
DeclaratorLayer c =
    open_.Declarator-F c.declarator c.expr c.field c.specifier c.enumerator c.member c.parameter c.type_name

abbrev pub ExprLayer : Carrier → Type 0
ExprLayer c =
    open_.Expr-F c.declarator c.expr c.field c.specifier c.enumerator c.member c.parameter c.type_name

abbrev pub FieldLayer : Carrier → Type 0
FieldLayer c =
    open_.Field-F c.declarator c.expr c.field c.specifier c.enumerator c.member c.parameter c.type_name

abbrev pub SpecifierLayer : Carrier → Type 0
SpecifierLayer c =
    open_.Specifier-F c.declarator c.expr c.field c.specifier c.enumerator c.member c.parameter c.type_name

abbrev pub EnumeratorLayer : Carrier → Type 0
EnumeratorLayer c =
    open_.Enumerator-F c.declarator c.expr c.field c.specifier c.enumerator c.member c.parameter c.type_name

abbrev pub MemberDeclarationLayer : Carrier → Type 0
MemberDeclarationLayer c =
    open_.MemberDeclaration-F c.declarator c.expr c.field c.specifier c.enumerator c.member c.parameter c.type_name

abbrev pub ParameterLayer : Carrier → Type 0
ParameterLayer c =
    open_.Parameter-F c.declarator c.expr c.field c.specifier c.enumerator c.member c.parameter c.type_name

abbrev pub TypeNameLayer : Carrier → Type 0
TypeNameLayer c =
    open_.TypeName-F c.declarator c.expr c.field c.specifier c.enumerator c.member c.parameter c.type_name

-- what a fold says of a layer
pub record Algebra (c : Carrier) : Type 0 where
  pub declarator : DeclaratorLayer c → c.declarator
  pub expr : ExprLayer c → c.expr
  pub field : FieldLayer c → c.field
  pub specifier : SpecifierLayer c → c.specifier
  pub enumerator : EnumeratorLayer c → c.enumerator
  pub member : MemberDeclarationLayer c → c.member
  pub parameter : ParameterLayer c → c.parameter
  pub type_name : TypeNameLayer c → c.type_name

-- ---- a tree, by what is said of the trees in it

unfoldable pub fold_declarator : {c : Carrier} → Algebra c → Declarator → c.declarator
fold_declarator {c} a x =
    fold-Declarator c.declarator c.expr c.field c.specifier c.enumerator c.member c.parameter c.type_name
    a.declarator a.expr a.field a.specifier a.enumerator a.member a.parameter a.type_name x

unfoldable pub fold_expr : {c : Carrier} → Algebra c → Expr → c.expr
fold_expr {c} a x =
    fold-Expr c.declarator c.expr c.field c.specifier c.enumerator c.member c.parameter c.type_name
    a.declarator a.expr a.field a.specifier a.enumerator a.member a.parameter a.type_name x

unfoldable pub fold_field : {c : Carrier} → Algebra c → Field → c.field
fold_field {c} a x =
    fold-Field c.declarator c.expr c.field c.specifier c.enumerator c.member c.parameter c.type_name
    a.declarator a.expr a.field a.specifier a.enumerator a.member a.parameter a.type_name x

unfoldable pub fold_specifier : {c : Carrier} → Algebra c → Specifier → c.specifier
fold_specifier {c} a x =
    fold-Specifier c.declarator c.expr c.field c.specifier c.enumerator c.member c.parameter c.type_name
    a.declarator a.expr a.field a.specifier a.enumerator a.member a.parameter a.type_name x

unfoldable pub fold_enumerator : {c : Carrier} → Algebra c → Enumerator → c.enumerator
fold_enumerator {c} a x =
    fold-Enumerator c.declarator c.expr c.field c.specifier c.enumerator c.member c.parameter c.type_name
    a.declarator a.expr a.field a.specifier a.enumerator a.member a.parameter a.type_name x

unfoldable pub fold_member : {c : Carrier} → Algebra c → MemberDeclaration → c.member
fold_member {c} a x =
    fold-MemberDeclaration c.declarator c.expr c.field c.specifier c.enumerator c.member c.parameter c.type_name
    a.declarator a.expr a.field a.specifier a.enumerator a.member a.parameter a.type_name x

unfoldable pub fold_parameter : {c : Carrier} → Algebra c → Parameter → c.parameter
fold_parameter {c} a x =
    fold-Parameter c.declarator c.expr c.field c.specifier c.enumerator c.member c.parameter c.type_name
    a.declarator a.expr a.field a.specifier a.enumerator a.member a.parameter a.type_name x

unfoldable pub fold_type_name : {c : Carrier} → Algebra c → TypeName → c.type_name
fold_type_name {c} a x =
    fold-TypeName c.declarator c.expr c.field c.specifier c.enumerator c.member c.parameter c.type_name
    a.declarator a.expr a.field a.specifier a.enumerator a.member a.parameter a.type_name x

-- ---- a tree, by these and by what is said of them

-- each tree beside what is said of it
abbrev pub Beside : Carrier → Carrier
Beside c = record {
  declarator = Declarator × c.declarator;
  expr = Expr × c.expr;
  field = Field × c.field;
  specifier = Specifier × c.specifier;
  enumerator = Enumerator × c.enumerator;
  member = MemberDeclaration × c.member;
  parameter = Parameter × c.parameter;
  type_name = TypeName × c.type_name;
}

-- what is said of a layer in which each tree stands beside what is said of it
pub record TreeAlgebra (c : Carrier) : Type 0 where
  pub declarator : DeclaratorLayer (Beside c) → c.declarator
  pub expr : ExprLayer (Beside c) → c.expr
  pub field : FieldLayer (Beside c) → c.field
  pub specifier : SpecifierLayer (Beside c) → c.specifier
  pub enumerator : EnumeratorLayer (Beside c) → c.enumerator
  pub member : MemberDeclarationLayer (Beside c) → c.member
  pub parameter : ParameterLayer (Beside c) → c.parameter
  pub type_name : TypeNameLayer (Beside c) → c.type_name

-- the trees of a layer
abbrev pub declarator_in : {c : Carrier} → DeclaratorLayer (Beside c) → Declarator
declarator_in {c} x =
    roll-Declarator (map-Declarator
    (Declarator × c.declarator) (Expr × c.expr) (Field × c.field) (Specifier × c.specifier)
    (Enumerator × c.enumerator) (MemberDeclaration × c.member) (Parameter × c.parameter) (TypeName × c.type_name)
    Declarator Expr Field Specifier Enumerator MemberDeclaration Parameter TypeName
    (λ y. y.0) (λ y. y.0) (λ y. y.0) (λ y. y.0) (λ y. y.0) (λ y. y.0) (λ y. y.0) (λ y. y.0) x)

abbrev pub expr_in : {c : Carrier} → ExprLayer (Beside c) → Expr
expr_in {c} x =
    roll-Expr (map-Expr
    (Declarator × c.declarator) (Expr × c.expr) (Field × c.field) (Specifier × c.specifier)
    (Enumerator × c.enumerator) (MemberDeclaration × c.member) (Parameter × c.parameter) (TypeName × c.type_name)
    Declarator Expr Field Specifier Enumerator MemberDeclaration Parameter TypeName
    (λ y. y.0) (λ y. y.0) (λ y. y.0) (λ y. y.0) (λ y. y.0) (λ y. y.0) (λ y. y.0) (λ y. y.0) x)

abbrev pub field_in : {c : Carrier} → FieldLayer (Beside c) → Field
field_in {c} x =
    roll-Field (map-Field
    (Declarator × c.declarator) (Expr × c.expr) (Field × c.field) (Specifier × c.specifier)
    (Enumerator × c.enumerator) (MemberDeclaration × c.member) (Parameter × c.parameter) (TypeName × c.type_name)
    Declarator Expr Field Specifier Enumerator MemberDeclaration Parameter TypeName
    (λ y. y.0) (λ y. y.0) (λ y. y.0) (λ y. y.0) (λ y. y.0) (λ y. y.0) (λ y. y.0) (λ y. y.0) x)

abbrev pub specifier_in : {c : Carrier} → SpecifierLayer (Beside c) → Specifier
specifier_in {c} x =
    roll-Specifier (map-Specifier
    (Declarator × c.declarator) (Expr × c.expr) (Field × c.field) (Specifier × c.specifier)
    (Enumerator × c.enumerator) (MemberDeclaration × c.member) (Parameter × c.parameter) (TypeName × c.type_name)
    Declarator Expr Field Specifier Enumerator MemberDeclaration Parameter TypeName
    (λ y. y.0) (λ y. y.0) (λ y. y.0) (λ y. y.0) (λ y. y.0) (λ y. y.0) (λ y. y.0) (λ y. y.0) x)

abbrev pub enumerator_in : {c : Carrier} → EnumeratorLayer (Beside c) → Enumerator
enumerator_in {c} x =
    roll-Enumerator (map-Enumerator
    (Declarator × c.declarator) (Expr × c.expr) (Field × c.field) (Specifier × c.specifier)
    (Enumerator × c.enumerator) (MemberDeclaration × c.member) (Parameter × c.parameter) (TypeName × c.type_name)
    Declarator Expr Field Specifier Enumerator MemberDeclaration Parameter TypeName
    (λ y. y.0) (λ y. y.0) (λ y. y.0) (λ y. y.0) (λ y. y.0) (λ y. y.0) (λ y. y.0) (λ y. y.0) x)

abbrev pub member_in : {c : Carrier} → MemberDeclarationLayer (Beside c) → MemberDeclaration
member_in {c} x =
    roll-MemberDeclaration (map-MemberDeclaration
    (Declarator × c.declarator) (Expr × c.expr) (Field × c.field) (Specifier × c.specifier)
    (Enumerator × c.enumerator) (MemberDeclaration × c.member) (Parameter × c.parameter) (TypeName × c.type_name)
    Declarator Expr Field Specifier Enumerator MemberDeclaration Parameter TypeName
    (λ y. y.0) (λ y. y.0) (λ y. y.0) (λ y. y.0) (λ y. y.0) (λ y. y.0) (λ y. y.0) (λ y. y.0) x)

abbrev pub parameter_in : {c : Carrier} → ParameterLayer (Beside c) → Parameter
parameter_in {c} x =
    roll-Parameter (map-Parameter
    (Declarator × c.declarator) (Expr × c.expr) (Field × c.field) (Specifier × c.specifier)
    (Enumerator × c.enumerator) (MemberDeclaration × c.member) (Parameter × c.parameter) (TypeName × c.type_name)
    Declarator Expr Field Specifier Enumerator MemberDeclaration Parameter TypeName
    (λ y. y.0) (λ y. y.0) (λ y. y.0) (λ y. y.0) (λ y. y.0) (λ y. y.0) (λ y. y.0) (λ y. y.0) x)

abbrev pub type_name_in : {c : Carrier} → TypeNameLayer (Beside c) → TypeName
type_name_in {c} x =
    roll-TypeName (map-TypeName
    (Declarator × c.declarator) (Expr × c.expr) (Field × c.field) (Specifier × c.specifier)
    (Enumerator × c.enumerator) (MemberDeclaration × c.member) (Parameter × c.parameter) (TypeName × c.type_name)
    Declarator Expr Field Specifier Enumerator MemberDeclaration Parameter TypeName
    (λ y. y.0) (λ y. y.0) (λ y. y.0) (λ y. y.0) (λ y. y.0) (λ y. y.0) (λ y. y.0) (λ y. y.0) x)

abbrev pub beside : {c : Carrier} → TreeAlgebra c → Algebra (Beside c)
beside {c} a = record {
  declarator = λ x. (declarator_in {c = c} x, a.declarator x);
  expr = λ x. (expr_in {c = c} x, a.expr x);
  field = λ x. (field_in {c = c} x, a.field x);
  specifier = λ x. (specifier_in {c = c} x, a.specifier x);
  enumerator = λ x. (enumerator_in {c = c} x, a.enumerator x);
  member = λ x. (member_in {c = c} x, a.member x);
  parameter = λ x. (parameter_in {c = c} x, a.parameter x);
  type_name = λ x. (type_name_in {c = c} x, a.type_name x);
}

unfoldable pub tree_fold_declarator : {c : Carrier} → TreeAlgebra c → Declarator → c.declarator
tree_fold_declarator {c} a x = (fold_declarator {c = Beside c} (beside {c = c} a) x).1

unfoldable pub tree_fold_expr : {c : Carrier} → TreeAlgebra c → Expr → c.expr
tree_fold_expr {c} a x = (fold_expr {c = Beside c} (beside {c = c} a) x).1

unfoldable pub tree_fold_field : {c : Carrier} → TreeAlgebra c → Field → c.field
tree_fold_field {c} a x = (fold_field {c = Beside c} (beside {c = c} a) x).1

unfoldable pub tree_fold_specifier : {c : Carrier} → TreeAlgebra c → Specifier → c.specifier
tree_fold_specifier {c} a x = (fold_specifier {c = Beside c} (beside {c = c} a) x).1

unfoldable pub tree_fold_enumerator : {c : Carrier} → TreeAlgebra c → Enumerator → c.enumerator
tree_fold_enumerator {c} a x = (fold_enumerator {c = Beside c} (beside {c = c} a) x).1

unfoldable pub tree_fold_member : {c : Carrier} → TreeAlgebra c → MemberDeclaration → c.member
tree_fold_member {c} a x = (fold_member {c = Beside c} (beside {c = c} a) x).1

unfoldable pub tree_fold_parameter : {c : Carrier} → TreeAlgebra c → Parameter → c.parameter
tree_fold_parameter {c} a x = (fold_parameter {c = Beside c} (beside {c = c} a) x).1

unfoldable pub tree_fold_type_name : {c : Carrier} → TreeAlgebra c → TypeName → c.type_name
tree_fold_type_name {c} a x = (fold_type_name {c = Beside c} (beside {c = c} a) x).1
