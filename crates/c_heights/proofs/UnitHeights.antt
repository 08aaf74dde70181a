-- The height of each kind of initializer, declaration and statement, in terms of the heights of what stands in it.
use Rattle.std.proofs.Common.{◌≡◌, ℕ, suc, List, Option, Bool, ap, ◌∙◌, refl}
use Rattle.std.specs.Prelude.{map, max, option_map}
use Rattle.c_language.specs.declared.expr.Expr.{Expr}
use Rattle.c_language.specs.declared.unit.Initializer.{Initializer}
use Rattle.c_language.specs.declared.unit.Initializer.TheVariants as initial
use Rattle.c_language.specs.declared.unit.InitializerItem.{InitializerItem}
use Rattle.c_language.specs.declared.unit.Declaration.{Declaration}
use Rattle.c_language.specs.declared.unit.ForStart.{ForStart}
use Rattle.c_language.specs.declared.unit.Stmt.{Stmt}
use Rattle.c_language.specs.declared.unit.Stmt.TheVariants as stmt
use Rattle.c_grammar.specs.Grammar.{shape, highest, highest_specifier, specifier_of}
use Rattle.c_grammar.specs.Units.{
  designator_piece,
  initializer_of,
  item_of,
  init_piece,
  makes_types,
  declaration_of,
  highest_stmt,
  value_height,
  else_height,
  for_start_height,
  stmt_shape,
}
use Rattle.c_grammar.proofs.UnitEquations as equations

-- ---- initializers

pub initializer-Value : {x : Initializer} (value : Expr) → x ≡ initial.Value value → (initializer_of x).height ≡ suc
    (shape value).height
initializer-Value value is = ap (λ y. y.height) (ap initializer_of is ∙ equations.initializer-Value value)

pub initializer-List : {x : Initializer} (at : ℕ) (items : List InitializerItem) (trailing : Bool) → x ≡ initial.List
    at items trailing → (initializer_of x).height ≡ suc (highest (map item_of items))
initializer-List at items trailing is =
    ap (λ y. y.height) (ap initializer_of is ∙ equations.initializer-List at items trailing)

pub item-is : (x : InitializerItem) → (item_of x).height ≡ max (highest (map designator_piece x.designators))
    (initializer_of x.value).height
item-is x = ap (λ y. y.height) (equations.item-is x)

-- ---- declarations

pub declaration-is : (d : Declaration) → (declaration_of d).height ≡ max
    (highest_specifier (map specifier_of d.specifiers)) (highest (map (init_piece (makes_types d.specifiers))
    d.declarators))
unfolding declaration_of
declaration-is d = refl

-- ---- statements

pub stmt-Block : {x : Stmt} (at : ℕ) (items : List Stmt) → x ≡ stmt.Block at items → (stmt_shape x).height ≡ suc
    (highest_stmt (map stmt_shape items))
stmt-Block at items is = ap (λ y. y.height) (ap stmt_shape is ∙ equations.stmt-Block at items)

pub stmt-Declared : {x : Stmt} (declaration : Declaration) → x ≡ stmt.Declared declaration → (stmt_shape x).height ≡
    suc (declaration_of declaration).height
stmt-Declared declaration is = ap (λ y. y.height) (ap stmt_shape is ∙ equations.stmt-Declared declaration)

pub stmt-Value : {x : Stmt} (at : ℕ) (value : Option Expr) → x ≡ stmt.Value at value → (stmt_shape x).height ≡ suc
    (value_height value)
stmt-Value at value is = ap (λ y. y.height) (ap stmt_shape is ∙ equations.stmt-Value at value)

pub stmt-Label : {x : Stmt} (at : ℕ) (name : List ℕ) (body : Stmt) → x ≡ stmt.Label at name body →
    (stmt_shape x).height ≡ suc (stmt_shape body).height
stmt-Label at name body is = ap (λ y. y.height) (ap stmt_shape is ∙ equations.stmt-Label at name body)

pub stmt-Case : {x : Stmt} (at : ℕ) (value : Expr) (body : Stmt) → x ≡ stmt.Case at value body →
    (stmt_shape x).height ≡ suc (max (shape value).height (stmt_shape body).height)
stmt-Case at value body is = ap (λ y. y.height) (ap stmt_shape is ∙ equations.stmt-Case at value body)

pub stmt-Default : {x : Stmt} (at : ℕ) (body : Stmt) → x ≡ stmt.Default at body → (stmt_shape x).height ≡ suc
    (stmt_shape body).height
stmt-Default at body is = ap (λ y. y.height) (ap stmt_shape is ∙ equations.stmt-Default at body)

pub stmt-If : {x : Stmt} (at : ℕ) (condition : Expr) (positive : Stmt) (negative : Option Stmt) → x ≡ stmt.If at
    condition positive negative → (stmt_shape x).height ≡ suc (max (shape condition).height
    (max (stmt_shape positive).height (else_height (option_map stmt_shape negative))))
stmt-If at condition positive negative is =
    ap (λ y. y.height) (ap stmt_shape is ∙ equations.stmt-If at condition positive negative)

pub stmt-Switch : {x : Stmt} (at : ℕ) (value : Expr) (body : Stmt) → x ≡ stmt.Switch at value body →
    (stmt_shape x).height ≡ suc (max (shape value).height (stmt_shape body).height)
stmt-Switch at value body is = ap (λ y. y.height) (ap stmt_shape is ∙ equations.stmt-Switch at value body)

pub stmt-While : {x : Stmt} (at : ℕ) (condition : Expr) (body : Stmt) → x ≡ stmt.While at condition body →
    (stmt_shape x).height ≡ suc (max (shape condition).height (stmt_shape body).height)
stmt-While at condition body is = ap (λ y. y.height) (ap stmt_shape is ∙ equations.stmt-While at condition body)

pub stmt-Do : {x : Stmt} (at : ℕ) (body : Stmt) (condition : Expr) → x ≡ stmt.Do at body condition →
    (stmt_shape x).height ≡ suc (max (stmt_shape body).height (shape condition).height)
stmt-Do at body condition is = ap (λ y. y.height) (ap stmt_shape is ∙ equations.stmt-Do at body condition)

pub stmt-For : {x : Stmt} (at : ℕ) (start : ForStart) (condition : Option Expr) (step : Option Expr) (body : Stmt) →
    x ≡ stmt.For at start condition step body → (stmt_shape x).height ≡ suc (max (for_start_height start)
    (max (value_height condition) (max (value_height step) (stmt_shape body).height)))
stmt-For at start condition step body is =
    ap (λ y. y.height) (ap stmt_shape is ∙ equations.stmt-For at start condition step body)

pub stmt-Goto : {x : Stmt} (at : ℕ) (name : List ℕ) → x ≡ stmt.Goto at name → (stmt_shape x).height ≡ 1
stmt-Goto at name is = ap (λ y. y.height) (ap stmt_shape is ∙ equations.stmt-Goto at name)

pub stmt-Continue : {x : Stmt} (at : ℕ) → x ≡ stmt.Continue at → (stmt_shape x).height ≡ 1
stmt-Continue at is = ap (λ y. y.height) (ap stmt_shape is ∙ equations.stmt-Continue at)

pub stmt-Break : {x : Stmt} (at : ℕ) → x ≡ stmt.Break at → (stmt_shape x).height ≡ 1
stmt-Break at is = ap (λ y. y.height) (ap stmt_shape is ∙ equations.stmt-Break at)

pub stmt-Return : {x : Stmt} (at : ℕ) (value : Option Expr) → x ≡ stmt.Return at value → (stmt_shape x).height ≡ suc
    (value_height value)
stmt-Return at value is = ap (λ y. y.height) (ap stmt_shape is ∙ equations.stmt-Return at value)
