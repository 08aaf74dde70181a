-- What the trees of initializers, declarations and function definitions say (C99 6.7, 6.7.8, 6.9.1): `initial_says`,
-- `declaration_says`, `function_says`. The functions named `.._by` take what is said of expressions, specifiers and
-- declarators.
use Rattle.std.specs.Prelude.{ℕ, List, [], ◌∷◌, map, Option, Some, None}
use Rattle.c_language.specs.declared.expr.Declarator.{Declarator}
use Rattle.c_language.specs.declared.expr.Expr.{Expr}
use Rattle.c_language.specs.declared.expr.Specifier.{Specifier}
use Rattle.c_language.specs.declared.unit.Declaration.{Declaration}
use Rattle.c_language.specs.declared.unit.Designator.{Designator}
use Rattle.c_language.specs.declared.unit.Designator.TheVariants as designator
use Rattle.c_language.specs.declared.unit.InitDeclarator.{InitDeclarator}
use Rattle.c_language.specs.declared.unit.Initializer.{Initializer, fold-Initializer}
use Rattle.c_language.specs.declared.unit.Initializer.TheOpen as open_
use Rattle.c_language.specs.declared.ctype.CType.{CType}
use Rattle.c_language.specs.Scopes.{Scope}
use Rattle.c_language.specs.Typing.{Typed}
use Rattle.c_language.specs.Declares.{Saying, DeclaratorSays}
use Rattle.c_language.specs.Initials.{
  Fills,
  Filling,
  InitialSaid,
  Designates,
  ToMember,
  ToElement,
  value_says,
  list_says,
  item_says,
  filling_of,
}
use Rattle.c_language.specs.Declarations.{
  Initialised,
  InitialSays,
  Item,
  Declares,
  FunctionSaid,
  declaration_by,
  function_by,
}
use Rattle.c_language.specs.Trees.{typed, declarator_says, specifier_says}

-- ---- initializers

abbrev pub ExprTyped : Type 0
ExprTyped = Expr → Scope → Typed

abbrev pub designated : Designator → Designates Expr
designated (designator.Member at member) = ToMember at member
designated (designator.Element at index) = ToElement at index

abbrev pub initial_step : ExprTyped → open_.Initializer-F InitialSaid Fills → InitialSaid
initial_step says (open_.Value value) = value_says {E = Expr} says value
initial_step says (open_.List at items trailing) = list_says at items

abbrev pub item_step : ExprTyped → open_.InitializerItem-F InitialSaid Fills → Fills
item_step says item = item_says {E = Expr} says (map designated item.designators) item.value

-- what an initializer says, where expressions say this
unfoldable pub initial_by : ExprTyped → Initializer → InitialSaid
initial_by says x = fold-Initializer InitialSaid Fills (initial_step says) (item_step says) x

abbrev pub initial_says : Initializer → InitialSaid
initial_says x = initial_by typed x

abbrev pub initialised : Filling → Initialised
initialised y = record { length = Some y.high; faults = y.faults; after = y.scope }

-- what it says of an object that is declared with it
abbrev pub initialises : InitialSaid → InitialSays
initialises x t s = initialised (filling_of x t s)

abbrev pub initial_if : ExprTyped → Option Initializer → Option InitialSays
initial_if says None = None
initial_if says (Some x) = Some (initialises (initial_by says x))

-- ---- declarations

abbrev pub item_by : ExprTyped → (Declarator → DeclaratorSays) → InitDeclarator → Item
item_by says declarators x = record { declarator = declarators x.declarator; initial = initial_if says x.initializer }

abbrev pub declared_by : ExprTyped → (Specifier → Saying) → (Declarator → DeclaratorSays) → Declaration → Scope →
    Declares
declared_by says specifiers declarators x s = declaration_by (map specifiers x.specifiers) (map (item_by says
    declarators) x.declarators) s

-- what a declaration declares in a scope, and the rules that it breaks
abbrev pub declaration_says : Declaration → Scope → Declares
declaration_says x s = declared_by typed specifier_says declarator_says x s

-- ---- function definitions

-- what the head of a function definition declares in a scope, and the scope of its body
abbrev pub function_says : List Specifier → Declarator → Scope → FunctionSaid
function_says specifiers declarator s = function_by (map specifier_says specifiers) (declarator_says declarator) s
