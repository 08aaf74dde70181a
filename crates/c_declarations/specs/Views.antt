-- What the code holds of declarations, in front of the scope behind them: the values that `c_language` speaks of.
use Rattle.std.specs.Prelude.{◌≡◌, ℕ, Bool, true, false, List, [], ◌∷◌, Option, Some, None}
use Rattle.c_language.specs.declared.expr.StorageClass.{StorageClass}
use Rattle.c_language.specs.declared.unit.InitDeclarator.{InitDeclarator}
use Rattle.c_language.specs.declared.ctype.CType.{CType}
use Rattle.c_language.specs.declared.tables.Prototype.{Prototype}
use Rattle.c_language.specs.declared.tables.Prototype.TheVariants as prototype_
use Rattle.c_language.specs.declared.tables.Signature.{Signature}
use Rattle.c_language.specs.Scopes.{Block, Scope, empty, no_names, enter_with}
use Rattle.c_language.specs.Declares.{Formed, Parameters, named, formed_type, derived_from}
use Rattle.c_language.specs.Declarations as spec
use Rattle.c_language.specs.Trees.{typed, declarator_says}
use Rattle.c_language.specs.Units.{item_by}
use Rattle.c_declarations.specs.declared.declarators.Declared.{Declared}
use Rattle.c_declarations.specs.declared.declarations.DeclarationSaid.{DeclarationSaid}
use Rattle.c_declarations.specs.declared.functions.FunctionSaid.{FunctionSaid}

abbrev pub declared_in : Declared → Scope → spec.Declared
declared_in x s = record { entry = x.entry; faults = x.faults; after = s }

abbrev pub declares_in : DeclarationSaid → Scope → spec.Declares
declares_in x s = record { entries = x.entries; faults = x.faults; after = s }

-- the scope of the body is the one behind the head, with the block of the parameters
abbrev pub function_in : FunctionSaid → Scope → spec.FunctionSaid
function_in x s = record {
  entry = x.entry;
  returned = x.returned;
  parameters = x.parameters;
  faults = x.faults;
  after = s;
  inside = record (enter_with x.block s) { function = Some x.name };
}

-- a declarator with its initializer
abbrev pub item_of : InitDeclarator → spec.Item
item_of x = item_by typed declarator_says x

-- what a declarator declares behind specifiers of this storage class and type
abbrev pub declares_as : Option StorageClass → Option CType → Formed → Option spec.InitialSays → spec.Declared
declares_as storage t x f =
    spec.declared_formed storage x.name (formed_type x.after.tables (derived_from x.derivations t)) f x.faults x.after

-- declarators from left to right
abbrev pub each_as : Option StorageClass → Option CType → spec.Declares → List spec.Item → spec.Declares
each_as storage t x [] = x
each_as storage t x (y ∷ ys) =
    each_as storage t (spec.and_declared x (declares_as storage t (y.declarator x.after) y.initial)) ys

-- what a declarator says of the parameters of the outermost function
abbrev pub formed_with : Option Parameters → Formed
formed_with p = record (named None empty) { inside = p }

-- what the body's block declares
abbrev pub block_in : Option Parameters → Block
block_in None = no_names
block_in (Some p) = p.block

abbrev pub is_unspecified : Option Signature → Bool
is_unspecified None = false
is_unspecified (Some g) = unspecified g.prototype
  where
    unspecified : Prototype → Bool
    unspecified prototype_.Unspecified = true
    unspecified prototype_.Fixed = false
    unspecified prototype_.Variadic = false
    unspecified prototype_.EmptyDefinition = false

-- a type and the scope behind a definition's signature
abbrev pub signed : Scope → CType → CType → Scope → Type 0
signed s t u after = (u, after) ≡ spec.defined_signature s.tables t t.derivations s
