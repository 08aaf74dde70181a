-- Declarators as items: one behind the other.
use Rattle.std.specs.Prelude.{◌≡◌, ℕ, Bool, true, false, List, [], ◌∷◌, Option, Some, None}
use Rattle.c_language.specs.declared.expr.StorageClass.{StorageClass}
use Rattle.c_language.specs.declared.ctype.CType.{CType}
use Rattle.c_language.specs.declared.scope.Duration.{Duration}
use Rattle.c_language.specs.declared.scope.Duration.TheVariants as duration
use Rattle.c_language.specs.declared.scope.Entry.{Entry}
use Rattle.c_language.specs.declared.scope.Means.{Means}
use Rattle.c_language.specs.declared.scope.Means.TheVariants as means
use Rattle.c_language.specs.Scopes.{Scope}
use Rattle.c_language.specs.Declarations.{Declared}
use Rattle.c_means.specs.Items.{Item, typing, with_breaches, nothing, followed}
use Rattle.c_means.specs.Initials as initials
use Rattle.c_means.specs.Statements.{Declaring, declared_entry}
use Rattle.c_item_notes.specs.ItemTellings.{item_as}
use Rattle.elaborate.specs.Means.{Numbering}
use Rattle.c_declarations.specs.declared.beginnings.NamedMeans.{NamedMeans}
use Rattle.core_objects.specs.declared.begun.Begun.{Begun}
use Rattle.core_objects.specs.declared.given.Initial.{Initial}
use Rattle.core_objects.specs.Begun.{IsBegun, joined}
use Rattle.core_objects.specs.Given.{IsGiven, IsInitial, IsLasting}

-- ---- objects that live throughout the run

abbrev pub is_static : Duration → Bool
is_static duration.Automatic = false
is_static duration.Static = true

abbrev pub lasts_as : Means → Bool
lasts_as (means.Object t d l) = is_static d
lasts_as (means.Function t l) = false
lasts_as (means.Typedef t) = false
lasts_as (means.Constant z) = false
lasts_as means.Faulty = false

abbrev pub lasts : Option NamedMeans → Bool
lasts None = false
lasts (Some x) = lasts_as x.means

-- what is given to an object that lives throughout the run, or in a block
abbrev pub IsGivenIf : Bool → Numbering → Initial → initials.Initial → Type 0
IsGivenIf true numbering y x = IsLasting numbering y x
IsGivenIf false numbering y x = IsGiven numbering y.settings x

-- the initializer of what is declared
abbrev pub IsInitialOf : Option Entry → Numbering → Initial → initials.Initial → Type 0
IsInitialOf None numbering y x = Unit {0}
IsInitialOf (Some e) numbering y x = IsInitial e.means numbering y x

-- ---- declarators

-- what is declared, with what its initializer does
abbrev pub declared_as : ℕ → Bool → Declared → initials.Initial → Item
declared_as at defined w x = with_breaches (typing w.faults) (declared_entry at w.entry defined x w.after)

-- declarators from left to right, behind specifiers of this storage class and type
abbrev pub items_by : Option StorageClass → Option CType → List Declaring → Scope → Item
items_by storage t [] s = nothing s
items_by storage t (x ∷ xs) s =
    let i = item_as storage t (x.declarator s) x.initial in followed i (items_by storage t xs i.after)

-- one more item
pub record AndItem (numbering : Numbering) (before : Begun) (i : Item) (y : Begun) (t : Scope) : Type 0 where
  pub one : Begun
  pub is : y ≡ joined before one
  pub begun : IsBegun numbering one i t
