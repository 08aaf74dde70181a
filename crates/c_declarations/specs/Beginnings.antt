-- A declared name in front of its initializer, where it is in force already (C99 6.2.1p7), and behind it: between the
-- two the initializer is read.
use Rattle.std.specs.Prelude.{ℕ, Bool, true, false, cond, List, [], ◌++◌, Option, Some, None}
use Rattle.c_language.specs.declared.expr.StorageClass.{StorageClass}
use Rattle.c_language.specs.declared.ctype.CType.{CType}
use Rattle.c_language.specs.declared.scope.Fault.{Fault}
use Rattle.c_language.specs.declared.scope.Means.{Means}
use Rattle.c_language.specs.declared.scope.Means.TheVariants as means
use Rattle.c_language.specs.declared.scope.Rule.TheVariants as rule
use Rattle.c_language.specs.Scopes.{Name, Scope, declared, in_file, linked_as}
use Rattle.c_language.specs.Typing.{NamedType, fault_at}
use Rattle.c_language.specs.Declares.{type_in, faults_in}
use Rattle.c_language.specs.Declarations.{Again, Declared, Initialised, InitialSays, declared_again, declared_initialised}
use Rattle.c_language.specs.Declarations.{declares_name, initial_faults, initialised_by, means_of, object_type}
use Rattle.c_language.specs.Declarations.{twice_defined}
use Rattle.c_language.specs.Declarations as says
use Rattle.c_declarations.specs.declared.beginnings.Begun.{Begun}
use Rattle.c_declarations.specs.declared.beginnings.NamedMeans.{NamedMeans}

pub record Begins : Type 0 where
  pub named : Option NamedMeans
  pub faults : List Fault
  pub after : Scope

abbrev pub begins_in : Begun → Scope → Begins
begins_in x s = record { named = x.named; faults = x.faults; after = s }

-- ---- in front of the initializer

-- only objects are initialised
abbrev pub may_fill : ℕ → Bool → Scope → Means → List Fault → List Fault
may_fill at false s m faults = faults
may_fill at true s m faults = faults ++ initial_faults at (in_file s) m

abbrev pub begun_as : ℕ → Name → Bool → Means → List Fault → Scope → Begins
begun_as at name initialised m faults s = record {
  named = Some (record { at = at; name = name; means = m });
  faults = may_fill at initialised s m faults;
  after = s;
}

abbrev pub begun_again : ℕ → Name → Bool → Again → List Fault → Scope → Begins
begun_again at name initialised None faults s =
    begun_as at name initialised means.Faulty (faults ++ fault_at at rule.DuplicateDefinition)
    (declared at name means.Faulty s)
begun_again at name initialised (Some m) faults s =
    begun_as at name initialised m
    (faults ++ cond (twice_defined m initialised (linked_as s name)) (fault_at at rule.DuplicateDefinition) [])
    (declares_name at name m false s)

abbrev pub begun_type : Option StorageClass → ℕ → Name → Bool → Option CType → List Fault → Scope → Begins
begun_type storage at name initialised None faults s =
    begun_as at name initialised means.Faulty faults (declared at name means.Faulty s)
begun_type storage at name initialised (Some t) faults s =
    begun_again at name initialised (declared_again s name (means_of storage t s name)) faults s

abbrev pub begun : Option StorageClass → Option (ℕ × Name) → NamedType → Bool → List Fault → Scope → Begins
begun storage None t initialised faults s = record { named = None; faults = faults; after = s }
begun storage (Some n) t initialised faults s =
    begun_type storage n.0 n.1 initialised (type_in t) (faults ++ faults_in n.0 t) s

-- the type of the object that an initializer fills
abbrev pub object_of : Option NamedMeans → Option CType
object_of None = None
object_of (Some n) = object_type n.means

-- ---- behind it

abbrev pub plainly_named : Option NamedMeans → List Fault → Scope → Declared
plainly_named None faults s = record { entry = None; faults = faults; after = s }
plainly_named (Some n) faults s = says.declared_plainly n.at n.name n.means faults s

abbrev pub plainly : Begins → Declared
plainly x = plainly_named x.named x.faults x.after

abbrev pub filled : Option NamedMeans → List Fault → Initialised → Declared
filled None faults x = record { entry = None; faults = faults; after = x.after }
filled (Some n) faults x = declared_initialised n.at n.name n.means faults x

-- with what its initializer says
abbrev pub filled_by : Begins → InitialSays → Declared
filled_by x f = filled x.named x.faults (initialised_by f (object_of x.named) x.after)
