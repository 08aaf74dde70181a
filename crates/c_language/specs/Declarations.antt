-- What declarations outside expressions say (C99 6.7, 6.9): linkage, redeclaration, definitions, the type that an
-- initializer completes,
-- and the scopes of a function's parameters. `declares` is what one declarator with its initializer declares,
-- `declaration_by` what a
-- whole declaration does, `function_by` what the head of a function definition does. All are over what specifiers,
-- declarators and
-- initializers say, not over trees.
use Rattle.std.specs.Prelude.{
  ℕ,
  zero,
  suc,
  ◌+◌,
  nat_eq,
  Bool,
  true,
  false,
  cond,
  not,
  ◌&&◌,
  ◌||◌,
  List,
  [],
  ◌∷◌,
  ◌++◌,
  length,
  Option,
  Some,
  None,
  Result,
  Ok,
  Err,
}
use Rattle.std.specs.Str.{bytes_eq}
use Rattle.c_language.specs.declared.expr.StorageClass.{StorageClass}
use Rattle.c_language.specs.declared.expr.StorageClass.TheVariants as class
use Rattle.c_language.specs.declared.ctype.CType.{CType}
use Rattle.c_language.specs.declared.ctype.Derivation.{Derivation}
use Rattle.c_language.specs.declared.ctype.Derivation.TheVariants as d
use Rattle.c_language.specs.declared.tables.Prototype.{Prototype}
use Rattle.c_language.specs.declared.tables.Prototype.TheVariants as prototype_
use Rattle.c_language.specs.declared.tables.Signature.{Signature}
use Rattle.c_language.specs.declared.tables.Tables.{Tables}
use Rattle.c_language.specs.Types.{function, rest_of, returned_of, is_function, is_void, is_array}
use Rattle.c_language.specs.Layouts.{is_sized, is_too_large}
use Rattle.c_language.specs.Compatible.{compatible, composite}
use Rattle.c_language.specs.declared.scope.Duration.{Duration}
use Rattle.c_language.specs.declared.scope.Duration.TheVariants as duration
use Rattle.c_language.specs.declared.scope.Entry.{Entry}
use Rattle.c_language.specs.declared.scope.Fault.{Fault}
use Rattle.c_language.specs.declared.scope.Linkage.{Linkage}
use Rattle.c_language.specs.declared.scope.Linkage.TheVariants as linkage
use Rattle.c_language.specs.declared.scope.Linked.{Linked}
use Rattle.c_language.specs.declared.scope.Means.{Means}
use Rattle.c_language.specs.declared.scope.Means.TheVariants as means
use Rattle.c_language.specs.declared.scope.Rule.{Rule}
use Rattle.c_language.specs.declared.scope.Rule.TheVariants as rule
use Rattle.c_language.specs.Scopes.{
  Name,
  Block,
  Scope,
  look_up,
  entry_in,
  own_entry,
  linked_as,
  in_file,
  declared,
  with_linked,
  with_signature,
  next_signature,
  enter,
  enter_with,
}
use Rattle.c_language.specs.Typing.{NamedType, fault_at, incomplete, too_large}
use Rattle.c_language.specs.Declares.{
  Said,
  Saying,
  Formed,
  DeclaratorSays,
  Parameters,
  said_by,
  specified,
  derived_from,
  formed_type,
  type_in,
  faults_in,
}

-- ---- what declares what (C99 6.7.1, 6.2.2)

-- A typedef name, a function, or an object.
abbrev pub is_typedef : Option StorageClass → Bool
is_typedef (Some class.Typedef) = true
is_typedef _ = false

abbrev pub is_static : Option StorageClass → Bool
is_static (Some class.Static) = true
is_static _ = false

abbrev pub is_extern : Option StorageClass → Bool
is_extern (Some class.Extern) = true
is_extern _ = false

abbrev pub linkage_meant : Means → Linkage
linkage_meant (means.Object t duration linkage) = linkage
linkage_meant (means.Function t linkage) = linkage
linkage_meant (means.Typedef t) = linkage.None
linkage_meant (means.Constant z) = linkage.None
linkage_meant means.Faulty = linkage.None

abbrev pub or_external : Linkage → Linkage
or_external linkage.None = linkage.External
or_external linkage.Internal = linkage.Internal
or_external linkage.External = linkage.External

-- the linkage of the declaration in force, where there is one with linkage, else external (C99 6.2.2p4)
abbrev pub prior_linkage : Option Entry → Linkage
prior_linkage None = linkage.External
prior_linkage (Some e) = or_external (linkage_meant e.means)

-- a function without storage class is as with `extern` (C99 6.2.2p5)
abbrev pub file_linkage : Option StorageClass → Bool → Option Entry → Linkage
file_linkage storage function prior =
    cond (is_static storage) linkage.Internal (cond (function || is_extern storage) (prior_linkage prior)
    linkage.External)

abbrev pub block_linkage : Option StorageClass → Bool → Option Entry → Linkage
block_linkage storage function prior = cond (function || is_extern storage) (prior_linkage prior) linkage.None

-- C99 6.2.2p3 to p6
abbrev pub linkage_by : Bool → Option StorageClass → Bool → Option Entry → Linkage
linkage_by true storage function prior = file_linkage storage function prior
linkage_by false storage function prior = block_linkage storage function prior

-- C99 6.2.4p3, p4
abbrev pub duration_by : Option StorageClass → Linkage → Duration
duration_by storage linkage.None = cond (is_static storage) duration.Static duration.Automatic
duration_by storage linkage.Internal = duration.Static
duration_by storage linkage.External = duration.Static

abbrev pub object_with : Option StorageClass → CType → Linkage → Means
object_with storage t l = means.Object t (duration_by storage l) l

abbrev pub means_of : Option StorageClass → CType → Scope → Name → Means
means_of storage t s name =
    cond (is_typedef storage) (means.Typedef t)
    (cond (is_function t) (means.Function t (linkage_by (in_file s) storage true (look_up s name)))
    (object_with storage t (linkage_by (in_file s) storage false (look_up s name))))

-- ---- declaring again (C99 6.7p3, p4, 6.2.7)

-- What a name means behind a declaration, or that it was declared otherwise.
abbrev pub Again : Type 0
Again = Option Means

abbrev pub where_compatible : Bool → Means → Again
where_compatible true m = Some m
where_compatible false m = None

-- two declarations with linkage of one object or function have compatible types, and the later one the composite type
-- (C99 6.2.7p4)
abbrev pub linked_again : Tables → Means → Means → Again
linked_again tables (means.Object t d l) (means.Object u e m) = where_compatible (compatible tables t u)
    (means.Object (composite tables t u) e m)
linked_again tables (means.Function t l) (means.Function u m) = where_compatible (compatible tables t u)
    (means.Function (composite tables t u) m)
linked_again tables _ new = None

abbrev pub has_linkage : Means → Bool
has_linkage (means.Object t d linkage.Internal) = true
has_linkage (means.Object t d linkage.External) = true
has_linkage (means.Object t d linkage.None) = false
has_linkage (means.Function t l) = true
has_linkage (means.Typedef t) = false
has_linkage (means.Constant z) = false
has_linkage means.Faulty = false

abbrev pub is_faulty : Means → Bool
is_faulty means.Faulty = true
is_faulty _ = false

-- in the block of the declaration before
abbrev pub own_again : Tables → Means → Means → Again
own_again tables old new =
    cond (is_faulty old) (Some new) (cond (has_linkage old && has_linkage new) (linked_again tables old new) None)

-- in a block, a name with linkage is that of the file where the file declares an object or function of the name
abbrev pub file_again : Tables → Means → Means → Again
file_again tables old new = cond (has_linkage old && has_linkage new) (linked_again tables old new) (Some new)

abbrev pub again_in_file : Tables → Option Entry → Means → Again
again_in_file tables None new = Some new
again_in_file tables (Some e) new = file_again tables e.means new

abbrev pub again_as : Tables → Option Entry → Option Entry → Means → Again
again_as tables (Some own) file new = own_again tables own.means new
again_as tables None file new = again_in_file tables file new

abbrev pub declared_again : Scope → Name → Means → Again
declared_again s name new = again_as s.tables (own_entry s name) (entry_in s.file name) new

-- ---- objects and functions with linkage: the offset of the first declaration, and one definition at most (C99
-- 6.9p3, p5)

abbrev pub first_at : ℕ → Option Linked → ℕ
first_at at None = at
first_at at (Some l) = l.at

abbrev pub was_defined : Option Linked → Bool
was_defined None = false
was_defined (Some l) = l.is_defined

-- its name in force, by the offset of its first declaration
abbrev pub declares_linked : ℕ → Name → Means → Bool → Option Linked → Scope → Scope
declares_linked at name m defines l s =
    with_linked (first_at at l) name (linkage_meant m) (defines || was_defined l) (declared (first_at at l) name m s)

abbrev pub declares_name : ℕ → Name → Means → Bool → Scope → Scope
declares_name at name m defines s =
    cond (has_linkage m) (declares_linked at name m defines (linked_as s name) s) (declared at name m s)

abbrev pub twice_defined : Means → Bool → Option Linked → Bool
twice_defined m defines l = has_linkage m && defines && was_defined l

-- ---- initializers (C99 6.7.8), as far as they act on the type: an array of unknown length gets the length that they
-- give it

-- What an initializer says of an object of a type: the length of an array of unknown length, where it gives one.
pub record Initialised : Type 0 where
  pub length : Option ℕ
  pub faults : List Fault
  pub after : Scope

abbrev pub InitialSays : Type 0
InitialSays = CType → Scope → Initialised

-- C99 6.7.8p22
abbrev pub with_length : Option ℕ → CType → List Derivation → CType
with_length (Some n) t (d.Array None ∷ ds) = record t { derivations = d.Array (Some n) ∷ ds }
with_length _ t ds = t

abbrev pub completed_by : Option ℕ → Means → Means
completed_by n (means.Object t d l) = means.Object (with_length n t t.derivations) d l
completed_by n (means.Function t l) = means.Function t l
completed_by n (means.Typedef t) = means.Typedef t
completed_by n (means.Constant z) = means.Constant z
completed_by n means.Faulty = means.Faulty

-- ---- completeness (C99 6.7p7): an object without linkage, and one with an initializer, has a type whose size is
-- known

abbrev pub size_fault : Tables → CType → Option Rule
size_fault tables t = cond (is_too_large tables t) (Some too_large) (cond (is_sized tables t) None (Some incomplete))

abbrev pub limit_fault : Tables → CType → Option Rule
limit_fault tables t = cond (is_too_large tables t) (Some too_large) None

abbrev pub object_fault : Tables → Bool → CType → Linkage → Option Rule
object_fault tables initialised t linkage.None = size_fault tables t
object_fault tables true t _ = size_fault tables t
object_fault tables false t _ = limit_fault tables t

abbrev pub complete_fault : Tables → Bool → Means → Option Rule
complete_fault tables initialised (means.Object t d l) = object_fault tables initialised t l
complete_fault tables initialised (means.Function t l) = None
complete_fault tables initialised (means.Typedef t) = None
complete_fault tables initialised (means.Constant z) = None
complete_fault tables initialised means.Faulty = None

abbrev pub faults_of_rule : ℕ → Option Rule → List Fault
faults_of_rule at None = []
faults_of_rule at (Some r) = fault_at at r

-- ---- one declarator with its initializer

-- what is declared: the entry, where it has a name, and its initializer's effect
pub record Declared : Type 0 where
  pub entry : Option Entry
  pub faults : List Fault
  pub after : Scope

-- an object alone may be initialised, and none with linkage in a block (C99 6.7.8p3, p5)
abbrev pub may_be_initialised : Bool → Means → Bool
may_be_initialised file (means.Object t d linkage.None) = true
may_be_initialised file (means.Object t d l) = file
may_be_initialised file (means.Function t l) = false
may_be_initialised file (means.Typedef t) = false
may_be_initialised file (means.Constant z) = false
may_be_initialised file means.Faulty = true

abbrev pub initial_faults : ℕ → Bool → Means → List Fault
initial_faults at file m = cond (may_be_initialised file m) [] (fault_at at rule.TypeMismatch)

abbrev pub object_type : Means → Option CType
object_type (means.Object t d l) = Some t
object_type (means.Function t l) = None
object_type (means.Typedef t) = None
object_type (means.Constant z) = None
object_type means.Faulty = None

abbrev pub initialised_by : InitialSays → Option CType → Scope → Initialised
initialised_by f None s = record { length = None; faults = []; after = s }
initialised_by f (Some t) s = f t s

-- no initializer: the name as it was declared
abbrev pub declared_plainly : ℕ → Name → Means → List Fault → Scope → Declared
declared_plainly at name m faults s = record {
  entry = look_up s name;
  faults = faults ++ faults_of_rule at (complete_fault s.tables false m);
  after = s;
}

abbrev pub declared_lastly : Name → List Fault → Scope → Declared
declared_lastly name faults s = record { entry = look_up s name; faults = faults; after = s }

-- the completed type is in force behind the initializer
abbrev pub declared_completely : ℕ → Name → Means → List Fault → Scope → Declared
declared_completely at name m faults s =
    declared_lastly name (faults ++ faults_of_rule at (complete_fault s.tables true m)) (declares_name at name m true
    s)

-- the name is in force in its own initializer (C99 6.2.1p7)
abbrev pub declared_initialised : ℕ → Name → Means → List Fault → Initialised → Declared
declared_initialised at name m faults x = declared_completely at name (completed_by x.length m) (faults
    ++ x.faults) x.after

abbrev pub declared_with : ℕ → Name → Means → Option InitialSays → List Fault → Scope → Declared
declared_with at name m None faults s = declared_plainly at name m faults s
declared_with at name m (Some f) faults s =
    declared_initialised at name m (faults ++ initial_faults at (in_file s) m) (initialised_by f (object_type m) s)

abbrev pub is_some : {A : Type 0} → Option A → Bool
is_some None = false
is_some (Some x) = true

abbrev pub redeclared_as : ℕ → Name → Again → Option InitialSays → List Fault → Scope → Declared
redeclared_as at name None f faults s =
    declared_with at name means.Faulty f (faults ++ fault_at at rule.DuplicateDefinition) (declared at name
    means.Faulty s)
redeclared_as at name (Some m) f faults s =
    declared_with at name m f
    (faults ++ cond (twice_defined m (is_some f) (linked_as s name)) (fault_at at rule.DuplicateDefinition) [])
    (declares_name at name m false s)

abbrev pub declared_type : Option StorageClass → ℕ → Name → Option CType → Option InitialSays → List Fault →
    Scope → Declared
declared_type storage at name None f faults s = declared_with at name means.Faulty f faults (declared at name
    means.Faulty s)
declared_type storage at name (Some t) f faults s =
    redeclared_as at name (declared_again s name (means_of storage t s name)) f faults s

abbrev pub declared_formed : Option StorageClass → Option (ℕ × Name) → NamedType → Option InitialSays →
    List Fault → Scope → Declared
declared_formed storage None t f faults s = record { entry = None; faults = faults; after = s }
declared_formed storage (Some n) t f faults s =
    declared_type storage n.0 n.1 (type_in t) f (faults ++ faults_in n.0 t) s

-- a declarator behind its specifiers
abbrev pub declares : Said → Formed → Option InitialSays → Declared
declares said x f = declared_formed said.storage x.name (formed_type x.after.tables (derived_from x.derivations
    (specified said))) f x.faults x.after

-- ---- a whole declaration (C99 6.7)

pub record Item : Type 0 where
  pub declarator : DeclaratorSays
  pub initial : Option InitialSays

-- the entries that its declarators declare, in order
pub record Declares : Type 0 where
  pub entries : List Entry
  pub faults : List Fault
  pub after : Scope

abbrev pub with_entry_of : List Entry → Option Entry → List Entry
with_entry_of es None = es
with_entry_of es (Some e) = es ++ e ∷ []

abbrev pub and_declared : Declares → Declared → Declares
and_declared x y = record { entries = with_entry_of x.entries y.entry; faults = x.faults ++ y.faults; after = y.after }

-- each declarator in the scope that those before it leave
abbrev pub each_item : Said → Declares → List Item → Declares
each_item said x [] = x
each_item said x (y ∷ ys) = each_item said (and_declared x (declares said (y.declarator x.after) y.initial)) ys

abbrev pub is_alone : List Item → Bool
is_alone [] = true
is_alone (x ∷ xs) = false

abbrev pub behind_specifiers : Said → Declares
behind_specifiers said = record { entries = []; faults = said.faults; after = said.scope }

-- specifiers, then each declarator with its initializer, in the scope that those before it leave
abbrev pub declaration_by : List Saying → List Item → Scope → Declares
declaration_by specifiers items s =
    let said = said_by specifiers (is_alone items) [] s in
    each_item said (behind_specifiers said) items

-- a tentative array of unknown length has one element (C99 6.9.2p5)
abbrev pub tentative_type : CType → CType
tentative_type t = with_length (Some 1) t t.derivations

-- ---- the head of a function definition (C99 6.9.1)

-- `returned` and `parameters` are of its type; `inside` is the scope of its body, in which its parameters are in
-- force.
pub record FunctionSaid : Type 0 where
  pub entry : Option Entry
  pub returned : Option CType
  pub parameters : List Entry
  pub faults : List Fault
  pub after : Scope
  pub inside : Scope

-- an empty list in a definition says that there are no parameters (C99 6.7.5.3p14)
abbrev pub defined_signature : Tables → CType → List Derivation → Scope → CType × Scope
defined_signature tables t (d.Function n ∷ ds) s = by (has_unspecified tables.signatures n)
  where
    is_unspecified : Prototype → Bool
    is_unspecified prototype_.Unspecified = true
    is_unspecified prototype_.Fixed = false
    is_unspecified prototype_.Variadic = false
    is_unspecified prototype_.EmptyDefinition = false

    has_unspecified : List Signature → ℕ → Bool
    has_unspecified [] m = false
    has_unspecified (g ∷ gs) zero = is_unspecified g.prototype
    has_unspecified (g ∷ gs) (suc m) = has_unspecified gs m

    by : Bool → CType × Scope
    by true = (function (next_signature s) (rest_of t ds), with_signature prototype_.EmptyDefinition [] s)
    by false = (t, s)
defined_signature tables t ds s = (t, s)

abbrev pub parameter_fault : Tables → Entry → Means → List Fault
parameter_fault tables e (means.Object t d l) = cond (is_sized tables t) [] (fault_at e.at incomplete)
parameter_fault tables e _ = []

-- parameters of a definition have complete types (C99 6.7.5.3p4)
abbrev pub parameters_faults : Tables → List Entry → List Fault
parameters_faults tables [] = []
parameters_faults tables (e ∷ es) = parameter_fault tables e e.means ++ parameters_faults tables es

-- and names (C99 6.9.1p5)
abbrev pub unnamed_fault : ℕ → Option Parameters → List Fault
unnamed_fault at None = []
unnamed_fault at (Some p) = cond p.are_named [] (fault_at at rule.TypeMismatch)

-- it returns nothing, or an object of complete type (C99 6.9.1p3)
abbrev pub returned_fault : Tables → ℕ → Option CType → List Fault
returned_fault tables at None = fault_at at rule.TypeMismatch
returned_fault tables at (Some t) = cond (is_void t || is_sized tables t) [] (fault_at at incomplete)

abbrev pub is_parameter : Means → Bool
is_parameter (means.Object t d l) = true
is_parameter (means.Function t l) = false
is_parameter (means.Typedef t) = false
is_parameter (means.Constant z) = false
is_parameter means.Faulty = false

abbrev pub parameters_among : List Entry → List Entry
parameters_among [] = []
parameters_among (e ∷ es) = cond (is_parameter e.means) (e ∷ parameters_among es) (parameters_among es)

-- the parameters, in order, among what their list declares
abbrev pub entries_in : Option Parameters → List Entry
entries_in None = []
entries_in (Some p) = parameters_among p.block.entries

-- the scope of the body: one block, in which the parameters are declared (C99 6.2.1p4)
abbrev pub inside_with : Option Parameters → Name → Scope → Scope
inside_with None name s = record (enter s) { function = Some name }
inside_with (Some p) name s = record (enter_with p.block s) { function = Some name }

abbrev pub with_body : ℕ → Name → CType → Formed → Declared → FunctionSaid
with_body at name t x first = record {
  entry = first.entry;
  returned = returned_of t;
  parameters = entries_in x.inside;
  faults = first.faults ++ returned_fault first.after.tables at (returned_of t)
      ++ unnamed_fault at x.inside
      ++ parameters_faults first.after.tables (entries_in x.inside);
  after = first.after;
  inside = inside_with x.inside name first.after;
}

abbrev pub defined_as : ℕ → Name → Again → List Fault → Scope → Declared
defined_as at name None faults s =
    declared_lastly name (faults ++ fault_at at rule.DuplicateDefinition) (declared at name means.Faulty s)
defined_as at name (Some m) faults s =
    declared_lastly name (faults ++ cond (twice_defined m true (linked_as s name)) (fault_at at
    rule.DuplicateDefinition) [])
    (declares_name at name m true s)

abbrev pub defined_function : Option StorageClass → ℕ → Name → Formed → List Fault → CType × Scope → FunctionSaid
defined_function storage at name x faults p =
    with_body at name p.0 x (defined_as at name (declared_again p.1 name (means_of storage p.0 p.1 name)) faults p.1)

abbrev pub faulty_function : Name → Formed → Declared → FunctionSaid
faulty_function name x first = record {
  entry = first.entry;
  returned = None;
  parameters = entries_in x.inside;
  faults = first.faults;
  after = first.after;
  inside = inside_with x.inside name first.after;
}

abbrev pub function_type : Option StorageClass → ℕ → Name → Option CType → Formed → List Fault → FunctionSaid
function_type storage at name None x faults =
    faulty_function name x (declared_lastly name faults (declared at name means.Faulty x.after))
function_type storage at name (Some t) x faults =
    defined_function storage at name x faults (defined_signature x.after.tables t t.derivations x.after)

-- a definition without a name declares nothing; no tree of the grammar is one
abbrev pub nameless : Formed → List Fault → FunctionSaid
nameless x faults = record {
  entry = None;
  returned = None;
  parameters = entries_in x.inside;
  faults = faults;
  after = x.after;
  inside = inside_with x.inside [] x.after;
}

abbrev pub function_named : Option StorageClass → Option (ℕ × Name) → NamedType → Formed → List Fault → FunctionSaid
function_named storage None t x faults = nameless x faults
function_named storage (Some n) t x faults = function_type storage n.0 n.1 (type_in t) x (faults ++ faults_in n.0 t)

abbrev pub function_from : Said → Formed → FunctionSaid
function_from said x =
    function_named said.storage x.name (formed_type x.after.tables (derived_from x.derivations (specified said))) x
    (said.faults ++ x.faults)

-- the specifiers and the declarator of a function definition
abbrev pub function_by : List Saying → DeclaratorSays → Scope → FunctionSaid
function_by specifiers declarator s = let said = said_by specifiers false [] s in function_from said (declarator
    said.scope)
