-- The head of a function definition, by what it takes of its specifiers and its declarator.
use Rattle.std.proofs.Common.{◌≡◌, ℕ, ◌++◌, List, Option, Some, None, Result, Ok, Err, refl, ap}
use Rattle.c_language.specs.declared.expr.StorageClass.{StorageClass}
use Rattle.c_language.specs.declared.ctype.CType.{CType}
use Rattle.c_language.specs.declared.scope.Fault.{Fault}
use Rattle.c_language.specs.Scopes.{Name, Scope, enter_with}
use Rattle.c_language.specs.Typing.{NamedType}
use Rattle.c_language.specs.Declares.{Parameters, Formed, formed_type, derived_from}
use Rattle.c_language.specs.Declarations.{inside_with, function_named, function_from}
use Rattle.c_declares.specs.declared.said.Said.{Said}
use Rattle.c_declares.specs.Views.{said_in}
use Rattle.c_declarations.specs.Views.{block_in, formed_with}
use Rattle.c_declarations.proofs.Wholes.{specified_free}

pub inside_is : (p : Option Parameters) (name : Name) (s : Scope)
    → inside_with p name s ≡ record (enter_with (block_in p) s) { function = Some name }
inside_is None name s = refl
inside_is (Some p) name s = refl

-- of a declarator the parameters and the scope alone are taken, beside its name and type
pub named_inside : (storage : Option StorageClass) (n : Option (ℕ × Name)) (t : NamedType) (x : Formed) (faults : List Fault)
    → function_named storage n t (record (formed_with x.inside) { after = x.after }) faults
    ≡ function_named storage n t x faults
named_inside storage None t x faults = refl
named_inside storage (Some n) None x faults = refl
named_inside storage (Some n) (Some (Err r)) x faults = refl
named_inside storage (Some n) (Some (Ok t)) x faults = refl

pub from_free : (x : Said) (s t : Scope) (f : Formed) → function_from (said_in x s) f ≡ function_from (said_in x t) f
from_free x s t f =
    ap (λ (u : Option CType). function_named x.storage f.name (formed_type f.after.tables (derived_from f.derivations u)) f
    (x.faults ++ f.faults)) (specified_free x s t)
