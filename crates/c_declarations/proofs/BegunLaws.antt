-- A declarator with its initializer, from what is in force in front of the initializer.
use Rattle.std.proofs.Common.{◌≡◌, ℕ, true, false, List, [], Option, Some, None, Ok, Err, refl, sym, ap, ◌∙◌}
use Rattle.std.proofs.lemmas.List.{append-nil}
use Rattle.c_language.specs.declared.expr.StorageClass.{StorageClass}
use Rattle.c_language.specs.declared.scope.Fault.{Fault}
use Rattle.c_language.specs.declared.scope.Means.{Means}
use Rattle.c_language.specs.declared.scope.Means.TheVariants as means
use Rattle.c_language.specs.Scopes.{Name, Scope}
use Rattle.c_language.specs.Typing.{NamedType}
use Rattle.c_language.specs.Declarations.{Again, InitialSays, completed_by, declared_again, declared_formed, means_of}
use Rattle.c_language.specs.Declarations.{redeclared_as, declared_completely, declared_initialised}
use Rattle.c_declarations.specs.Beginnings.{begun, begun_again, plainly, filled_by}

plainly_again : (at : ℕ) (name : Name) (again : Again) (faults : List Fault) (s : Scope)
    → plainly (begun_again at name false again faults s) ≡ redeclared_as at name again None faults s
plainly_again at name None faults s = refl
plainly_again at name (Some m) faults s = refl

pub plainly_is : (storage : Option StorageClass) (n : Option (ℕ × Name)) (t : NamedType) (faults : List Fault)
    (s : Scope) → plainly (begun storage n t false faults s) ≡ declared_formed storage n t None faults s
plainly_is storage None t faults s = refl
plainly_is storage (Some n) None faults s = refl
plainly_is storage (Some n) (Some (Err r)) faults s = refl
plainly_is storage (Some n) (Some (Ok t)) faults s =
    plainly_again n.0 n.1 (declared_again s n.1 (means_of storage t s n.1)) _ s

filled_again : (at : ℕ) (name : Name) (again : Again) (f : InitialSays) (faults : List Fault) (s : Scope)
    → filled_by (begun_again at name true again faults s) f ≡ redeclared_as at name again (Some f) faults s
filled_again at name None f faults s = refl
filled_again at name (Some m) f faults s = refl

pub filled_is : (storage : Option StorageClass) (n : Option (ℕ × Name)) (t : NamedType) (f : InitialSays)
    (faults : List Fault) (s : Scope)
    → filled_by (begun storage n t true faults s) f ≡ declared_formed storage n t (Some f) faults s
filled_is storage None t f faults s = refl
filled_is storage (Some n) None f faults s = refl
filled_is storage (Some n) (Some (Err r)) f faults s = refl
filled_is storage (Some n) (Some (Ok t)) f faults s =
    filled_again n.0 n.1 (declared_again s n.1 (means_of storage t s n.1)) f _ s

-- without a length it means what it meant
completed_none : (m : Means) → completed_by None m ≡ m
completed_none (means.Object t d l) = refl
completed_none (means.Function t l) = refl
completed_none (means.Typedef t) = refl
completed_none (means.Constant z) = refl
completed_none means.Faulty = refl

-- an initializer that fills no object
pub unfilled_is : (at : ℕ) (name : Name) (m : Means) (faults : List Fault) (s : Scope)
    → declared_completely at name m faults s
    ≡ declared_initialised at name m faults (record { length = None; faults = []; after = s })
unfilled_is at name m faults s =
    ap (λ (k : Means). declared_completely at name k faults s) (sym (completed_none m))
    ∙ ap (λ (fs : List Fault). declared_completely at name (completed_by None m) fs s) (sym (append-nil faults))
