-- Why a type or a constant has no answer (C99 6.6, 6.7.2 to 6.7.6).
use Rattle.std.specs.Prelude.{◌≡◌, List, [], ◌∷◌, ◌++◌, Option, Some, None, Result, Ok, Err}
use Rattle.c_language.specs.declared.ctype.CType.{CType}
use Rattle.c_language.specs.declared.scope.Fault.{Fault}
use Rattle.c_language.specs.declared.scope.LayoutRule.{LayoutRule}
use Rattle.c_language.specs.declared.scope.LayoutRule.TheVariants as layout
use Rattle.c_language.specs.declared.scope.Rule.{Rule}
use Rattle.c_language.specs.declared.scope.Rule.TheVariants as rule
use Rattle.c_language.specs.Typing.{NamedType}
use Rattle.c_language.specs.Declares.{TypeSaid, faults_in}
use Rattle.c_types.specs.declared.faults.TypeFault.{TypeFault}
use Rattle.c_types.specs.declared.faults.TypeFault.TheVariants as fault

-- the first rule on sizes or constants that is broken
abbrev pub first_cause : List Fault → Option LayoutRule
first_cause [] = None
first_cause (f ∷ fs) = elim f.rule as (λ _. Option LayoutRule) [ rule.Layout r ↦ Some r | _ ↦ first_cause fs ]

-- a type, or why there is none: no cause is given where neither it nor a part breaks a rule on sizes or constants
abbrev pub named_as : Option LayoutRule → NamedType → Result CType (Option LayoutRule)
named_as (Some r) t = Err (Some r)
named_as None (Some (Ok t)) = Ok t
named_as None (Some (Err r)) = Err None
named_as None None = Err None

-- the type that a type name names
abbrev pub layout_of : TypeSaid → Result CType (Option LayoutRule)
layout_of x = named_as (first_cause (x.faults ++ faults_in 0 x.type)) x.type

abbrev pub with_cause : {A : Type 0} → Result A LayoutRule → Result A (Option LayoutRule)
with_cause (Ok x) = Ok x
with_cause (Err r) = Err (Some r)

abbrev pub fault_of : Option LayoutRule → TypeFault
fault_of (Some layout.Incomplete) = fault.Incomplete
fault_of (Some layout.ObjectTooLarge) = fault.ObjectTooLarge
fault_of (Some layout.NotConstant) = fault.NotConstant
fault_of None = fault.Unknown

abbrev pub answered : {A : Type 0} → Result A (Option LayoutRule) → Result A TypeFault
answered (Ok x) = Ok x
answered (Err cause) = Err (fault_of cause)

-- the answer is this one, or there is no memory
abbrev pub OrMemory : {A : Type 0} → Result A TypeFault → Result A TypeFault → Type 0
OrMemory (Ok x) r = r ≡ Ok x
OrMemory (Err fault.Memory) r = Unit {0}
OrMemory (Err fault.Incomplete) r = r ≡ Err fault.Incomplete
OrMemory (Err fault.ObjectTooLarge) r = r ≡ Err fault.ObjectTooLarge
OrMemory (Err fault.NotConstant) r = r ≡ Err fault.NotConstant
OrMemory (Err fault.Unknown) r = r ≡ Err fault.Unknown

-- the answer came, and the scope behind it is this one
abbrev pub Behind : {A B : Type 0} → Result A TypeFault → B → B → Type 0
Behind (Ok x) s t = s ≡ t
Behind (Err fault.Incomplete) s t = s ≡ t
Behind (Err fault.ObjectTooLarge) s t = s ≡ t
Behind (Err fault.NotConstant) s t = s ≡ t
Behind (Err fault.Unknown) s t = s ≡ t
Behind (Err fault.Memory) s t = Unit {0}
