-- The first cause among broken rules.
use Rattle.std.proofs.Common.{◌≡◌, List, [], ◌∷◌, ◌++◌, Option, Some, None, refl, ap, ◌∙◌}
use Rattle.c_language.specs.declared.scope.Fault.{Fault}
use Rattle.c_language.specs.declared.scope.LayoutRule.{LayoutRule}
use Rattle.c_language.specs.declared.scope.LayoutRule.TheVariants as layout
use Rattle.c_language.specs.declared.scope.Rule.{Rule}
use Rattle.c_language.specs.declared.scope.Rule.TheVariants as rule
use Rattle.c_language.specs.Typing.{fault_at, cause_in}
use Rattle.c_types.specs.Causes.{first_cause}

abbrev or_not_constant : Option LayoutRule → LayoutRule
or_not_constant None = layout.NotConstant
or_not_constant (Some r) = r

by_rule : (r : Rule) (a : LayoutRule) (b : Option LayoutRule) → a ≡ or_not_constant b
    → (elim r as (λ _. LayoutRule) [ rule.Layout q ↦ q | _ ↦ a ])
    ≡ or_not_constant (elim r as (λ _. Option LayoutRule) [ rule.Layout q ↦ Some q | _ ↦ b ])
by_rule rule.Undeclared a b h = h
by_rule rule.TypeMismatch a b h = h
by_rule rule.NotModifiable a b h = h
by_rule rule.FloatUsed a b h = h
by_rule rule.IndirectCall a b h = h
by_rule rule.StructByValue a b h = h
by_rule rule.BitField a b h = h
by_rule (rule.Layout q) a b h = refl
by_rule rule.DuplicateDefinition a b h = h

cause_is : (fs : List Fault) → cause_in fs ≡ or_not_constant (first_cause fs)
cause_is [] = refl
cause_is (f ∷ fs) = by_rule f.rule (cause_in fs) (first_cause fs) (cause_is fs)

pub cause_found : (fs : List Fault) (r : LayoutRule) → first_cause fs ≡ Some r → cause_in fs ≡ r
cause_found fs r e = cause_is fs ∙ ap or_not_constant e

pub cause_missing : (fs : List Fault) → first_cause fs ≡ None → cause_in fs ≡ layout.NotConstant
cause_missing fs e = cause_is fs ∙ ap or_not_constant e

abbrev pick : Rule → Option LayoutRule → Option LayoutRule
pick r b = elim r as (λ _. Option LayoutRule) [ rule.Layout q ↦ Some q | _ ↦ b ]

first_by : (r : Rule) (b c : Option LayoutRule) (q : LayoutRule) → (b ≡ Some q → c ≡ Some q)
    → pick r b ≡ Some q → pick r c ≡ Some q
first_by rule.Undeclared b c q f e = f e
first_by rule.TypeMismatch b c q f e = f e
first_by rule.NotModifiable b c q f e = f e
first_by rule.FloatUsed b c q f e = f e
first_by rule.IndirectCall b c q f e = f e
first_by rule.StructByValue b c q f e = f e
first_by rule.BitField b c q f e = f e
first_by rule.DuplicateDefinition b c q f e = f e
first_by (rule.Layout p) b c q f e = e

then_by : (r : Rule) (b c d : Option LayoutRule) → (b ≡ None → c ≡ d) → pick r b ≡ None → pick r c ≡ d
then_by rule.Undeclared b c d f e = f e
then_by rule.TypeMismatch b c d f e = f e
then_by rule.NotModifiable b c d f e = f e
then_by rule.FloatUsed b c d f e = f e
then_by rule.IndirectCall b c d f e = f e
then_by rule.StructByValue b c d f e = f e
then_by rule.BitField b c d f e = f e
then_by rule.DuplicateDefinition b c d f e = f e
then_by (rule.Layout p) b c d f e = cc

-- what stands behind the rules that are broken counts where none of them is a cause
pub cause_first : (fs gs : List Fault) (r : LayoutRule) → first_cause fs ≡ Some r → first_cause (fs ++ gs) ≡ Some r
cause_first [] gs r e = cc
cause_first (f ∷ fs) gs r e = first_by f.rule (first_cause fs) (first_cause (fs ++ gs)) r (λ h. cause_first fs gs r h) e

pub cause_then : (fs gs : List Fault) → first_cause fs ≡ None → first_cause (fs ++ gs) ≡ first_cause gs
cause_then [] gs e = refl
cause_then (f ∷ fs) gs e = then_by f.rule (first_cause fs) (first_cause (fs ++ gs)) (first_cause gs) (λ h. cause_then fs gs h) e

pub first_found : (f : Fault) (fs : List Fault) (r : LayoutRule) → first_cause (fault_at 0 f.rule) ≡ Some r
    → first_cause (f ∷ fs) ≡ Some r
first_found f fs r e = first_by f.rule None (first_cause fs) r (λ h. cc) e

pub first_next : (f : Fault) (fs : List Fault) → first_cause (fault_at 0 f.rule) ≡ None
    → first_cause (f ∷ fs) ≡ first_cause fs
first_next f fs e = then_by f.rule None (first_cause fs) (first_cause fs) (λ h. refl) e
