-- The heights and names of declarators that are made.
use Rattle.std.proofs.Common.{
  ◌≡◌,
  ℕ,
  List,
  [],
  ◌∷◌,
  ◌++◌,
  Option,
  Some,
  None,
  Bool,
  true,
  false,
  sym,
  ap,
  ◌∙◌,
  arith,
  ◌+◌,
}
use Rattle.std.specs.Prelude.{max, map, option_map}
use Rattle.c_language.specs.declared.expr.Qualifier.{Qualifier}
use Rattle.c_language.specs.declared.expr.ArrayWord.{ArrayWord}
use Rattle.c_language.specs.declared.expr.Expr.{Expr}
use Rattle.c_language.specs.declared.expr.Parameter.{Parameter}
use Rattle.c_language.specs.declared.expr.Specifier.{Specifier}
use Rattle.c_language.specs.declared.expr.Declarator.{Declarator}
use Rattle.c_language.specs.declared.expr.Declarator.TheVariants as declarator
use Rattle.c_grammar.specs.Parts.{Name}
use Rattle.c_grammar.specs.Grammar.{shape, form, height_of, highest, highest_specifier, specifier_of, parameter_of}
use Rattle.c_grammar.proofs.Equations.{
  form-Name,
  form-Omitted,
  form-Grouped,
  form-Pointer,
  form-Array,
  form-Function,
  parameter-is,
}

pub height_name : (at : ℕ) (name : Name) → 1 ≡ (form (declarator.Name at name)).height
height_name at name = sym (ap (λ w. w.height) (form-Name at name))

pub name_name : (at : ℕ) (name : Name) → Some name ≡ (form (declarator.Name at name)).name
name_name at name = sym (ap (λ w. w.name) (form-Name at name))

pub derived_name : (at : ℕ) (name : Name) → false ≡ (form (declarator.Name at name)).derived
derived_name at name = sym (ap (λ w. w.derived) (form-Name at name))

pub height_omitted : 1 ≡ (form declarator.Omitted).height
height_omitted = sym (ap (λ w. w.height) form-Omitted)

pub name_omitted : None ≡ (form declarator.Omitted).name
name_omitted = sym (ap (λ w. w.name) form-Omitted)

pub derived_omitted : false ≡ (form declarator.Omitted).derived
derived_omitted = sym (ap (λ w. w.derived) form-Omitted)

pub height_grouped : (at : ℕ) (inner : Declarator) (h0 h : ℕ) → h0 ≡ (form inner).height → h ≡ h0 →
    h + 1 ≡ (form (declarator.Grouped at inner)).height
height_grouped at inner h0 h e0 g =
    let s = ap (λ w. w.height) (form-Grouped at inner) in
    omega (arith, s)

pub name_grouped : (at : ℕ) (inner : Declarator) (n : Option Name) → n ≡ (form inner).name →
    n ≡ (form (declarator.Grouped at inner)).name
name_grouped at inner n e = e ∙ sym (ap (λ w. w.name) (form-Grouped at inner))

pub derived_grouped : (at : ℕ) (inner : Declarator) (b : Bool) → b ≡ (form inner).derived →
    b ≡ (form (declarator.Grouped at inner)).derived
derived_grouped at inner b e = e ∙ sym (ap (λ w. w.derived) (form-Grouped at inner))

pub height_pointer : (at : ℕ) (qualifiers : List Qualifier) (inner : Declarator) (h0 h : ℕ) →
    h0 ≡ (form inner).height → h ≡ h0 → h + 1 ≡ (form (declarator.Pointer at qualifiers inner)).height
height_pointer at qualifiers inner h0 h e0 g =
    let s = ap (λ w. w.height) (form-Pointer at qualifiers inner) in
    omega (arith, s)

pub name_pointer : (at : ℕ) (qualifiers : List Qualifier) (inner : Declarator) (n : Option Name) →
    n ≡ (form inner).name → n ≡ (form (declarator.Pointer at qualifiers inner)).name
name_pointer at qualifiers inner n e = e ∙ sym (ap (λ w. w.name) (form-Pointer at qualifiers inner))

pub derived_pointer : (at : ℕ) (qualifiers : List Qualifier) (inner : Declarator) →
    true ≡ (form (declarator.Pointer at qualifiers inner)).derived
derived_pointer at qualifiers inner = sym (ap (λ w. w.derived) (form-Pointer at qualifiers inner))

pub height_array : (at : ℕ) (inner : Declarator) (words : List ArrayWord) (length' : Option Expr) (h0 h1 h : ℕ)
    → h0 ≡ (form inner).height → h1 ≡ height_of (option_map shape length') → h ≡ (max h0 h1) →
    h + 1 ≡ (form (declarator.Array at inner words length')).height
height_array at inner words length' h0 h1 h e0 e1 g =
    let s = ap (λ w. w.height) (form-Array at inner words length') in
    omega (arith, s)

pub name_array : (at : ℕ) (inner : Declarator) (words : List ArrayWord) (length' : Option Expr)
    (n : Option Name) → n ≡ (form inner).name → n ≡ (form (declarator.Array at inner words length')).name
name_array at inner words length' n e = e ∙ sym (ap (λ w. w.name) (form-Array at inner words length'))

pub derived_array : (at : ℕ) (inner : Declarator) (words : List ArrayWord) (length' : Option Expr) →
    true ≡ (form (declarator.Array at inner words length')).derived
derived_array at inner words length' = sym (ap (λ w. w.derived) (form-Array at inner words length'))

pub height_function : (at : ℕ) (inner : Declarator) (parameters : List Parameter) (variadic : Bool)
    (h0 h1 h : ℕ) → h0 ≡ (form inner).height → h1 ≡ highest (map parameter_of parameters) → h ≡ (max h0 h1) →
    h + 1 ≡ (form (declarator.Function at inner parameters variadic)).height
height_function at inner parameters variadic h0 h1 h e0 e1 g =
    let s = ap (λ w. w.height) (form-Function at inner parameters variadic) in
    omega (arith, s)

pub name_function : (at : ℕ) (inner : Declarator) (parameters : List Parameter) (variadic : Bool)
    (n : Option Name) → n ≡ (form inner).name → n ≡ (form (declarator.Function at inner parameters variadic)).name
name_function at inner parameters variadic n e = e ∙ sym
    (ap (λ w. w.name) (form-Function at inner parameters variadic))

pub derived_function : (at : ℕ) (inner : Declarator) (parameters : List Parameter) (variadic : Bool) →
    true ≡ (form (declarator.Function at inner parameters variadic)).derived
derived_function at inner parameters variadic = sym (ap (λ w. w.derived) (form-Function at inner parameters variadic))

pub height_parameter : (specifiers : List Specifier) (declarator : Declarator) (h0 h1 h : ℕ) →
    h0 ≡ highest_specifier (map specifier_of specifiers) → h1 ≡ (form declarator).height → h ≡ max h0 h1 →
    h ≡ (parameter_of (record { specifiers = specifiers; declarator = declarator })).height
height_parameter specifiers declarator h0 h1 h e0 e1 g =
    let s = ap (λ w. w.height) (parameter-is (record { specifiers = specifiers; declarator = declarator })) in
    omega (arith, s)

highest_more : (xs : List Parameter) (x : Parameter) →
    highest (map parameter_of (xs ++ x ∷ [])) ≡ max (highest (map parameter_of xs)) (parameter_of x).height
highest_more [] x = omega arith
highest_more (y ∷ ys) x =
    let m = highest_more ys x in
    omega (arith, m)

pub height_parameters : (xs : List Parameter) (x : Parameter) (h0 h1 h : ℕ) →
    h0 ≡ highest (map parameter_of xs) → h1 ≡ (parameter_of x).height → h ≡ max h0 h1 →
    h ≡ highest (map parameter_of (xs ++ x ∷ []))
height_parameters xs x h0 h1 h e0 e1 g =
    let m = highest_more xs x in
    omega (arith, m)

-- what is said of each declarator that is made
pub ruleset of_name = (height_name, name_name, derived_name)

pub ruleset of_omitted = (height_omitted, name_omitted, derived_omitted)

pub ruleset of_grouped = (height_grouped, name_grouped, derived_grouped)

pub ruleset of_pointer = (height_pointer, name_pointer, derived_pointer)

pub ruleset of_array = (height_array, name_array, derived_array)

pub ruleset of_function = (height_function, name_function, derived_function)
