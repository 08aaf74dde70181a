-- The heights of enumerators and members that are made.
use Rattle.std.proofs.Common.{◌≡◌, ℕ, List, [], ◌∷◌, ◌++◌, Option, sym, ap, ◌∙◌, arith}
use Rattle.std.specs.Prelude.{max, map, option_map}
use Rattle.c_language.specs.declared.expr.Expr.{Expr}
use Rattle.c_language.specs.declared.expr.Declarator.{Declarator}
use Rattle.c_language.specs.declared.expr.Enumerator.{Enumerator}
use Rattle.c_language.specs.declared.expr.Field.{Field}
use Rattle.c_language.specs.declared.expr.Field.TheVariants as field
use Rattle.c_language.specs.declared.expr.Specifier.{Specifier}
use Rattle.c_language.specs.declared.expr.MemberDeclaration.{MemberDeclaration}
use Rattle.c_grammar.specs.Grammar.{
  shape,
  form,
  height_of,
  form_height,
  enumerator_of,
  field_of,
  member_of,
  specifier_of,
  highest,
  highest_specifier,
}
use Rattle.c_grammar.proofs.Equations.{enumerator-is, field-Plain, field-Bits, member-is}

pub height_enumerator : (at : ℕ) (name : List ℕ) (value : Option Expr) (h : ℕ) →
    h ≡ height_of (option_map shape value) → h ≡ (enumerator_of
    (record { at = at; name = name; value = value })).height
height_enumerator at name value h e = e ∙ sym (ap (λ w. w.height)
    (enumerator-is (record { at = at; name = name; value = value })))

pub height_plain : (declarator : Declarator) (h : ℕ) → h ≡ (form declarator).height →
    h ≡ (field_of (field.Plain declarator)).height
height_plain declarator h e = e ∙ sym (ap (λ w. w.height) (field-Plain declarator))

pub height_bits : (at : ℕ) (declarator : Option Declarator) (width : Expr) (h0 h1 h : ℕ) →
    h0 ≡ form_height (option_map form declarator) → h1 ≡ (shape width).height → h ≡ max h0 h1 →
    h ≡ (field_of (field.Bits at declarator width)).height
height_bits at declarator width h0 h1 h e0 e1 g =
    let s = ap (λ w. w.height) (field-Bits at declarator width) in
    omega (arith, s)

highest_more : (xs : List Field) (x : Field) → highest (map field_of (xs ++ x ∷ [])) ≡ max
    (highest (map field_of xs)) (field_of x).height
highest_more [] x = omega arith
highest_more (y ∷ ys) x =
    let m = highest_more ys x in
    omega (arith, m)

pub height_fields : (xs : List Field) (x : Field) (h0 h1 h : ℕ) → h0 ≡ highest (map field_of xs) →
    h1 ≡ (field_of x).height → h ≡ max h0 h1 → h ≡ highest (map field_of (xs ++ x ∷ []))
height_fields xs x h0 h1 h e0 e1 g =
    let m = highest_more xs x in
    omega (arith, m)

pub height_member : (specifiers : List Specifier) (fields : List Field) (h0 h1 h : ℕ) →
    h0 ≡ highest_specifier (map specifier_of specifiers) → h1 ≡ highest (map field_of fields) → h ≡ max h0 h1 →
    h ≡ (member_of (record { specifiers = specifiers; fields = fields })).height
height_member specifiers fields h0 h1 h e0 e1 g =
    let s = ap (λ w. w.height) (member-is (record { specifiers = specifiers; fields = fields })) in
    omega (arith, s)

higher_members : (xs : List MemberDeclaration) (x : MemberDeclaration) →
    highest (map member_of (xs ++ x ∷ [])) ≡ max (highest (map member_of xs)) (member_of x).height
higher_members [] x = omega arith
higher_members (y ∷ ys) x =
    let m = higher_members ys x in
    omega (arith, m)

pub height_members : (xs : List MemberDeclaration) (x : MemberDeclaration) (h0 h1 h : ℕ) →
    h0 ≡ highest (map member_of xs) → h1 ≡ (member_of x).height → h ≡ max h0 h1 →
    h ≡ highest (map member_of (xs ++ x ∷ []))
height_members xs x h0 h1 h e0 e1 g =
    let m = higher_members xs x in
    omega (arith, m)
