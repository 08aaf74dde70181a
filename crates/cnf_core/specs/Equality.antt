-- Equality of literals is an equivalence.
use Rattle.std.proofs.Common.{◌≡◌, Bool, true, false, eqb, refl, sym, ap, ◌∙◌, inl, inr}
use Rattle.std.specs.Cmp.{IsPartialEquivalence, IsEquivalence}
use Rattle.std.proofs.lemmas.Bool.{eqb-true, eq-eqb, and_parts, false_from_ne_true, cases_Bool}
use mathlib.Core.Bool.{beq}
use Rattle.cnf_core.specs.Literal.{Literal, same}

beq-self : (b : Bool) → beq b b ≡ true
beq-self true = refl
beq-self false = refl

beq-true : (a b : Bool) → beq a b ≡ true → a ≡ b
beq-true true true e = refl
beq-true true false e = cc
beq-true false true e = cc
beq-true false false e = refl

pub same-self : (l : Literal) → same l l ≡ true
same-self l = rw (eq-eqb l.variable l.variable refl) (beq-self l.positive)

pub same-true : (l k : Literal) → same l k ≡ true → l ≡ k
same-true l k e =
    let p = and_parts (eqb l.variable k.variable) (beq l.positive k.positive) e in
    let v = eqb-true l.variable k.variable p.0 in
    let s = beq-true l.positive k.positive p.1 in
    λ i. record { variable = v i; positive = s i }

same-sym : (l k : Literal) → same l k ≡ same k l
same-sym l k =
    elim (cases_Bool (same l k)) [
      | inl t ↦ let e : l ≡ k = same-true l k t in t ∙ sym (ap (λ x. same k x) e ∙ same-self k)
      | inr f ↦ f ∙ sym (false_from_ne_true (same k l) (λ t. let e : k ≡ l = same-true k l t in let u : same l k ≡ true = ap (λ x. same l x) e ∙ same-self l in cc))
    ]

pub same-equivalence : IsEquivalence same
same-equivalence = record {
  refl = same-self;
  symm = same-sym;
  congr = λ l k m e. ap (λ x. same x m) (same-true l k e);
}

pub same-partial_equivalence : IsPartialEquivalence same
same-partial_equivalence = record {
  symm = same-sym;
  trans = λ l k m e f. ap (λ x. same x m) (same-true l k e) ∙ f;
}
