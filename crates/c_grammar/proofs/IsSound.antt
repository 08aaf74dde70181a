-- What it means that a reading is sound; specifiers that name one type, and type names.
use Rattle.std.proofs.Common.{
  ◌≡◌,
  ◌≤◌,
  ℕ,
  zero,
  suc,
  List,
  [],
  ◌∷◌,
  ◌++◌,
  length,
  Some,
  Bool,
  true,
  false,
  refl,
  sym,
  ap,
  ◌∙◌,
  subst,
  arith,
  inl,
  inr,
}
use Rattle.std.specs.Prelude.{map, ◌||◌, not}
use Rattle.std.proofs.lemmas.Option.{same_Some}
use Rattle.c_language.specs.declared.expr.Expr.{Expr}
use Rattle.c_language.specs.declared.expr.TypeName.{TypeName}
use Rattle.c_language.specs.declared.expr.Specifier.{Specifier}
use Rattle.c_language.specs.declared.expr.Declarator.{Declarator}
use Rattle.c_language.specs.declared.token.Punctuator.TheVariants as mark
use Rattle.c_grammar.specs.declared.declarator_place.DeclaratorPlace.{DeclaratorPlace}
use Rattle.c_grammar.specs.declared.declarator_place.DeclaratorPlace.TheVariants as place
use Rattle.c_grammar.specs.TypeWords.{are_allowed, is_type}
use Rattle.c_grammar.specs.Parts.{Part, holds, State, Spans, specifies_in}
use Rattle.c_grammar.specs.Grammar.{
  form,
  specifier_of,
  type_name_of,
  specifiers_from,
  specification,
  highest_specifier,
  all_specified,
  takes_mark,
  takes_mark_at,
  is_named,
  Derives,
  DerivesSpecifier,
  DerivesDeclarator,
}
use Rattle.c_grammar.specs.Reading.{
  Rules,
  expect,
  kind_of,
  specifiers_at,
  specification_at,
  type_name_at,
  parenthesized_type_at,
}
use Rattle.c_grammar.proofs.Spans.{join, bind_some, chosen, guarded, expects, expects_at}
use Rattle.c_grammar.proofs.Equations.{type-name-is}

-- what is read by these rules is derived, with at most this height
pub record IsSound (limit : ℕ) (r : Rules) : Type 0 where
  pub expr : (rank : ℕ) (s z : State) (e : Expr) → r.expr rank s ≡ Some (e, z) → Derives limit rank s e z
  pub specifier : (typed : Bool) (s z : State) (x : Specifier) → specifies_in typed s.0 s.1 ≡ true → r.specifier s ≡
      Some (x, z) → DerivesSpecifier limit typed s x z
  pub declarator : (where_ : DeclaratorPlace) (s z : State) (d : Declarator) → r.declarator where_ s ≡ Some (d, z) →
      DerivesDeclarator limit where_ s d z

-- the kinds of the specifiers, by way of what the grammar says of them
kinds : (xs : List Specifier) → map kind_of xs ≡ map (λ x. x.kind) (all_specified xs)
kinds [] = refl
kinds (x ∷ xs) = ap (λ ks. kind_of x ∷ ks) (kinds xs)

module _ (limit : ℕ) (r : Rules) (sound : IsSound limit r) where
  specifiers_take : (n : ℕ) (typed : Bool) (s z : State) (xs : List Specifier) → specifiers_at r n typed s ≡ Some
      (xs, z) → Spans (specifiers_from typed (all_specified xs)) s z × (highest_specifier (all_specified xs) ≤ limit)
  unfolding specifiers_at
  specifiers_take zero typed s z xs h = cc
  specifiers_take (suc n) typed s z xs h =
      let P = λ (p : List Specifier × State). Spans (specifiers_from typed (all_specified p.0)) s p.1 ×
      (highest_specifier (all_specified p.0) ≤ limit) in
      elim (chosen (specifies_in typed s.0 s.1) _ _ _ h) [
        | inl p ↦
            let a = bind_some (r.specifier s) _ _ p.1 in
            let then_ = typed || is_type (kind_of a.0.0) in
            let b = bind_some (specifiers_at r n then_ a.0.1) _ _ a.2 in
            let d = sound.specifier typed s a.0.1 a.0.0 p.0 a.1 in
            let m = specifiers_take n then_ a.0.1 b.0.1 b.0.0 b.1 in
            subst P (same_Some (a.0.0 ∷ b.0.0, b.0.1) (xs, z) b.2) (
              join ((specifier_of a.0.0).parts typed) (specifiers_from then_ (all_specified b.0.0)) s a.0.1 b.0.1
                  d.spans m.0,
              omega (arith, d.low, m.1),
            )
        | inr p ↦ subst P (same_Some ([], s) (xs, z) p.1) (refl, omega arith)
      ]

  pub specification_takes : (s z : State) (xs : List Specifier) → specification_at r s ≡ Some (xs, z) →
      Spans (specification (all_specified xs)) s z × (highest_specifier (all_specified xs) ≤ limit)
  unfolding specification_at
  specification_takes s z xs h =
      let a = bind_some (specifiers_at r (suc (length s.0)) false s) _ _ h in
      let g = guarded (are_allowed (map kind_of a.0.0)) _ _ a.2 in
      let x = specifiers_take (suc (length s.0)) false s a.0.1 a.0.0 a.1 in
      let allowed = ap are_allowed (sym (kinds a.0.0)) ∙ g.0 in
      subst (λ (p : List Specifier × State). Spans (specification (all_specified p.0)) s p.1 ×
      (highest_specifier (all_specified p.0) ≤ limit)) (same_Some (a.0.0, a.0.1) (xs, z) g.1) (
        join (specifiers_from false (all_specified a.0.0))
            (holds (are_allowed (map (λ x. x.kind) (all_specified a.0.0))) ∷ []) s a.0.1 a.0.1 x.0 (allowed, refl),
        x.1,
      )

  pub type_name_takes : (s z : State) (t : TypeName) → type_name_at r s ≡ Some (t, z) → Spans (type_name_of t).parts s
      z × ((type_name_of t).height ≤ limit)
  unfolding type_name_at
  type_name_takes s z t h =
      let a = bind_some (specification_at r s) _ _ h in
      let b = bind_some (r.declarator place.TypeName a.0.1) _ _ a.2 in
      let x = specification_takes s a.0.1 a.0.0 a.1 in
      let d = sound.declarator place.TypeName a.0.1 b.0.1 b.0.0 b.1 in
      let q : TypeName = record { specifiers = a.0.0; declarator = b.0.0 } in
      let y = join (specification (all_specified a.0.0)) (holds (not (is_named (form b.0.0))) ∷ (form b.0.0).parts
      place.TypeName) s a.0.1 b.0.1 x.0 (d.named, d.spans) in
      subst (λ (p : TypeName × State). Spans (type_name_of p.0).parts s p.1 × ((type_name_of p.0).height ≤ limit))
      (same_Some (q, b.0.1) (t, z) b.2)
      (rw type-name-is (y, omega (arith, x.1, d.low)))

  -- a type name in parentheses, and what stands behind it
  pub type_in_parens : (ps : List Part) (s z : State) (x : (ℕ × TypeName) × State) → parenthesized_type_at r s ≡ Some
      x → Spans ps x.1 z → Spans (takes_mark_at x.0.0 mark.LeftParen ∷ ((type_name_of x.0.1).parts ++
      takes_mark mark.RightParen ∷ ps)) s z × ((type_name_of x.0.1).height ≤ limit)
  unfolding parenthesized_type_at
  type_in_parens ps s z x h y =
      let a = bind_some (expect mark.LeftParen s) _ _ h in
      let b = bind_some (type_name_at r a.0.2) _ _ a.2 in
      let c = bind_some (expect mark.RightParen b.0.1) _ _ b.2 in
      let e = same_Some ((a.0.1, b.0.0), c.0.2) x c.2 in
      let t = type_name_takes a.0.2 b.0.1 b.0.0 b.1 in
      let rest = takes_mark mark.RightParen ∷ ps in
      let y' = subst (λ (p : (ℕ × TypeName) × State). Spans ps p.1 z) (sym e) y in
      let w = join (type_name_of b.0.0).parts rest a.0.2 b.0.1 z t.0 (expects mark.RightParen ps b.0.1 z c.0 c.1 y') in
      subst (λ (p : (ℕ × TypeName) × State). Spans (takes_mark_at p.0.0 mark.LeftParen ∷
      ((type_name_of p.0.1).parts ++ takes_mark mark.RightParen ∷ ps)) s z × ((type_name_of p.0.1).height ≤
      limit)) e
      (expects_at mark.LeftParen ((type_name_of b.0.0).parts ++ rest) s z a.0 a.1 w, t.1)

pub specification_sound : (limit : ℕ) (r : Rules) → IsSound limit r → (s z : State) (xs : List Specifier) →
    specification_at r s ≡ Some (xs, z) → Spans (specification (all_specified xs)) s z ×
    (highest_specifier (all_specified xs) ≤ limit)
specification_sound limit r sound s z xs h = specification_takes limit r sound s z xs h
