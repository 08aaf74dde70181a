-- The declarators that are read are derived.
use Rattle.std.proofs.Common.{
  ◌≡◌,
  ◌≤◌,
  ℕ,
  zero,
  suc,
  List,
  [],
  ◌∷◌,
  ◌++◌,
  length,
  Option,
  Some,
  None,
  Bool,
  true,
  false,
  refl,
  sym,
  ap,
  ◌∙◌,
  subst,
  arith,
  rules,
  inl,
  inr,
}
use Rattle.std.specs.Prelude.{map, option_map, not, ◌&&◌, ◌||◌, nat_le}
use Rattle.std.proofs.lemmas.Option.{same_Some}
use Rattle.c_language.specs.declared.token.Token.{Token}
use Rattle.c_language.specs.declared.token.TokenKind.{TokenKind}
use Rattle.c_language.specs.declared.token.TokenKind.TheVariants as kind
use Rattle.c_language.specs.declared.token.Keyword.{Keyword}
use Rattle.c_language.specs.declared.token.Punctuator.TheVariants as mark
use Rattle.c_language.specs.declared.expr.Qualifier.{Qualifier}
use Rattle.c_language.specs.declared.expr.ArrayWord.{ArrayWord}
use Rattle.c_language.specs.declared.expr.Expr.{Expr}
use Rattle.c_language.specs.declared.expr.Parameter.{Parameter}
use Rattle.c_language.specs.declared.expr.Declarator.{Declarator, fold_out-Declarator}
use Rattle.c_language.specs.declared.expr.Declarator.TheVariants as declarator
use Rattle.c_language.specs.declared.expr.Declarator.TheOpen as open_
use Rattle.c_grammar.specs.declared.declarator_place.DeclaratorPlace.{DeclaratorPlace}
use Rattle.c_grammar.specs.declared.declarator_place.DeclaratorPlace.TheVariants as place
use Rattle.c_grammar.specs.Spelling.{qualifier_keyword, array_word_keyword}
use Rattle.c_grammar.specs.Operators.{array_word_of}
use Rattle.c_grammar.specs.Parts.{Name, Part, holds, opens, entered, Scope, State, Takes, Spans, specifies_in}
use Rattle.c_language.specs.Folds.{DeclaratorLayer, fold_declarator}
use Rattle.c_grammar.specs.Grammar.{
  Form,
  Shape,
  Piece,
  Specified,
  Said,
  formed,
  spelled,
  field_piece,
  specified,
  enumerator_piece,
  member_piece,
  parameter_piece,
  type_name_piece,
  shape,
  form,
  parameter_of,
  takes_mark,
  takes_mark_at,
  later,
  listed,
  highest,
  specification,
  all_specified,
  height_of,
  may_omit,
  qualifier_parts,
  array_word_parts,
  length_parts,
  variadic_parts,
  parameter_parts,
  group_parts,
  closing_parts,
  declaring,
  fits_place,
  DerivesDeclarator,
}
use Rattle.c_grammar.specs.Reading.{
  Rules,
  take_by,
  a_mark,
  expect,
  begins,
  begins_by,
  holds_some,
  specification_at,
  a_qualifier,
  an_array_word,
  run_at,
  pointer_at,
  length_at,
  array_at,
  with_name,
  parameter_at,
  more_parameters_at,
  parameters_at,
  closed_at,
  function_at,
  suffixed,
  suffix_by,
  suffix_in,
  suffixes_at,
  grouped_declarator_at,
  begins_parameters,
  omitted_at,
  named_declarator_at,
  direct_by,
  direct_in,
  suffixed_at,
  declarator_by,
}
use Rattle.c_grammar.proofs.Spans.{
  join,
  bind_some,
  chosen,
  guarded,
  both,
  nat_le_true,
  first_taken,
  take_at,
  expects,
  expects_at,
  run_takes,
}
use Rattle.c_grammar.proofs.IsSound.{IsSound, specification_takes}
use Rattle.c_grammar.proofs.SoundSpecifier.{qualifier_is}
use Rattle.c_grammar.proofs.Equations.{
  form-Name,
  form-Omitted,
  form-Grouped,
  form-Pointer,
  form-Array,
  form-Function,
  parameter-is,
}

-- ---- words

qualifier_spelled : (k : TokenKind) (q : Qualifier) → a_qualifier k ≡ Some q → k ≡ kind.Keyword (qualifier_keyword q)
qualifier_spelled (kind.Keyword k) q h = ap (λ l. kind.Keyword l) (qualifier_is k q h)
qualifier_spelled _ q h = cc

array_word_is : (k : Keyword) (w : ArrayWord) → array_word_of k ≡ Some w → k ≡ array_word_keyword w
array_word_is k w h = grind rules

array_word_spelled : (k : TokenKind) (w : ArrayWord) → an_array_word k ≡ Some w → k ≡ kind.Keyword
    (array_word_keyword w)
array_word_spelled (kind.Keyword k) w h = ap (λ l. kind.Keyword l) (array_word_is k w h)
array_word_spelled _ w h = cc

-- ---- where a name may be omitted

neither : (a b : Bool) → (a || b) ≡ false → (a ≡ false) × (b ≡ false)
neither true b h = cc
neither false b h = (refl, h)

not_both : (a b : Bool) → (a && b) ≡ false → a ≡ true → b ≡ false
not_both true b h e = h
not_both false b h e = cc

omits : (where_ : DeclaratorPlace) (s : State) (x : Declarator × State) → may_omit where_ ≡ true →
    Some (declarator.Omitted, s) ≡ Some x → omitted_at where_ s ≡ Some x
omits where_ s x e h = rw e h

-- the place asks for a name alone
fits_by_name : (where_ : DeclaratorPlace) (a b : Form) → a.name ≡ b.name → fits_place where_ b ≡ true →
    fits_place where_ a ≡ true
fits_by_name place.Declaration a b e h =
    ap (λ (n : Option Name). elim n as (λ _. Bool) [ None ↦ false | Some name ↦ true ]) e ∙ h
fits_by_name place.Member a b e h =
    ap (λ (n : Option Name). elim n as (λ _. Bool) [ None ↦ false | Some name ↦ true ]) e ∙ h
fits_by_name place.Parameter a b e h = refl
fits_by_name place.TypeName a b e h =
    ap (λ (n : Option Name). not (elim n as (λ _. Bool) [ None ↦ false | Some name ↦ true ])) e ∙ h

-- a declarator without a name is no part at all, and stands only where a name may be omitted
record IsOmitted (f : Form) : Type 0 where
  parts : (where_ : DeclaratorPlace) → f.parts where_ ≡ []
  may : (where_ : DeclaratorPlace) → fits_place where_ f ≡ true → may_omit where_ ≡ true

omitted_place : (where_ : DeclaratorPlace) → fits_place where_ (formed open_.Omitted) ≡ true → may_omit where_ ≡ true
omitted_place place.Declaration h = cc
omitted_place place.Member h = cc
omitted_place place.Parameter h = refl
omitted_place place.TypeName h = refl

omitted_layer : (y : DeclaratorLayer Said) → (formed y).omitted ≡ true → IsOmitted (formed y)
omitted_layer open_.Omitted h = record { parts = λ where_. refl; may = omitted_place }
omitted_layer (open_.Name at name) h = cc
omitted_layer (open_.Grouped at inner) h = cc
omitted_layer (open_.Pointer at qualifiers target) h = cc
omitted_layer (open_.Array at element words length') h = cc
omitted_layer (open_.Function at result parameters variadic) h = cc

form_is : (d : Declarator) → (y : DeclaratorLayer Said) × (form d ≡ formed y)
unfolding form fold_declarator
form_is d = (
  _,
  fold_out-Declarator Form Shape Piece Specified Piece Piece Piece Piece
      formed spelled field_piece specified enumerator_piece member_piece parameter_piece type_name_piece d,
)

omitted_is : (d : Declarator) → (form d).omitted ≡ true → IsOmitted (form d)
omitted_is d h =
    let y = form_is d in
    subst (λ (f : Form). IsOmitted f) (sym y.1) (omitted_layer y.0 (ap (λ (f : Form). f.omitted) (sym y.1) ∙ h))

omitted_fits : (where_ : DeclaratorPlace) → may_omit where_ ≡ true → fits_place where_ (formed open_.Omitted) ≡ true
omitted_fits place.Declaration h = cc
omitted_fits place.Member h = cc
omitted_fits place.Parameter h = refl
omitted_fits place.TypeName h = refl

-- what is expected comes next
taken_begins : {A : Type 0} (wanted : TokenKind → Option A) (tokens : List Token) (scope : Scope)
    (x : A × ℕ × State) → take_by wanted tokens scope ≡ Some x → begins_by wanted tokens ≡ true
taken_begins wanted [] scope x h = cc
taken_begins wanted (t ∷ rest) scope x h = let a = bind_some (wanted t.kind) _ _ h in ap holds_some a.1

group_spans : (where_ : DeclaratorPlace) (ps : List Part) (s z : State) → (may_omit where_ ≡ true → specifies_in false
    s.0 s.1 ≡ false) → Spans ps s z → Spans (group_parts where_ ++ ps) s z
group_spans place.Declaration ps s z n x = x
group_spans place.Member ps s z n x = x
group_spans place.Parameter ps s z n x = (n refl, x)
group_spans place.TypeName ps s z n x = (n refl, x)

closing_spans : (where_ : DeclaratorPlace) (derived : Bool) (ps : List Part) (s z : State) →
    Spans ps (s.0, closed_at where_ derived s.1) z → Spans (closing_parts where_ derived ∷ ps) s z
closing_spans place.Declaration false ps s z x = x
closing_spans place.Declaration true ps s z x = x
closing_spans place.Member derived ps s z x = x
closing_spans place.Parameter derived ps s z x = x
closing_spans place.TypeName derived ps s z x = x

declaring_spans : (name : Option Name) (is_type : Bool) (s : State) → Spans (declaring name is_type) s
    (with_name name is_type s)
declaring_spans None is_type s = refl
declaring_spans (Some name) is_type s = refl

-- a declarator that suffixes may follow
record Suffixable (limit : ℕ) (where_ : DeclaratorPlace) (s : State) (d : Declarator) (z : State) : Type 0 where
  derives : DerivesDeclarator limit where_ s d z
  fits : (form d).rank ≤ 1

-- a declarator with a suffix, of any height
record Grown (where_ : DeclaratorPlace) (s : State) (d : Declarator) (z : State) : Type 0 where
  spans : Spans ((form d).parts where_) s z
  named : fits_place where_ (form d) ≡ true
  fits : (form d).rank ≤ 1

module _ (below : ℕ) (r : Rules) (sound : IsSound below r) where
  pointer_takes : (where_ : DeclaratorPlace) (s z : State) (d : Declarator) → pointer_at r where_ s ≡ Some (d, z) →
      DerivesDeclarator (suc below) where_ s d z
  unfolding pointer_at
  pointer_takes where_ s z d h =
      let a = bind_some (expect mark.Star s) _ _ h in
      let b = bind_some (run_at a_qualifier (suc (length a.0.2.0)) a.0.2) _ _ a.2 in
      let c = bind_some (r.declarator where_ b.0.1) _ _ b.2 in
      let q = run_takes a_qualifier (λ q. kind.Keyword (qualifier_keyword q)) qualifier_parts
      (record { is = qualifier_spelled; none = refl; more = λ q more. refl }) (suc (length a.0.2.0)) a.0.2 b.0.1
      b.0.0 b.1 in
      let t = sound.declarator where_ b.0.1 c.0.1 c.0.0 c.1 in
      let target = (form c.0.0).parts where_ in
      let y = expects_at mark.Star (qualifier_parts b.0.0 ++ target) s c.0.1 a.0 a.1 (join (qualifier_parts b.0.0)
      target a.0.2 b.0.1 c.0.1 q t.spans) in
      subst (λ (p : Declarator × State). DerivesDeclarator (suc below) where_ s p.0 p.1)
      (same_Some (declarator.Pointer a.0.1 b.0.0 c.0.0, c.0.1) (d, z) c.2)
      (record {
        spans = rw form-Pointer y;
        named =
            fits_by_name where_ (form (declarator.Pointer a.0.1 b.0.0 c.0.0)) (form c.0.0) (rw form-Pointer refl)
            t.named;
        low = rw form-Pointer (omega (arith, t.low));
      })

  length_takes : (s z : State) (e : Option Expr) → length_at r s ≡ Some (e, z) →
      Spans (length_parts (option_map shape e)) s z × (height_of (option_map shape e) ≤ below)
  unfolding length_at
  length_takes s z e h =
      let P = λ (p : Option Expr × State). Spans (length_parts (option_map shape p.0)) s p.1 ×
      (height_of (option_map shape p.0) ≤ below) in
      elim (chosen (begins mark.RightBracket s) _ _ _ h) [
        | inl p ↦ subst P (same_Some (None, s) (e, z) p.1) (refl, omega arith)
        | inr p ↦
            let a = bind_some (r.expr 15 s) _ _ p.1 in
            let d = sound.expr 15 s a.0.1 a.0.0 a.1 in
            subst P (same_Some (Some a.0.0, a.0.1) (e, z) a.2) ((d.fits, d.spans), d.low)
      ]

  array_takes : (where_ : DeclaratorPlace) (s mid m z : State) (element d : Declarator) (at : ℕ) →
      Suffixable (suc below) where_ s element mid → Takes at (kind.Punctuator mark.LeftBracket) mid.0 m.0 →
      mid.1 ≡ m.1 → array_at r at element m ≡ Some (d, z) → Grown where_ s d z
  unfolding array_at
  array_takes where_ s mid m z element d at x i j h =
      let a = bind_some (run_at an_array_word (suc (length m.0)) m) _ _ h in
      let b = bind_some (length_at r a.0.1) _ _ a.2 in
      let c = bind_some (expect mark.RightBracket b.0.1) _ _ b.2 in
      let w = run_takes an_array_word (λ w. kind.Keyword (array_word_keyword w)) array_word_parts
      (record { is = array_word_spelled; none = refl; more = λ w more. refl }) (suc (length m.0)) m a.0.1 a.0.0
      a.1 in
      let l = length_takes a.0.1 b.0.1 b.0.0 b.1 in
      let bound = length_parts (option_map shape b.0.0) in
      let end = takes_mark mark.RightBracket ∷ [] in
      let inner = array_word_parts a.0.0 ++ (bound ++ end) in
      let y = join bound end a.0.1 b.0.1 c.0.2 l.0 (expects mark.RightBracket [] b.0.1 c.0.2 c.0 c.1 refl) in
      let y' = join (array_word_parts a.0.0) (bound ++ end) m a.0.1 c.0.2 w y in
      let all = join ((form element).parts where_) (takes_mark_at at mark.LeftBracket ∷ inner) s mid c.0.2
      x.derives.spans (take_at at (kind.Punctuator mark.LeftBracket) inner mid m c.0.2 i j y') in
      subst (λ (p : Declarator × State). Grown where_ s p.0 p.1) (same_Some (
        declarator.Array at element a.0.0 b.0.0,
        c.0.2,
      ) (d, z) c.2)
      (record {
        spans = rw form-Array (x.fits, all);
        named =
            fits_by_name where_ (form (declarator.Array at element a.0.0 b.0.0)) (form element) (rw form-Array refl)
            x.derives.named;
        fits = rw form-Array (omega arith);
      })

  -- ---- parameters

  parameter_takes : (s z : State) (p : Parameter) → parameter_at r s ≡ Some (p, z) → Spans (parameter_of p).parts s
      z × ((parameter_of p).height ≤ below)
  unfolding parameter_at
  parameter_takes s z p h =
      let a = bind_some (specification_at r s) _ _ h in
      let b = bind_some (r.declarator place.Parameter a.0.1) _ _ a.2 in
      let x = specification_takes below r sound s a.0.1 a.0.0 a.1 in
      let d = sound.declarator place.Parameter a.0.1 b.0.1 b.0.0 b.1 in
      let q : Parameter = record { specifiers = a.0.0; declarator = b.0.0 } in
      let m = with_name (form b.0.0).name false b.0.1 in
      let name = declaring (form b.0.0).name false in
      let parts = (form b.0.0).parts place.Parameter in
      let y = join parts name a.0.1 b.0.1 m d.spans (declaring_spans (form b.0.0).name false b.0.1) in
      let w = join (specification (all_specified a.0.0)) (parts ++ name) s a.0.1 m x.0 y in
      subst (λ (y : Parameter × State). Spans (parameter_of y.0).parts s y.1 × ((parameter_of y.0).height ≤ below))
      (same_Some (q, m) (p, z) b.2) (rw parameter-is (w, omega (arith, x.1, d.low)))

  -- the parameters behind the first, and `...` behind the last or nothing
  record Later (xs : List Parameter) (variadic : Bool) (s z : State) : Type 0 where
    mid : State
    spans : Spans (later (map parameter_of xs)) s mid
    ends : Spans (variadic_parts variadic) mid z
    is_low : highest (map parameter_of xs) ≤ below

  more_parameters_take : (n : ℕ) (s z : State) (x : List Parameter × Bool) → more_parameters_at r n s ≡ Some (x, z) →
      Later x.0 x.1 s z
  unfolding more_parameters_at
  more_parameters_take zero s z x h = cc
  more_parameters_take (suc n) s z x h =
      let P = λ (p : (List Parameter × Bool) × State). Later p.0.0 p.0.1 s p.1 in
      elim (chosen (begins mark.Comma s) _ _ _ h) [
        | inl p ↦
            let a = bind_some (expect mark.Comma s) _ _ p.1 in
            elim (chosen (begins mark.Ellipsis a.0.2) _ _ _ a.2) [
              | inl q ↦
                  let b = bind_some (expect mark.Ellipsis a.0.2) _ _ q.1 in
                  let y = expects mark.Comma (takes_mark mark.Ellipsis ∷ []) s b.0.2 a.0 a.1 (expects mark.Ellipsis []
                  a.0.2 b.0.2 b.0 b.1 refl) in
                  subst P (same_Some (([], true), b.0.2) (x, z) b.2) (record {
                    mid = s;
                    spans = refl;
                    ends = y;
                    is_low = omega arith;
                  })
              | inr q ↦
                  let b = bind_some (parameter_at r a.0.2) _ _ q.1 in
                  let c = bind_some (more_parameters_at r n b.0.1) _ _ b.2 in
                  let d = parameter_takes a.0.2 b.0.1 b.0.0 b.1 in
                  let m = more_parameters_take n b.0.1 c.0.1 c.0.0 c.1 in
                  let list = later (map parameter_of c.0.0.0) in
                  let y = expects mark.Comma ((parameter_of b.0.0).parts ++ list) s m.mid a.0 a.1
                  (join (parameter_of b.0.0).parts list a.0.2 b.0.1 m.mid d.0 m.spans) in
                  let found : (List Parameter × Bool) × State = ((b.0.0 ∷ c.0.0.0, c.0.0.1), c.0.1) in
                  subst P {x = found} (same_Some found (x, z) c.2) (record {
                    mid = m.mid;
                    spans = y;
                    ends = m.ends;
                    is_low = omega (arith, d.1, m.is_low);
                  })
            ]
        | inr p ↦ subst P (same_Some (([], false), s) (x, z) p.1) (record {
          mid = s;
          spans = refl;
          ends = refl;
          is_low = omega arith;
        })
      ]

  parameters_take : (s z : State) (x : List Parameter × Bool) → parameters_at r s ≡ Some (x, z) →
      Spans (parameter_parts (map parameter_of x.0) x.1) s z × (highest (map parameter_of x.0) ≤ below)
  unfolding parameters_at
  parameters_take s z x h =
      let P = λ (p : (List Parameter × Bool) × State). Spans (parameter_parts (map parameter_of p.0.0) p.0.1) s p.1 ×
      (highest (map parameter_of p.0.0) ≤ below) in
      elim (chosen (begins mark.RightParen s) _ _ _ h) [
        | inl p ↦ subst P (same_Some (([], false), s) (x, z) p.1) ((refl, refl), omega arith)
        | inr p ↦
            let b = bind_some (parameter_at r s) _ _ p.1 in
            let c = bind_some (more_parameters_at r (suc (length b.0.1.0)) b.0.1) _ _ b.2 in
            let d = parameter_takes s b.0.1 b.0.0 b.1 in
            let m = more_parameters_take (suc (length b.0.1.0)) b.0.1 c.0.1 c.0.0 c.1 in
            let list = listed (map parameter_of (b.0.0 ∷ c.0.0.0)) in
            let l = join (parameter_of b.0.0).parts (later (map parameter_of c.0.0.0)) s b.0.1 m.mid d.0 m.spans in
            let found : (List Parameter × Bool) × State = ((b.0.0 ∷ c.0.0.0, c.0.0.1), c.0.1) in
            subst P {x = found} (same_Some found (x, z) c.2) (
              join list (variadic_parts c.0.0.1) s m.mid c.0.1 l
                  m.ends,
              omega (arith, d.1, m.is_low),
            )
      ]

  function_takes : (where_ : DeclaratorPlace) (s mid m z : State) (result d : Declarator) (at : ℕ) →
      Suffixable (suc below) where_ s result mid → Takes at (kind.Punctuator mark.LeftParen) mid.0 m.0 → mid.1 ≡ m.1 →
      function_at r where_ at result m ≡ Some (d, z) → Grown where_ s d z
  unfolding function_at
  function_takes where_ s mid m z result d at x i j h =
      let inside : State = (m.0, entered m.1) in
      let a = bind_some (parameters_at r inside) _ _ h in
      let outside : State = (a.0.1.0, closed_at where_ (form result).derived a.0.1.1) in
      let b = bind_some (expect mark.RightParen outside) _ _ a.2 in
      let l = parameters_take inside a.0.1 a.0.0 a.1 in
      let parameters = parameter_parts (map parameter_of a.0.0.0) a.0.0.1 in
      let end = closing_parts where_ (form result).derived ∷ takes_mark mark.RightParen ∷ [] in
      let inner = opens ∷ (parameters ++ end) in
      let y = join parameters end inside a.0.1 b.0.2 l.0 (closing_spans where_ (form result).derived
      (takes_mark mark.RightParen ∷ []) a.0.1 b.0.2 (expects mark.RightParen [] outside b.0.2 b.0 b.1 refl)) in
      let all = join ((form result).parts where_) (takes_mark_at at mark.LeftParen ∷ inner) s mid b.0.2
      x.derives.spans (take_at at (kind.Punctuator mark.LeftParen) inner mid m b.0.2 i j y) in
      subst (λ (p : Declarator × State). Grown where_ s p.0 p.1) (same_Some (
        declarator.Function at result a.0.0.0
            a.0.0.1,
        b.0.2,
      ) (d, z) b.2)
      (record {
        spans = rw form-Function (x.fits, all);
        named =
            fits_by_name where_ (form (declarator.Function at result a.0.0.0 a.0.0.1)) (form result)
            (rw form-Function refl) x.derives.named;
        fits = rw form-Function (omega arith);
      })

  -- ---- suffixes

  suffix_takes_by : (where_ : DeclaratorPlace) (s mid m z : State) (d d' : Declarator) (at : ℕ) (k : TokenKind) →
      Suffixable (suc below) where_ s d mid → Takes at k mid.0 m.0 → mid.1 ≡ m.1 → suffix_by r where_ d k at m ≡ Some
      (d', z) → Grown where_ s d' z
  suffix_takes_by where_ s mid m z d d' at (kind.Punctuator mark.LeftBracket) x i j h =
      array_takes where_ s mid m z d d' at x i j h
  suffix_takes_by where_ s mid m z d d' at (kind.Punctuator mark.LeftParen) x i j h =
      function_takes where_ s mid m z d d' at x i j h
  suffix_takes_by where_ s mid m z d d' at _ x i j h = cc

  suffix_takes : (where_ : DeclaratorPlace) (s z : State) (d d' : Declarator) (tokens : List Token) (scope : Scope) →
      Suffixable (suc below) where_ s d (tokens, scope) → suffix_in r where_ d tokens scope ≡ Some (d', z) →
      Grown where_ s d' z
  suffix_takes where_ s z d d' [] scope x h = cc
  suffix_takes where_ s z d d' (t ∷ rest) scope x h =
      suffix_takes_by where_ s (t ∷ rest, scope) (rest, scope) z d d' t.start t.kind x (first_taken t rest) refl h

  suffixes_take : (where_ : DeclaratorPlace) (n : ℕ) (s m z : State) (d d' : Declarator) → Suffixable (suc below)
      where_ s d m → suffixes_at r (suc below) where_ n d m ≡ Some (d', z) → DerivesDeclarator (suc below) where_ s d'
      z
  unfolding suffixes_at
  suffixes_take where_ zero s m z d d' x h = cc
  suffixes_take where_ (suc n) s m z d d' x h =
      elim (chosen (suffixed m.0) _ _ _ h) [
        | inl p ↦
            let a = bind_some (suffix_in r where_ d m.0 m.1) _ _ p.1 in
            let q = guarded (nat_le (form a.0.0).height (suc below)) _ _ a.2 in
            let g = suffix_takes where_ s a.0.1 d a.0.0 m.0 m.1 x a.1 in
            suffixes_take where_ n s a.0.1 z a.0.0 d' (record {
              derives = record { spans = g.spans; named = g.named; low = nat_le_true _ _ q.0 };
              fits = g.fits;
            }) q.1
        | inr p ↦ subst (λ (p : Declarator × State). DerivesDeclarator (suc below) where_ s p.0 p.1)
            (same_Some (d, m) (d', z) p.1) x.derives
      ]

  -- ---- what stands before the suffixes

  omitted_takes : (where_ : DeclaratorPlace) (s z : State) (d : Declarator) → omitted_at where_ s ≡ Some (d, z) →
      Suffixable (suc below) where_ s d z
  omitted_takes where_ s z d h =
      let g = guarded (may_omit where_) _ _ h in
      subst (λ (p : Declarator × State). Suffixable (suc below) where_ s p.0 p.1) (same_Some (declarator.Omitted, s)
      (d, z) g.1)
      (record {
        derives = record {
          spans = rw form-Omitted refl;
          named = rw form-Omitted (omitted_fits where_ g.0);
          low =
              rw form-Omitted (omega arith);
        };
        fits = rw form-Omitted (omega arith);
      })

  name_takes : (where_ : DeclaratorPlace) (s m : State) (at : ℕ) (name : Name) → fits_place where_
      (formed (open_.Name at name)) ≡ true → Takes at (kind.Identifier name) s.0 m.0 → s.1 ≡ m.1 →
      Suffixable (suc below) where_ s (declarator.Name at name) m
  name_takes where_ s m at name named i j = record {
    derives = record {
      spans = rw form-Name (take_at at (kind.Identifier name) [] s m m i j refl);
      named =
          rw form-Name named;
      low = rw form-Name (omega arith);
    };
    fits = rw form-Name (omega arith);
  }

  named_takes : (where_ : DeclaratorPlace) (s m z : State) (d : Declarator) (at : ℕ) (name : Name) →
      Takes at (kind.Identifier name) s.0 m.0 → s.1 ≡ m.1 → named_declarator_at where_ at name m s ≡ Some (d, z) →
      Suffixable (suc below) where_ s d z
  named_takes place.Declaration s m z d at name i j h =
      subst (λ (p : Declarator × State). Suffixable (suc below) place.Declaration s p.0 p.1)
      (same_Some (declarator.Name at name, m) (d, z) h) (name_takes place.Declaration s m at name refl i j)
  named_takes place.Member s m z d at name i j h =
      subst (λ (p : Declarator × State). Suffixable (suc below) place.Member s p.0 p.1)
      (same_Some (declarator.Name at name, m) (d, z) h) (name_takes place.Member s m at name refl i j)
  named_takes place.Parameter s m z d at name i j h =
      subst (λ (p : Declarator × State). Suffixable (suc below) place.Parameter s p.0 p.1)
      (same_Some (declarator.Name at name, m) (d, z) h) (name_takes place.Parameter s m at name refl i j)
  named_takes place.TypeName s m z d at name i j h = omitted_takes place.TypeName s z d h

  -- what parentheses hold is not omitted: behind `(` no `)` stands where a name may be omitted
  is_there : (where_ : DeclaratorPlace) (s z : State) (d : Declarator) (x : Unit {0} × ℕ × State) (o : Bool) →
      (form d).omitted ≡ o → DerivesDeclarator below where_ s d z → (may_omit where_ ≡ true → begins mark.RightParen
      s ≡ false) → expect mark.RightParen z ≡ Some x → not (form d).omitted ≡ true
  is_there where_ s z d x false e y n h = ap not e
  is_there where_ s z d x true e y n h =
      let o = omitted_is d e in
      let same : s ≡ z = subst (λ (ps : List Part). Spans ps s z) (o.parts where_) y.spans in
      let b = taken_begins (a_mark mark.RightParen) z.0 z.1 x h in
      let c = n (o.may where_ y.named) in
      let c' = ap (λ (p : State). begins mark.RightParen p) (sym same) ∙ c in
      cc

  grouped_takes : (where_ : DeclaratorPlace) (s m z : State) (d : Declarator) (at : ℕ) →
      Takes at (kind.Punctuator mark.LeftParen) s.0 m.0 → s.1 ≡ m.1 → (may_omit where_ && begins_parameters m) ≡
      false → grouped_declarator_at r where_ at m ≡ Some (d, z) → Suffixable (suc below) where_ s d z
  unfolding grouped_declarator_at
  grouped_takes where_ s m z d at i j n h =
      let a = bind_some (r.declarator where_ m) _ _ h in
      let b = bind_some (expect mark.RightParen a.0.1) _ _ a.2 in
      let y = sound.declarator where_ m a.0.1 a.0.0 a.1 in
      let free : may_omit where_ ≡ true → (begins mark.RightParen m ≡ false) × (specifies_in false m.0 m.1 ≡ false) =
      λ may. neither _ _ (not_both (may_omit where_) (begins_parameters m) n may) in
      let there = is_there where_ m a.0.1 a.0.0 b.0 (form a.0.0).omitted refl y (λ may. (free may).0) b.1 in
      let inner = (form a.0.0).parts where_ in
      let end = takes_mark mark.RightParen ∷ [] in
      let w = join inner end m a.0.1 b.0.2 y.spans (expects mark.RightParen [] a.0.1 b.0.2 b.0 b.1 refl) in
      let rest = holds (not (form a.0.0).omitted) ∷ (inner ++ end) in
      let v = group_spans where_ rest m b.0.2 (λ may. (free may).1) (there, w) in
      let all = take_at at (kind.Punctuator mark.LeftParen) (group_parts where_ ++ rest) s m b.0.2 i j v in
      subst (λ (p : Declarator × State). Suffixable (suc below) where_ s p.0 p.1)
      (same_Some (declarator.Grouped at a.0.0, b.0.2) (d, z) b.2)
      (record {
        derives = record {
          spans = rw form-Grouped all;
          named = fits_by_name where_ (form (declarator.Grouped at a.0.0)) (form a.0.0) (rw form-Grouped refl) y.named;
          low = rw form-Grouped (omega (arith, y.low));
        };
        fits = rw form-Grouped (omega arith);
      })

  parenthesis_takes : (where_ : DeclaratorPlace) (s m z : State) (d : Declarator) (at : ℕ) →
      Takes at (kind.Punctuator mark.LeftParen) s.0 m.0 → s.1 ≡ m.1 → direct_by r where_
      (kind.Punctuator mark.LeftParen) at m s ≡ Some (d, z) → Suffixable (suc below) where_ s d z
  parenthesis_takes where_ s m z d at i j h =
      elim (chosen (may_omit where_ && begins_parameters m) _ _ _ h) [
        | inl p ↦ omitted_takes where_ s z d (omits where_ s (d, z) (both (may_omit where_) (begins_parameters m)
            p.0).0 p.1)
        | inr p ↦ grouped_takes where_ s m z d at i j p.0 p.1
      ]

  direct_takes_by : (where_ : DeclaratorPlace) (s m z : State) (d : Declarator) (at : ℕ) (k : TokenKind) →
      Takes at k s.0 m.0 → s.1 ≡ m.1 → direct_by r where_ k at m s ≡ Some (d, z) → Suffixable (suc below) where_ s d z
  direct_takes_by where_ s m z d at (kind.Identifier name) i j h = named_takes where_ s m z d at name i j h
  direct_takes_by where_ s m z d at (kind.Punctuator mark.LeftParen) i j h = parenthesis_takes where_ s m z d at i j h
  direct_takes_by where_ s m z d at _ i j h = omitted_takes where_ s z d h

  direct_takes : (where_ : DeclaratorPlace) (tokens : List Token) (scope : Scope) (z : State) (d : Declarator) →
      direct_in r where_ tokens scope ≡ Some (d, z) → Suffixable (suc below) where_ (tokens, scope) d z
  direct_takes where_ [] scope z d h = omitted_takes where_ ([], scope) z d h
  direct_takes where_ (t ∷ rest) scope z d h =
      direct_takes_by where_ (t ∷ rest, scope) (rest, scope) z d t.start t.kind (first_taken t rest) refl h

  suffixed_takes : (where_ : DeclaratorPlace) (s z : State) (d : Declarator) → suffixed_at r (suc below) where_ s ≡
      Some (d, z) → DerivesDeclarator (suc below) where_ s d z
  unfolding suffixed_at
  suffixed_takes where_ s z d h =
      let a = bind_some (direct_in r where_ s.0 s.1) _ _ h in
      suffixes_take where_ (suc (length a.0.1.0)) s a.0.1 z a.0.0 d (direct_takes where_ s.0 s.1 a.0.1 a.0.0 a.1) a.2

  pub declarator_takes : (where_ : DeclaratorPlace) (s z : State) (d : Declarator) → declarator_by r (suc below)
      where_ s ≡ Some (d, z) → DerivesDeclarator (suc below) where_ s d z
  unfolding declarator_by
  declarator_takes where_ s z d h =
      elim (chosen (begins mark.Star s) _ _ _ h) [
        | inl p ↦ pointer_takes where_ s z d p.1
        | inr p ↦ suffixed_takes where_ s z d p.1
      ]
