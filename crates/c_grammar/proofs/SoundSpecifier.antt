-- The specifiers that are read are derived.
use Rattle.std.proofs.Common.{
  ◌≡◌,
  ◌≤◌,
  ℕ,
  zero,
  suc,
  List,
  [],
  ◌∷◌,
  ◌++◌,
  length,
  Option,
  Some,
  None,
  Bool,
  true,
  false,
  refl,
  sym,
  ap,
  subst,
  arith,
  rules,
  inl,
  inr,
}
use Rattle.std.specs.Prelude.{map, option_map, not}
use Rattle.std.proofs.lemmas.Option.{same_Some}
use denote.Enum.Bare.{same_true, sameb}
use Rattle.c_language.specs.contracts.token.Keyword.{the_type as keyword_type}
use Rattle.c_language.specs.declared.token.Token.{Token}
use Rattle.c_language.specs.declared.token.TokenKind.{TokenKind}
use Rattle.c_language.specs.declared.token.TokenKind.TheVariants as kind
use Rattle.c_language.specs.declared.token.Keyword.{Keyword}
use Rattle.c_language.specs.declared.token.Keyword.TheVariants as keyword
use Rattle.c_language.specs.declared.token.Punctuator.TheVariants as mark
use Rattle.c_language.specs.declared.expr.AggregateKind.{AggregateKind}
use Rattle.c_language.specs.declared.expr.TagName.{TagName}
use Rattle.c_language.specs.declared.expr.StorageClass.{StorageClass}
use Rattle.c_language.specs.declared.expr.Qualifier.{Qualifier}
use Rattle.c_language.specs.declared.expr.TypeWord.{TypeWord}
use Rattle.c_language.specs.declared.expr.Expr.{Expr}
use Rattle.c_language.specs.declared.expr.Specifier.{Specifier}
use Rattle.c_language.specs.declared.expr.Specifier.TheVariants as specifier
use Rattle.c_language.specs.declared.expr.MemberDeclaration.{MemberDeclaration}
use Rattle.c_language.specs.declared.expr.Field.{Field}
use Rattle.c_language.specs.declared.expr.Field.TheVariants as field
use Rattle.c_language.specs.declared.expr.Enumerator.{Enumerator}
use Rattle.c_language.specs.declared.expr.Declarator.{Declarator}
use Rattle.c_grammar.specs.declared.declarator_place.DeclaratorPlace.TheVariants as place
use Rattle.c_grammar.specs.Spelling.{class_keyword, qualifier_keyword, word_keyword, aggregate_keyword}
use Rattle.c_grammar.specs.Operators.{
  aggregate_of,
  class_of,
  qualifier_of,
  type_word_of,
  type_specifier,
  qualified,
  stored,
  word_specifier,
}
use Rattle.c_grammar.specs.Parts.{
  Part,
  declares,
  declared,
  Scope,
  State,
  Takes,
  Spans,
  is_typedef,
  specifies_by,
  specifies_in,
}
use Rattle.c_grammar.specs.Grammar.{
  shape,
  form,
  specifier_of,
  field_of,
  enumerator_of,
  member_of,
  takes_mark,
  takes_mark_at,
  takes_keyword_at,
  joined,
  later,
  listed,
  highest,
  comma_if,
  of_rank,
  specification,
  all_specified,
  takes_tag,
  tag_parts,
  braced,
  value_parts,
  height_of,
  field_name_parts,
  form_height,
  fields_parts,
  DerivesSpecifier,
}
use Rattle.c_grammar.specs.Reading.{
  Rules,
  ◌>>=◌,
  expect,
  name_at,
  tag_at,
  begins,
  specification_at,
  value_at,
  enumerator_at,
  more_enumerators_at,
  enumeration_at,
  enum_at,
  bits_at,
  field_at,
  more_fields_at,
  fields_at,
  member_at,
  members_at,
  aggregate_at,
  tagged_at,
  keyword_specifier,
  specifier_by,
  specifier_in,
}
use Rattle.c_grammar.proofs.Spans.{
  join,
  bind_some,
  chosen,
  both,
  first_taken,
  taken_as,
  take_at,
  expects,
  expects_at,
  expects_name_at,
}
use Rattle.c_grammar.proofs.IsSound.{IsSound, specification_takes}
use Rattle.c_grammar.proofs.Equations.{
  specifier-Storage,
  specifier-Qualifier,
  specifier-Inline,
  specifier-Word,
  specifier-Typedef,
  specifier-Tag,
  specifier-Aggregate,
  specifier-EnumTag,
  specifier-Enumeration,
  field-Plain,
  field-Bits,
  enumerator-is,
  member-is,
}

-- ---- words

aggregate_is : (k : Keyword) (a : AggregateKind) → aggregate_of k ≡ Some a → k ≡ aggregate_keyword a
aggregate_is k a h = grind rules

class_is : (k : Keyword) (c : StorageClass) → class_of k ≡ Some c → k ≡ class_keyword c
class_is k c h = grind rules

pub qualifier_is : (k : Keyword) (q : Qualifier) → qualifier_of k ≡ Some q → k ≡ qualifier_keyword q
qualifier_is k q h = grind rules

type_word_is : (k : Keyword) (w : TypeWord) → type_word_of k ≡ Some w → k ≡ word_keyword w
type_word_is k w h = grind rules

-- a specifier that is one word
record OneWord (at : ℕ) (k : Keyword) (x : Specifier) : Type 0 where
  parts : (typed : Bool) → (specifier_of x).parts typed ≡ takes_keyword_at at k ∷ []
  height : (specifier_of x).height ≡ 1

one_word : (at : ℕ) (k k' : Keyword) (x : Specifier) → k ≡ k' → OneWord at k' x → OneWord at k x
one_word at k k' x e w = subst (λ (j : Keyword). OneWord at j x) (sym e) w

type_word_takes : (at : ℕ) (k : Keyword) (o : Option TypeWord) (x : Specifier) → type_word_of k ≡ o → type_specifier
    at o ≡ Some x → OneWord at k x
type_word_takes at k None x e h = cc
type_word_takes at k (Some w) x e h =
    subst (λ (y : Specifier). OneWord at k y) (same_Some (specifier.Word at w) x h)
    (one_word at k (word_keyword w) (specifier.Word at w) (type_word_is k w e) (record {
      parts = λ typed. rw specifier-Word refl;
      height = rw specifier-Word refl;
    }))

qualifier_takes : (at : ℕ) (k : Keyword) (o : Option Qualifier) (x : Specifier) → qualifier_of k ≡ o → qualified at o
    (type_specifier at (type_word_of k)) ≡ Some x → OneWord at k x
qualifier_takes at k None x e h = type_word_takes at k (type_word_of k) x refl h
qualifier_takes at k (Some q) x e h =
    subst (λ (y : Specifier). OneWord at k y) (same_Some (specifier.Qualifier at q) x h)
    (one_word at k (qualifier_keyword q) (specifier.Qualifier at q) (qualifier_is k q e) (record {
      parts = λ typed. rw specifier-Qualifier refl;
      height = rw specifier-Qualifier refl;
    }))

class_takes : (at : ℕ) (k : Keyword) (o : Option StorageClass) (x : Specifier) → class_of k ≡ o →
    stored at o (qualified at (qualifier_of k) (type_specifier at (type_word_of k))) ≡ Some x → OneWord at k x
class_takes at k None x e h = qualifier_takes at k (qualifier_of k) x refl h
class_takes at k (Some c) x e h =
    subst (λ (y : Specifier). OneWord at k y) (same_Some (specifier.Storage at c) x h)
    (one_word at k (class_keyword c) (specifier.Storage at c) (class_is k c e) (record {
      parts = λ typed. rw specifier-Storage refl;
      height = rw specifier-Storage refl;
    }))

word_takes : (at : ℕ) (k : Keyword) (x : Specifier) → word_specifier at k ≡ Some x → OneWord at k x
word_takes at k x h =
    elim (chosen (sameb keyword_type k keyword.Inline) _ _ _ h) [
      | inl p ↦
          subst (λ (y : Specifier). OneWord at k y) (same_Some (specifier.Inline at) x p.1)
          (one_word at k keyword.Inline (specifier.Inline at) (same_true keyword_type (search rules) k keyword.Inline
          p.0) (record {
            parts = λ typed. rw specifier-Inline refl;
            height = rw specifier-Inline refl;
          }))
      | inr p ↦ class_takes at k (class_of k) x refl p.1
    ]

module _ (below : ℕ) (r : Rules) (sound : IsSound below r) where
  -- ---- enumerations

  value_takes : (s z : State) (v : Option Expr) → value_at r s ≡ Some (v, z) →
      Spans (value_parts (option_map shape v)) s z × (height_of (option_map shape v) ≤ below)
  unfolding value_at
  value_takes s z v h =
      let P = λ (p : Option Expr × State). Spans (value_parts (option_map shape p.0)) s p.1 ×
      (height_of (option_map shape p.0) ≤ below) in
      elim (chosen (begins mark.Equal s) _ _ _ h) [
        | inl p ↦
            let a = bind_some (expect mark.Equal s) _ _ p.1 in
            let b = bind_some (r.expr 14 a.0.2) _ _ a.2 in
            let d = sound.expr 14 a.0.2 b.0.1 b.0.0 b.1 in
            subst P (same_Some (Some b.0.0, b.0.1) (v, z) b.2) (
              expects mark.Equal (of_rank 14 (shape b.0.0)) s b.0.1
                  a.0 a.1 (d.fits, d.spans),
              d.low,
            )
        | inr p ↦ subst P (same_Some (None, s) (v, z) p.1) (refl, omega arith)
      ]

  enumerator_takes : (s z : State) (x : Enumerator) → enumerator_at r s ≡ Some (x, z) → Spans (enumerator_of x).parts
      s z × ((enumerator_of x).height ≤ below)
  unfolding enumerator_at
  enumerator_takes s z x h =
      let a = bind_some (name_at s) _ _ h in
      let b = bind_some (value_at r a.0.2) _ _ a.2 in
      let v = value_takes a.0.2 b.0.1 b.0.0 b.1 in
      let q : Enumerator = record { at = a.0.1; name = a.0.0; value = b.0.0 } in
      let value = value_parts (option_map shape b.0.0) in
      let m : State = (b.0.1.0, declared a.0.0 false b.0.1.1) in
      let y = join value (declares a.0.0 false ∷ []) a.0.2 b.0.1 m v.0 refl in
      subst (λ (p : Enumerator × State). Spans (enumerator_of p.0).parts s p.1 × ((enumerator_of p.0).height ≤ below))
      (same_Some (q, m) (x, z) b.2)
      (rw enumerator-is (expects_name_at (value ++ declares a.0.0 false ∷ []) s m a.0 a.1 y, v.1))

  -- a list, and a mark behind it or none
  record Ended (list : List Part) (low : ℕ) (end : List Part) (s z : State) : Type 0 where
    mid : State
    spans : Spans list s mid
    ends : Spans end mid z
    is_low : low ≤ below

  more_enumerators_take : (n : ℕ) (s z : State) (x : List Enumerator × Bool) → more_enumerators_at r n s ≡ Some
      (x, z) → Ended (later (map enumerator_of x.0)) (highest (map enumerator_of x.0)) (comma_if x.1) s z
  unfolding more_enumerators_at
  more_enumerators_take zero s z x h = cc
  more_enumerators_take (suc n) s z x h =
      let P = λ (p : (List Enumerator × Bool) × State). Ended (later (map enumerator_of p.0.0))
      (highest (map enumerator_of p.0.0)) (comma_if p.0.1) s p.1 in
      elim (chosen (begins mark.Comma s) _ _ _ h) [
        | inl p ↦
            let a = bind_some (expect mark.Comma s) _ _ p.1 in
            elim (chosen (begins mark.RightBrace a.0.2) _ _ _ a.2) [
              | inl q ↦ subst P (same_Some (([], true), a.0.2) (x, z) q.1) (record {
                mid = s;
                spans = refl;
                ends = expects mark.Comma [] s a.0.2 a.0 a.1 refl;
                is_low = omega arith;
              })
              | inr q ↦
                  let b = bind_some (enumerator_at r a.0.2) _ _ q.1 in
                  let c = bind_some (more_enumerators_at r n b.0.1) _ _ b.2 in
                  let d = enumerator_takes a.0.2 b.0.1 b.0.0 b.1 in
                  let m = more_enumerators_take n b.0.1 c.0.1 c.0.0 c.1 in
                  let list = later (map enumerator_of c.0.0.0) in
                  let y = expects mark.Comma ((enumerator_of b.0.0).parts ++ list) s m.mid a.0 a.1
                  (join (enumerator_of b.0.0).parts list a.0.2 b.0.1 m.mid d.0 m.spans) in
                  let found : (List Enumerator × Bool) × State = ((b.0.0 ∷ c.0.0.0, c.0.0.1), c.0.1) in
                  subst P {x = found} (same_Some found (x, z) c.2) (record {
                    mid = m.mid;
                    spans = y;
                    ends = m.ends;
                    is_low = omega (arith, d.1, m.is_low);
                  })
            ]
        | inr p ↦ subst P (same_Some (([], false), s) (x, z) p.1) (record {
          mid = s;
          spans = refl;
          ends = refl;
          is_low = omega arith;
        })
      ]

  abbrev enumerators_parts : List Enumerator → Bool → List Part
  enumerators_parts xs trailing = listed (map enumerator_of xs) ++ comma_if trailing

  -- an enumeration from its tag to its end
  record Enumerates (at : ℕ) (tag : Option TagName) (s : State) (x : Specifier) (z : State) : Type 0 where
    xs : List Enumerator
    trailing : Bool
    is : specifier.Enumeration at tag xs trailing ≡ x
    spans : Spans (braced (enumerators_parts xs trailing)) s z
    is_low : highest (map enumerator_of xs) ≤ below

  enumeration_takes : (s z : State) (at : ℕ) (tag : Option TagName) (x : Specifier) → enumeration_at r at tag s ≡ Some
      (x, z) → Enumerates at tag s x z
  unfolding enumeration_at
  enumeration_takes s z at tag x h =
      let a = bind_some (expect mark.LeftBrace s) _ _ h in
      let b = bind_some (enumerator_at r a.0.2) _ _ a.2 in
      let c = bind_some (more_enumerators_at r (suc (length b.0.1.0)) b.0.1) _ _ b.2 in
      let e = bind_some (expect mark.RightBrace c.0.1) (λ end. Some (
        specifier.Enumeration at tag (b.0.0 ∷ c.0.0.0)
            c.0.0.1,
        end.2,
      )) (x, z) c.2 in
      let d = enumerator_takes a.0.2 b.0.1 b.0.0 b.1 in
      let m = more_enumerators_take (suc (length b.0.1.0)) b.0.1 c.0.1 c.0.0 c.1 in
      let xs = b.0.0 ∷ c.0.0.0 in
      let list = listed (map enumerator_of xs) in
      let l = join (enumerator_of b.0.0).parts (later (map enumerator_of c.0.0.0)) a.0.2 b.0.1 m.mid d.0 m.spans in
      let l' = join list (comma_if c.0.0.1) a.0.2 m.mid c.0.1 l m.ends in
      let y = join (enumerators_parts xs c.0.0.1) (takes_mark mark.RightBrace ∷ []) a.0.2 c.0.1 e.0.2 l'
      (expects mark.RightBrace [] c.0.1 e.0.2 e.0 e.1 refl) in
      let w = expects mark.LeftBrace (enumerators_parts xs c.0.0.1 ++ takes_mark mark.RightBrace ∷ []) s e.0.2 a.0 a.1
      y in
      let found : Specifier × State = (specifier.Enumeration at tag xs c.0.0.1, e.0.2) in
      subst (λ (p : Specifier × State). Enumerates at tag s p.0 p.1) {x = found} (same_Some found (x, z) e.2)
      (record { xs = xs; trailing = c.0.0.1; is = refl; spans = w; is_low = omega (arith, d.1, m.is_low) })

  tag_takes : (s z : State) (tag : TagName) → tag_at s ≡ Some (tag, z) → Spans (tag_parts (Some tag)) s z
  tag_takes s z tag h =
      let a = bind_some (name_at s) _ _ h in
      let found : TagName × State = (record { at = a.0.1; name = a.0.0 }, a.0.2) in
      subst (λ (p : TagName × State). Spans (tag_parts (Some p.0)) s p.1) {x = found} (same_Some found (tag, z) a.2)
      (expects_name_at [] s a.0.2 a.0 a.1 refl)

  enum_with : (typed : Bool) (s m m' z : State) (at : ℕ) (tag : Option TagName) (x : Specifier) →
      Takes at (kind.Keyword keyword.Enum) s.0 m.0 → s.1 ≡ m.1 → Spans (tag_parts tag) m m' → Enumerates at tag m' x
      z → DerivesSpecifier (suc below) typed s x z
  enum_with typed s m m' z at tag x i j t e =
      let body = braced (enumerators_parts e.xs e.trailing) in
      let y = take_at at (kind.Keyword keyword.Enum) (tag_parts tag ++ body) s m z i j (join (tag_parts tag) body m m'
      z t e.spans) in
      subst (λ (p : Specifier). DerivesSpecifier (suc below) typed s p z) e.is
      (record { spans = rw specifier-Enumeration y; low = rw specifier-Enumeration (omega (arith, e.is_low)) })

  enum_takes : (typed : Bool) (s m z : State) (at : ℕ) (x : Specifier) → Takes at (kind.Keyword keyword.Enum) s.0
      m.0 → s.1 ≡ m.1 → enum_at r at m ≡ Some (x, z) → DerivesSpecifier (suc below) typed s x z
  unfolding enum_at
  enum_takes typed s m z at x i j h =
      elim (chosen (begins mark.LeftBrace m) _ _ _ h) [
        | inl p ↦ enum_with typed s m m z at None x i j refl (enumeration_takes m z at None x p.1)
        | inr p ↦
            let a = bind_some (tag_at m) _ _ p.1 in
            let t = tag_takes m a.0.1 a.0.0 a.1 in
            elim (chosen (begins mark.LeftBrace a.0.1) _ _ _ a.2) [
              | inl q ↦ enum_with typed s m a.0.1 z at (Some a.0.0) x i j t (enumeration_takes a.0.1 z at (Some a.0.0)
                  x q.1)
              | inr q ↦
                  subst (λ (p : Specifier × State). DerivesSpecifier (suc below) typed s p.0 p.1)
                  (same_Some (specifier.EnumTag at a.0.0, a.0.1) (x, z) q.1)
                  (record {
                    spans =
                        rw specifier-EnumTag (take_at at (kind.Keyword keyword.Enum) (takes_tag a.0.0 ∷ []) s m a.0.1
                        i j t);
                    low = rw specifier-EnumTag (omega arith);
                  })
            ]
      ]

  -- ---- structures and unions

  -- a bit-field, where its name leads from s to m
  bits_takes : (s m z : State) (d : Option Declarator) (x : Field) → Spans (field_name_parts (option_map form d)) s
      m → form_height (option_map form d) ≤ below → bits_at r d m ≡ Some (x, z) → Spans (field_of x).parts s z ×
      ((field_of x).height ≤ below)
  unfolding bits_at
  bits_takes s m z d x y low h =
      let a = bind_some (expect mark.Colon m) _ _ h in
      let b = bind_some (r.expr 14 a.0.2) _ _ a.2 in
      let e = sound.expr 14 a.0.2 b.0.1 b.0.0 b.1 in
      let width = of_rank 14 (shape b.0.0) in
      let w = join (field_name_parts (option_map form d)) (takes_mark_at a.0.1 mark.Colon ∷ width) s m b.0.1 y
      (expects_at mark.Colon width m b.0.1 a.0 a.1 (e.fits, e.spans)) in
      subst (λ (p : Field × State). Spans (field_of p.0).parts s p.1 × ((field_of p.0).height ≤ below))
      (same_Some (field.Bits a.0.1 d b.0.0, b.0.1) (x, z) b.2)
      (rw field-Bits (w, omega (arith, low, e.low)))

  field_takes : (s z : State) (x : Field) → field_at r s ≡ Some (x, z) → Spans (field_of x).parts s z ×
      ((field_of x).height ≤ below)
  unfolding field_at
  field_takes s z x h =
      elim (chosen (begins mark.Colon s) _ _ _ h) [
        | inl p ↦ bits_takes s s z None x refl (omega arith) p.1
        | inr p ↦
            let a = bind_some (r.declarator place.Member s) _ _ p.1 in
            let d = sound.declarator place.Member s a.0.1 a.0.0 a.1 in
            elim (chosen (begins mark.Colon a.0.1) _ _ _ a.2) [
              | inl q ↦ bits_takes s a.0.1 z (Some a.0.0) x (d.named, d.spans) d.low q.1
              | inr q ↦
                  subst (λ (p : Field × State). Spans (field_of p.0).parts s p.1 × ((field_of p.0).height ≤ below))
                  (same_Some (field.Plain a.0.0, a.0.1) (x, z) q.1)
                  (rw field-Plain ((d.named, d.spans), d.low))
            ]
      ]

  more_fields_take : (n : ℕ) (s z : State) (xs : List Field) → more_fields_at r n s ≡ Some (xs, z) →
      Spans (later (map field_of xs)) s z × (highest (map field_of xs) ≤ below)
  unfolding more_fields_at
  more_fields_take zero s z xs h = cc
  more_fields_take (suc n) s z xs h =
      let P = λ (p : List Field × State). Spans (later (map field_of p.0)) s p.1 × (highest (map field_of p.0) ≤
      below) in
      elim (chosen (begins mark.Comma s) _ _ _ h) [
        | inl p ↦
            let a = bind_some (expect mark.Comma s) _ _ p.1 in
            let b = bind_some (field_at r a.0.2) _ _ a.2 in
            let c = bind_some (more_fields_at r n b.0.1) _ _ b.2 in
            let d = field_takes a.0.2 b.0.1 b.0.0 b.1 in
            let m = more_fields_take n b.0.1 c.0.1 c.0.0 c.1 in
            let list = later (map field_of c.0.0) in
            subst P (same_Some (b.0.0 ∷ c.0.0, c.0.1) (xs, z) c.2) (
              expects mark.Comma ((field_of b.0.0).parts ++ list) s c.0.1 a.0 a.1 (join (field_of b.0.0).parts list
                  a.0.2 b.0.1 c.0.1 d.0 m.0),
              omega (arith, d.1, m.1),
            )
        | inr p ↦ subst P (same_Some ([], s) (xs, z) p.1) (refl, omega arith)
      ]

  fields_take : (s z : State) (xs : List Field) → fields_at r s ≡ Some (xs, z) →
      Spans (fields_parts (map field_of xs)) s z × (highest (map field_of xs) ≤ below)
  unfolding fields_at
  fields_take s z xs h =
      let P = λ (p : List Field × State). Spans (fields_parts (map field_of p.0)) s p.1 ×
      (highest (map field_of p.0) ≤ below) in
      elim (chosen (begins mark.Semicolon s) _ _ _ h) [
        | inl p ↦ subst P (same_Some ([], s) (xs, z) p.1) (refl, omega arith)
        | inr p ↦
            let b = bind_some (field_at r s) _ _ p.1 in
            let c = bind_some (more_fields_at r (suc (length b.0.1.0)) b.0.1) _ _ b.2 in
            let d = field_takes s b.0.1 b.0.0 b.1 in
            let m = more_fields_take (suc (length b.0.1.0)) b.0.1 c.0.1 c.0.0 c.1 in
            subst P (same_Some (b.0.0 ∷ c.0.0, c.0.1) (xs, z) c.2) (
              join (field_of b.0.0).parts
                  (later (map field_of c.0.0)) s b.0.1 c.0.1 d.0 m.0,
              omega (arith, d.1, m.1),
            )
      ]

  member_takes : (s z : State) (x : MemberDeclaration) → member_at r s ≡ Some (x, z) → Spans (member_of x).parts s z ×
      ((member_of x).height ≤ below)
  unfolding member_at
  member_takes s z x h =
      let a = bind_some (specification_at r s) _ _ h in
      let b = bind_some (fields_at r a.0.1) _ _ a.2 in
      let c = bind_some (expect mark.Semicolon b.0.1) _ _ b.2 in
      let d = specification_takes below r sound s a.0.1 a.0.0 a.1 in
      let f = fields_take a.0.1 b.0.1 b.0.0 b.1 in
      let q : MemberDeclaration = record { specifiers = a.0.0; fields = b.0.0 } in
      let fields = fields_parts (map field_of b.0.0) in
      let end = takes_mark mark.Semicolon ∷ [] in
      let y = join fields end a.0.1 b.0.1 c.0.2 f.0 (expects mark.Semicolon [] b.0.1 c.0.2 c.0 c.1 refl) in
      let w = join (specification (all_specified a.0.0)) (fields ++ end) s a.0.1 c.0.2 d.0 y in
      subst (λ (p : MemberDeclaration × State). Spans (member_of p.0).parts s p.1 × ((member_of p.0).height ≤ below))
      (same_Some (q, c.0.2) (x, z) c.2)
      (rw member-is (w, omega (arith, d.1, f.1)))

  members_take : (n : ℕ) (s z : State) (xs : List MemberDeclaration) → members_at r n s ≡ Some (xs, z) →
      Spans (joined (map member_of xs)) s z × (highest (map member_of xs) ≤ below)
  unfolding members_at
  members_take zero s z xs h = cc
  members_take (suc n) s z xs h =
      let P = λ (p : List MemberDeclaration × State). Spans (joined (map member_of p.0)) s p.1 ×
      (highest (map member_of p.0) ≤ below) in
      elim (chosen (begins mark.RightBrace s) _ _ _ h) [
        | inl p ↦ subst P (same_Some ([], s) (xs, z) p.1) (refl, omega arith)
        | inr p ↦
            let b = bind_some (member_at r s) _ _ p.1 in
            let c = bind_some (members_at r n b.0.1) _ _ b.2 in
            let d = member_takes s b.0.1 b.0.0 b.1 in
            let m = members_take n b.0.1 c.0.1 c.0.0 c.1 in
            subst P (same_Some (b.0.0 ∷ c.0.0, c.0.1) (xs, z) c.2) (
              join (member_of b.0.0).parts
                  (joined (map member_of c.0.0)) s b.0.1 c.0.1 d.0 m.0,
              omega (arith, d.1, m.1),
            )
      ]

  -- a structure or union from its tag to its end
  record Aggregates (at : ℕ) (aggregate : AggregateKind) (tag : Option TagName) (s : State) (x : Specifier)
      (z : State) : Type 0 where
    xs : List MemberDeclaration
    is : specifier.Aggregate at aggregate tag xs ≡ x
    spans : Spans (braced (joined (map member_of xs))) s z
    is_low : highest (map member_of xs) ≤ below

  aggregate_takes : (s z : State) (at : ℕ) (aggregate : AggregateKind) (tag : Option TagName) (x : Specifier) →
      aggregate_at r at aggregate tag s ≡ Some (x, z) → Aggregates at aggregate tag s x z
  unfolding aggregate_at
  aggregate_takes s z at aggregate tag x h =
      let a = bind_some (expect mark.LeftBrace s) _ _ h in
      let b = bind_some (members_at r (suc (length a.0.2.0)) a.0.2) _ _ a.2 in
      let c = bind_some (expect mark.RightBrace b.0.1) _ _ b.2 in
      let m = members_take (suc (length a.0.2.0)) a.0.2 b.0.1 b.0.0 b.1 in
      let list = joined (map member_of b.0.0) in
      let end = takes_mark mark.RightBrace ∷ [] in
      let y = join list end a.0.2 b.0.1 c.0.2 m.0 (expects mark.RightBrace [] b.0.1 c.0.2 c.0 c.1 refl) in
      subst (λ (p : Specifier × State). Aggregates at aggregate tag s p.0 p.1)
      (same_Some (specifier.Aggregate at aggregate tag b.0.0, c.0.2) (x, z) c.2)
      (record { xs = b.0.0; is = refl; spans = expects mark.LeftBrace (list ++ end) s c.0.2 a.0 a.1 y; is_low = m.1 })

  aggregate_with : (typed : Bool) (s m m' z : State) (at : ℕ) (aggregate : AggregateKind) (tag : Option TagName)
      (x : Specifier) → Takes at (kind.Keyword (aggregate_keyword aggregate)) s.0 m.0 → s.1 ≡ m.1 →
      Spans (tag_parts tag) m m' → Aggregates at aggregate tag m' x z → DerivesSpecifier (suc below) typed s x z
  aggregate_with typed s m m' z at aggregate tag x i j t e =
      let body = braced (joined (map member_of e.xs)) in
      let y = take_at at (kind.Keyword (aggregate_keyword aggregate)) (tag_parts tag ++ body) s m z i j
      (join (tag_parts tag) body m m' z t e.spans) in
      subst (λ (p : Specifier). DerivesSpecifier (suc below) typed s p z) e.is
      (record { spans = rw specifier-Aggregate y; low = rw specifier-Aggregate (omega (arith, e.is_low)) })

  tagged_takes : (typed : Bool) (s m z : State) (at : ℕ) (aggregate : AggregateKind) (x : Specifier) →
      Takes at (kind.Keyword (aggregate_keyword aggregate)) s.0 m.0 → s.1 ≡ m.1 → tagged_at r at aggregate m ≡ Some
      (x, z) → DerivesSpecifier (suc below) typed s x z
  unfolding tagged_at
  tagged_takes typed s m z at aggregate x i j h =
      elim (chosen (begins mark.LeftBrace m) _ _ _ h) [
        | inl p ↦ aggregate_with typed s m m z at aggregate None x i j refl (aggregate_takes m z at aggregate None x
            p.1)
        | inr p ↦
            let a = bind_some (tag_at m) _ _ p.1 in
            let t = tag_takes m a.0.1 a.0.0 a.1 in
            elim (chosen (begins mark.LeftBrace a.0.1) _ _ _ a.2) [
              | inl q ↦ aggregate_with typed s m a.0.1 z at aggregate (Some a.0.0) x i j t (aggregate_takes a.0.1 z at
                  aggregate (Some a.0.0) x q.1)
              | inr q ↦
                  subst (λ (p : Specifier × State). DerivesSpecifier (suc below) typed s p.0 p.1)
                  (same_Some (specifier.Tag at aggregate a.0.0, a.0.1) (x, z) q.1)
                  (record {
                    spans =
                        rw specifier-Tag (take_at at (kind.Keyword (aggregate_keyword aggregate)) (takes_tag a.0.0 ∷
                        []) s m a.0.1 i j t);
                    low = rw specifier-Tag (omega arith);
                  })
            ]
      ]

  -- ---- any specifier

  word_derived : (typed : Bool) (s m z : State) (at : ℕ) (k : Keyword) (x : Specifier) → Takes at (kind.Keyword k) s.0
      m.0 → s.1 ≡ m.1 → ◌>>=◌ {B = Specifier × State} (word_specifier at k) (λ y. Some (y, m)) ≡ Some (x, z) →
      DerivesSpecifier (suc below) typed s x z
  word_derived typed s m z at k x i j h =
      let a = bind_some (word_specifier at k) _ _ h in
      let w = word_takes at k a.0 a.1 in
      let y = take_at at (kind.Keyword k) [] s m m i j refl in
      subst (λ (p : Specifier × State). DerivesSpecifier (suc below) typed s p.0 p.1) (same_Some (a.0, m) (x, z) a.2)
      (record {
        spans = subst (λ (ps : List Part). Spans ps s m) (sym (w.parts typed)) y;
        low = omega (arith, w.height);
      })

  keyword_takes : (typed : Bool) (s m z : State) (at : ℕ) (k : Keyword) (o : Option AggregateKind) (x : Specifier) →
      aggregate_of k ≡ o → Takes at (kind.Keyword k) s.0 m.0 → s.1 ≡ m.1 → keyword_specifier r at k o m ≡ Some
      (x, z) → DerivesSpecifier (suc below) typed s x z
  keyword_takes typed s m z at k (Some aggregate) x is i j h =
      tagged_takes typed s m z at aggregate x (taken_as at (kind.Keyword k)
      (kind.Keyword (aggregate_keyword aggregate)) s.0 m.0 (ap (λ l. kind.Keyword l) (aggregate_is k aggregate
      is)) i) j h
  keyword_takes typed s m z at keyword.Enum None x is i j h = enum_takes typed s m z at x i j h
  keyword_takes typed s m z at k None x is i j h = word_derived typed s m z at k x i j h

  specifier_takes_by : (typed : Bool) (s m z : State) (at : ℕ) (k : TokenKind) (x : Specifier) → Takes at k s.0 m.0 →
      s.1 ≡ m.1 → specifies_by s.1 typed k ≡ true → specifier_by r k at m ≡ Some (x, z) → DerivesSpecifier (suc below)
      typed s x z
  specifier_takes_by typed s m z at (kind.Keyword k) x i j c h =
      keyword_takes typed s m z at k (aggregate_of k) x refl i j h
  specifier_takes_by typed s m z at (kind.Identifier name) x i j c h =
      let b = both (not typed) (is_typedef name s.1) c in
      subst (λ (p : Specifier × State). DerivesSpecifier (suc below) typed s p.0 p.1)
      (same_Some (specifier.Typedef at name, m) (x, z) h)
      (record {
        spans = rw specifier-Typedef (b.0, (b.1, take_at at (kind.Identifier name) [] s m m i j refl));
        low = rw specifier-Typedef (omega arith);
      })
  specifier_takes_by typed s m z at _ x i j c h = cc

  pub specifier_takes : (typed : Bool) (tokens : List Token) (scope : Scope) (z : State) (x : Specifier) →
      specifies_in typed tokens scope ≡ true → specifier_in r tokens scope ≡ Some (x, z) → DerivesSpecifier
      (suc below) typed (tokens, scope) x z
  specifier_takes typed [] scope z x c h = cc
  specifier_takes typed (t ∷ rest) scope z x c h =
      specifier_takes_by typed (t ∷ rest, scope) (rest, scope) z t.start t.kind x (first_taken t rest) refl c h
