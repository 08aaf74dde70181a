-- What the grammar derives is read: declaration specifiers (C99 6.7), with structures, unions and enumerations.
use Rattle.std.proofs.Common.{
  ◌≡◌,
  ◌≤◌,
  ◌<◌,
  ℕ,
  zero,
  suc,
  List,
  [],
  ◌∷◌,
  ◌++◌,
  length,
  Option,
  Some,
  None,
  Bool,
  true,
  false,
  refl,
  sym,
  ap,
  ◌∙◌,
  subst,
  arith,
}
use Rattle.std.specs.Prelude.{map, option_map, ◌||◌}
use Rattle.c_language.specs.declared.token.Token.{Token}
use Rattle.c_language.specs.declared.token.TokenKind.TheVariants as kind
use Rattle.c_language.specs.declared.token.Punctuator.TheVariants as mark
use Rattle.c_language.specs.declared.expr.StorageClass.{StorageClass}
use Rattle.c_language.specs.declared.expr.StorageClass.TheVariants as class
use Rattle.c_language.specs.declared.expr.Qualifier.{Qualifier}
use Rattle.c_language.specs.declared.expr.Qualifier.TheVariants as qualifier
use Rattle.c_language.specs.declared.expr.TypeWord.{TypeWord}
use Rattle.c_language.specs.declared.expr.TypeWord.TheVariants as word
use Rattle.c_language.specs.declared.expr.AggregateKind.{AggregateKind}
use Rattle.c_language.specs.declared.expr.AggregateKind.TheVariants as aggregate
use Rattle.c_language.specs.declared.expr.Expr.{Expr}
use Rattle.c_language.specs.declared.expr.Specifier.{Specifier}
use Rattle.c_language.specs.declared.expr.Specifier.TheVariants as specifier
use Rattle.c_language.specs.declared.expr.Declarator.{Declarator}
use Rattle.c_language.specs.declared.expr.Field.{Field}
use Rattle.c_language.specs.declared.expr.Field.TheVariants as field
use Rattle.c_language.specs.declared.expr.TagName.{TagName}
use Rattle.c_language.specs.declared.expr.Enumerator.{Enumerator}
use Rattle.c_language.specs.declared.expr.MemberDeclaration.{MemberDeclaration}
use Rattle.c_grammar.specs.declared.declarator_place.DeclaratorPlace.TheVariants as place
use Rattle.c_grammar.specs.declared.type_words.TypeKind.{TypeKind}
use Rattle.c_grammar.specs.declared.type_words.TypeKind.TheVariants as type_kind
use Rattle.c_grammar.specs.declared.type_words.TypeWords.{TypeWords}
use Rattle.c_grammar.specs.TypeWords.{none, words_from, is_allowed, are_allowed, is_type}
use Rattle.c_grammar.specs.Parts.{Name, holds, declares, State, Takes, Spans, specifies_in}
use Rattle.c_grammar.specs.Spelling.{class_keyword, qualifier_keyword, word_keyword, aggregate_keyword}
use Rattle.c_grammar.specs.Grammar.{
  shape,
  form,
  Specified,
  specifier_of,
  field_of,
  enumerator_of,
  member_of,
  takes_mark,
  takes_mark_at,
  joined,
  later,
  listed,
  highest,
  comma_if,
  of_rank,
  specifiers_from,
  specification,
  highest_specifier,
  all_specified,
  braced,
  value_parts,
  height_of,
  fields_parts,
  ended_in,
}
use Rattle.c_grammar.specs.Reading.{
  Rules,
  rules,
  begins,
  kind_of,
  specifiers_at,
  specification_at,
  value_at,
  enumerator_at,
  more_enumerators_at,
  enumeration_at,
  enum_at,
  bits_at,
  field_at,
  more_fields_at,
  fields_at,
  member_at,
  members_at,
  aggregate_at,
  tagged_at,
  specifier_by,
}
use Rattle.c_grammar.proofs.Spans.{join, split, no_more, one_less}
use Rattle.c_language.proofs.Induction.{Each, Maybe}
use Rattle.c_grammar.proofs.Equations.{
  specifier-Storage,
  specifier-Qualifier,
  specifier-Inline,
  specifier-Word,
  specifier-Typedef,
  specifier-Tag,
  specifier-Aggregate,
  specifier-EnumTag,
  specifier-Enumeration,
  field-Plain,
  field-Bits,
  enumerator-is,
  member-is,
}
use Rattle.c_grammar.proofs.Begins.{
  taken,
  declares_in,
  named_declares,
  no_specifier,
  specifies,
  specified_mark,
  specification_begins,
}
use Rattle.c_grammar.proofs.Reach.{ExprRead, inner}
use Rattle.c_grammar.proofs.Read.{
  FieldEnded,
  EnumeratorEnded,
  SpecifierRead,
  inner_specifier,
  DeclaratorRead,
  inner_declarator,
  FieldStart,
  FieldRead,
  EnumeratorRead,
  MemberRead,
  member_begins,
}

-- ---- specifications

abbrev typed_by : Bool → List TypeKind → Bool
typed_by typed [] = typed
typed_by typed (k ∷ ks) = typed_by (typed || is_type k) ks

typed_stays : (ks : List TypeKind) → typed_by true ks ≡ true
typed_stays [] = refl
typed_stays (k ∷ ks) = typed_stays ks

untyped_same : (w : TypeWords) (ks : List TypeKind) → typed_by false ks ≡ false → words_from w ks ≡ w
untyped_same w [] h = refl
untyped_same w (type_kind.NoType ∷ ks) h = untyped_same w ks h
untyped_same w (type_kind.Word x ∷ ks) h = let e = typed_stays ks in cc
untyped_same w (type_kind.Whole ∷ ks) h = let e = typed_stays ks in cc

allowed_by : (ks : List TypeKind) (b : Bool) → typed_by false ks ≡ b → are_allowed ks ≡ true → b ≡ true
allowed_by ks true e h = refl
allowed_by ks false e h =
    let bad : false ≡ true = sym (ap is_allowed (untyped_same none ks e)) ∙ h in
    cc

-- specifiers that may stand together have a type among them
allowed_typed : (ks : List TypeKind) → are_allowed ks ≡ true → typed_by false ks ≡ true
allowed_typed ks h = allowed_by ks (typed_by false ks) refl h

kinds_same : (xs : List Specifier) → map (λ (x : Specified). x.kind) (all_specified xs) ≡ map kind_of xs
kinds_same [] = refl
kinds_same (x ∷ xs) = ap (λ (ks : List TypeKind). kind_of x ∷ ks) (kinds_same xs)

specifiers_brace : (typed : Bool) (xs : List Specifier) (s m : State) →
    Spans (specifiers_from typed (all_specified xs)) s m → begins mark.LeftBrace m ≡ false → begins mark.LeftBrace s ≡
    false
specifiers_brace typed [] s m y h = rw y h
specifiers_brace typed (x ∷ xs) s m y h =
    let p = split ((specifier_of x).parts typed) _ s m y in
    specified_mark mark.LeftBrace s.0 s.1 typed (specifies x typed s p.0 p.1).begins

specifiers_read : (below n : ℕ) (typed : Bool) (xs : List Specifier) (s m : State) → Each SpecifierRead xs →
    length s.0 < n → highest_specifier (all_specified xs) ≤ below → Spans (specifiers_from typed (all_specified xs)) s
    m → specifies_in (typed_by typed (map kind_of xs)) m.0 m.1 ≡ false → begins mark.LeftBrace m ≡ false →
    specifiers_at (rules below) n typed s ≡ Some (xs, m)
unfolding specifiers_at
specifiers_read below zero typed xs s m each enough low y ends h = absurd (omega arith)
specifiers_read below (suc n) typed [] s m each enough low y ends h =
    let e : specifies_in typed s.0 s.1 ≡ false = rw y ends in
    rw e (ap (λ (q : State). Some ([], q)) y)
specifiers_read below (suc n) typed (x ∷ xs) s m each enough low y ends h =
    let p = split ((specifier_of x).parts typed) (specifiers_from (typed || is_type (kind_of x)) (all_specified xs)) s
    m y in
    let b = specifies x typed s p.0 p.1 in
    let less = b.less in
    let read = inner_specifier x each.0 below typed s p.0 p.1 (omega arith) (specifiers_brace _ xs p.0 m p.2 h) in
    let more = specifiers_read below n (typed || is_type (kind_of x)) xs p.0 m each.1 (omega arith) (omega arith) p.2
    ends h in
    rw (b.begins, read, more) refl

pub specification_read : (below : ℕ) (xs : List Specifier) (s m : State) → Each SpecifierRead xs → highest_specifier
    (all_specified xs) ≤ below → Spans (specification (all_specified xs)) s m → specifies_in true m.0 m.1 ≡ false →
    begins mark.LeftBrace m ≡ false → specification_at (rules below) s ≡ Some (xs, m)
unfolding specification_at
specification_read below xs s m each low y ends h =
    let q = split (specifiers_from false (all_specified xs))
    (holds (are_allowed (map (λ (x : Specified). x.kind) (all_specified xs))) ∷ []) s m y in
    let allowed : are_allowed (map kind_of xs) ≡ true = sym (ap are_allowed (kinds_same xs)) ∙ q.2.0 in
    let typed = allowed_typed (map kind_of xs) allowed in
    let y' = subst (λ (w : State). Spans (specifiers_from false (all_specified xs)) s w) q.2.1 q.1 in
    let ends' : specifies_in (typed_by false (map kind_of xs)) m.0 m.1 ≡ false = rw typed ends in
    let read = specifiers_read below (suc (length s.0)) false xs s m each (omega arith) low y' ends' h in
    rw (read, allowed) refl

-- ---- specifiers that are one keyword

storage_by : (r : Rules) (at : ℕ) (c : StorageClass) (s : State) → specifier_by r (kind.Keyword (class_keyword c)) at
    s ≡ Some (specifier.Storage at c, s)
storage_by r at class.Typedef s = refl
storage_by r at class.Extern s = refl
storage_by r at class.Static s = refl
storage_by r at class.Auto s = refl
storage_by r at class.Register s = refl

qualifier_by : (r : Rules) (at : ℕ) (q : Qualifier) (s : State) → specifier_by r (kind.Keyword (qualifier_keyword q))
    at s ≡ Some (specifier.Qualifier at q, s)
qualifier_by r at qualifier.Const s = refl
qualifier_by r at qualifier.Restrict s = refl
qualifier_by r at qualifier.Volatile s = refl

word_by : (r : Rules) (at : ℕ) (w : TypeWord) (s : State) → specifier_by r (kind.Keyword (word_keyword w)) at s ≡ Some
    (specifier.Word at w, s)
word_by r at word.Void s = refl
word_by r at word.Char s = refl
word_by r at word.Short s = refl
word_by r at word.Int s = refl
word_by r at word.Long s = refl
word_by r at word.Float s = refl
word_by r at word.Double s = refl
word_by r at word.Signed s = refl
word_by r at word.Unsigned s = refl
word_by r at word.Bool s = refl
word_by r at word.Complex s = refl
word_by r at word.Imaginary s = refl
word_by r at word.Float32 s = refl
word_by r at word.Float64 s = refl
word_by r at word.Float32x s = refl
word_by r at word.Float64x s = refl
word_by r at word.Float128 s = refl
word_by r at word.VaList s = refl

tagged_by : (r : Rules) (at : ℕ) (a : AggregateKind) (s : State) → specifier_by r (kind.Keyword (aggregate_keyword a))
    at s ≡ tagged_at r at a s
tagged_by r at aggregate.Struct s = refl
tagged_by r at aggregate.Union s = refl

pub storage_read : (at : ℕ) (c : StorageClass) → SpecifierRead (specifier.Storage at c)
storage_read at c below typed s z =
    rw specifier-Storage (λ (x : _) low h. rw (taken x.1) (storage_by (rules below) at c (x.0, s.1) ∙ ap
    (λ (q : State). Some (specifier.Storage at c, q)) x.2))

pub qualifier_read : (at : ℕ) (q : Qualifier) → SpecifierRead (specifier.Qualifier at q)
qualifier_read at q below typed s z =
    rw specifier-Qualifier (λ (x : _) low h. rw (taken x.1) (qualifier_by (rules below) at q (x.0, s.1) ∙ ap
    (λ (m : State). Some (specifier.Qualifier at q, m)) x.2))

pub inline_read : (at : ℕ) → SpecifierRead (specifier.Inline at)
inline_read at below typed s z =
    rw specifier-Inline (λ (x : _) low h. rw (taken x.1) (ap (λ (q : State). Some (specifier.Inline at, q)) x.2))

pub word_read : (at : ℕ) (w : TypeWord) → SpecifierRead (specifier.Word at w)
word_read at w below typed s z =
    rw specifier-Word (λ (x : _) low h. rw (taken x.1) (word_by (rules below) at w (x.0, s.1) ∙ ap
    (λ (q : State). Some (specifier.Word at w, q)) x.2))

pub typedef_read : (at : ℕ) (name : Name) → SpecifierRead (specifier.Typedef at name)
typedef_read at name below typed s z =
    rw specifier-Typedef (λ (x : _) low h. rw (taken x.1.1.1) (ap (λ (q : State). Some (specifier.Typedef at name, q))
    x.1.1.2))

pub tag_read : (at : ℕ) (a : AggregateKind) (tag : TagName) → SpecifierRead (specifier.Tag at a tag)
unfolding tagged_at
tag_read at a tag below typed s z = rw specifier-Tag (λ (x : _) low h.
    let y = x.2 in
    let no_brace : begins mark.LeftBrace (y.0, s.1) ≡ false = ap (begins mark.LeftBrace) y.2 ∙ h in
    let reads : tagged_at (rules below) at a (x.0, s.1) ≡ Some (specifier.Tag at a tag, z) = rw (taken y.1, no_brace)
    (ap (λ (q : State). Some (specifier.Tag at a tag, q)) y.2) in
    rw (taken x.1) (tagged_by (rules below) at a (x.0, s.1) ∙ reads))

pub enum_tag_read : (at : ℕ) (tag : TagName) → SpecifierRead (specifier.EnumTag at tag)
unfolding enum_at
enum_tag_read at tag below typed s z = rw specifier-EnumTag (λ (x : _) low h.
    let y = x.2 in
    let no_brace : begins mark.LeftBrace (y.0, s.1) ≡ false = ap (begins mark.LeftBrace) y.2 ∙ h in
    rw (taken x.1, taken y.1, no_brace) (ap (λ (q : State). Some (specifier.EnumTag at tag, q)) y.2))

-- ---- enumerations (C99 6.7.2.2)

value_read : (below : ℕ) (v : Option Expr) (s m : State) → Maybe ExprRead v → Spans (value_parts (option_map shape v))
    s m → height_of (option_map shape v) ≤ below → EnumeratorEnded m → value_at (rules below) s ≡ Some (v, m)
unfolding value_at
value_read below None s m a x low ends =
    let f : begins mark.Equal s ≡ false = ap (begins mark.Equal) x ∙ ends.no_equal in
    rw f (ap (λ (q : State). Some (None, q)) x)
value_read below (Some e) s m a x low ends =
    let read = inner e a below 14 (x.1, s.1) m x.3.1 x.3.0 low ends.loose in
    rw (taken x.2, read) refl

pub enumerator_read : (x : Enumerator) → Maybe ExprRead x.value → EnumeratorRead x
unfolding enumerator_at
enumerator_read x a below s z = rw enumerator-is (λ (y : _) low ends.
    let p = split (value_parts (option_map shape x.value)) (declares x.name false ∷ []) (y.0, s.1) z y.2 in
    let same : p.0.0 ≡ z.0 = ap (λ (q : State). q.0) p.2 in
    let ends' : EnumeratorEnded p.0 = record { loose = rw same ends.loose; no_equal = rw same ends.no_equal } in
    let read = value_read below x.value (y.0, s.1) p.0 a p.1 low ends' in
    rw (taken y.1, read) (ap (λ (q : State). Some (x, q)) p.2))

enumerator_brace : (x : Enumerator) (s z : State) → Spans (enumerator_of x).parts s z → begins mark.RightBrace s ≡
    false
enumerator_brace x s z = rw enumerator-is (λ (y : _). rw (taken y.1) refl)

before_brace : {at : ℕ} {rest : List Token} (z : State) → Takes at (kind.Punctuator mark.RightBrace) z.0 rest →
    EnumeratorEnded z
before_brace z t = record { loose = rw (taken t) (omega arith); no_equal = rw (taken t) refl }

before_comma : {at : ℕ} {rest : List Token} (z : State) → Takes at (kind.Punctuator mark.Comma) z.0 rest →
    EnumeratorEnded z
before_comma z t = record { loose = rw (taken t) (omega arith); no_equal = rw (taken t) refl }

-- what stands behind an enumerator in the list
enumerator_ended : (xs : List Enumerator) (trailing : Bool) (s m : State) → Spans (later (map enumerator_of xs) ++
    comma_if trailing) s m → {at : ℕ} {rest : List Token} → Takes at (kind.Punctuator mark.RightBrace) m.0 rest →
    EnumeratorEnded s
enumerator_ended [] true s m y t = before_comma s y.2
enumerator_ended [] false s m y t = subst EnumeratorEnded (sym y) (before_brace m t)
enumerator_ended (x ∷ xs) trailing s m y t = before_comma s y.2

more_enumerators_read : (below n : ℕ) (xs : List Enumerator) (trailing : Bool) (s m : State) → Each EnumeratorRead
    xs → length s.0 < n → highest (map enumerator_of xs) ≤ below → Spans (later (map enumerator_of xs) ++
    comma_if trailing) s m → {at : ℕ} {rest : List Token} → Takes at (kind.Punctuator mark.RightBrace) m.0 rest →
    more_enumerators_at (rules below) n s ≡ Some ((xs, trailing), m)
unfolding more_enumerators_at
more_enumerators_read below zero xs trailing s m each enough low y t = absurd (omega arith)
more_enumerators_read below (suc n) [] true s m each enough low y t =
    let e : begins mark.RightBrace (y.1, s.1) ≡ true = ap (begins mark.RightBrace) y.3 ∙ rw (taken t) refl in
    rw (taken y.2, e) (ap (λ (q : State). Some (([], true), q)) y.3)
more_enumerators_read below (suc n) [] false s m each enough low y t =
    let e : begins mark.Comma s ≡ false = ap (begins mark.Comma) y ∙ rw (taken t) refl in
    rw e (ap (λ (q : State). Some (([], false), q)) y)
more_enumerators_read below (suc n) (x ∷ xs) trailing s m each enough low y t =
    let q = split ((enumerator_of x).parts ++ later (map enumerator_of xs)) (comma_if trailing) (y.1, s.1) m y.3 in
    let p = split (enumerator_of x).parts (later (map enumerator_of xs)) (y.1, s.1) q.0 q.1 in
    let more = join (later (map enumerator_of xs)) (comma_if trailing) p.0 q.0 m p.2 q.2 in
    let begun = enumerator_brace x (y.1, s.1) p.0 p.1 in
    let read = each.0 below (y.1, s.1) p.0 p.1 (omega arith) (enumerator_ended xs trailing p.0 m more t) in
    let l = one_less y.0 (kind.Punctuator mark.Comma) s.0 y.1 y.2 in
    let l' = no_more (enumerator_of x).parts (y.1, s.1) p.0 p.1 in
    let reads = more_enumerators_read below n xs trailing p.0 m each.1 (omega arith) (omega arith) more t in
    rw (taken y.2, begun, read, reads) refl

enumeration_body_read : (below at : ℕ) (tag : Option TagName) (xs : List Enumerator) (trailing : Bool) (s m : State) →
    Each EnumeratorRead xs → highest (map enumerator_of xs) ≤ below → Spans (braced (listed (map enumerator_of xs) ++
    comma_if trailing)) s m → enumeration_at (rules below) at tag s ≡ Some (
      specifier.Enumeration at tag xs trailing,
      m,
    )
unfolding enumeration_at
enumeration_body_read below at tag [] trailing s m each low y = let none = y.3.0 in cc
enumeration_body_read below at tag (x ∷ xs) trailing s m each low y =
    let c = comma_if trailing in
    let o = split (((enumerator_of x).parts ++ later (map enumerator_of xs)) ++ c) (takes_mark mark.RightBrace ∷ [])
    (y.1, s.1) m y.3 in
    let q = split ((enumerator_of x).parts ++ later (map enumerator_of xs)) c (y.1, s.1) o.0 o.1 in
    let p = split (enumerator_of x).parts (later (map enumerator_of xs)) (y.1, s.1) q.0 q.1 in
    let more = join (later (map enumerator_of xs)) c p.0 q.0 o.0 p.2 q.2 in
    let read = each.0 below (y.1, s.1) p.0 p.1 (omega arith) (enumerator_ended xs trailing p.0 o.0 more o.2.2) in
    let reads = more_enumerators_read below (suc (length p.0.0)) xs trailing p.0 o.0 each.1 (omega arith)
    (omega arith) more o.2.2 in
    rw (taken y.2, read, reads, taken o.2.2) (ap (λ (w : State). Some (
      specifier.Enumeration at tag (x ∷ xs) trailing,
      w,
    )) o.2.3)

pub enumeration_read : (at : ℕ) (tag : Option TagName) (xs : List Enumerator) (trailing : Bool) → Each EnumeratorRead
    xs → SpecifierRead (specifier.Enumeration at tag xs trailing)
unfolding enum_at
enumeration_read at None xs trailing each below typed s z = rw specifier-Enumeration (λ (x : _) low h.
    let read = enumeration_body_read below at None xs trailing (x.0, s.1) z each (omega arith) x.2 in
    let begun : begins mark.LeftBrace (x.0, s.1) ≡ true = rw (taken x.2.2) refl in
    rw (taken x.1, begun, read) refl)
enumeration_read at (Some tag) xs trailing each below typed s z = rw specifier-Enumeration (λ (x : _) low h.
    let y = x.2 in
    let read = enumeration_body_read below at (Some tag) xs trailing (y.0, s.1) z each (omega arith) y.2 in
    let begun : begins mark.LeftBrace (y.0, s.1) ≡ true = rw (taken y.2.2) refl in
    rw (taken x.1, taken y.1, begun, read) refl)

-- ---- structures and unions (C99 6.7.2.1)

declarator_starts : (s : State) → declares_in s.0 ≡ true → FieldStart s
declarator_starts s h =
    let n = no_specifier s.0 h in record { no_type = n.typed s.1; no_brace = n.brace; no_semicolon = n.semicolon }

pub plain_read : (d : Declarator) → DeclaratorRead d → FieldRead (field.Plain d)
unfolding field_at
plain_read d a = record {
  starts = λ s z. rw field-Plain (λ (x : _). declarator_starts s (named_declares d place.Member s z x.1 x.0));
  reads = λ below s z. rw field-Plain (λ (x : _) low ends.
      let begun = (no_specifier s.0 (named_declares d place.Member s z x.1 x.0)).colon in
      let read = inner_declarator d a below place.Member s z x.1 x.0 low ends.ended in
      rw (begun, read, ends.no_colon) refl);
}

pub bits_read : (at : ℕ) (d : Option Declarator) (width : Expr) → Maybe DeclaratorRead d → ExprRead width →
    FieldRead (field.Bits at d width)
unfolding field_at bits_at
bits_read at None width a b = record {
  starts =
      λ s z. rw field-Bits (λ (x : _). record {
        no_type = rw (taken x.1) refl;
        no_brace = rw (taken x.1) refl;
        no_semicolon = rw (taken x.1) refl;
      });
  reads = λ below s z. rw field-Bits (λ (x : _) low ends.
      let read = inner width b below 14 (x.0, s.1) z x.2.1 x.2.0 (omega arith) ends.loose in
      rw (taken x.1, read) refl);
}
bits_read at (Some d) width a b = record {
  starts = λ s z. rw field-Bits (λ (x : _).
      let p = split ((form d).parts place.Member) (takes_mark_at at mark.Colon ∷ of_rank 14 (shape width)) s z x.1 in
      declarator_starts s (named_declares d place.Member s p.0 p.1 x.0));
  reads = λ below s z. rw field-Bits (λ (x : _) low ends.
      let p = split ((form d).parts place.Member) (takes_mark_at at mark.Colon ∷ of_rank 14 (shape width)) s z x.1 in
      let begun = (no_specifier s.0 (named_declares d place.Member s p.0 p.1 x.0)).colon in
      let ended : ended_in p.0.0 ≡ true = rw (taken p.2.1) refl in
      let read = inner_declarator d a below place.Member s p.0 p.1 x.0 (omega arith) ended in
      let colon : begins mark.Colon p.0 ≡ true = rw (taken p.2.1) refl in
      let read' = inner width b below 14 (p.2.0, p.0.1) z p.2.2.1 p.2.2.0 (omega arith) ends.loose in
      rw (begun, read, colon, taken p.2.1, read') refl);
}

field_before_comma : {at : ℕ} {rest : List Token} (z : State) → Takes at (kind.Punctuator mark.Comma) z.0 rest →
    FieldEnded z
field_before_comma z t =
    record { ended = rw (taken t) refl; loose = rw (taken t) (omega arith); no_colon = rw (taken t) refl }

field_before_semicolon : {at : ℕ} {rest : List Token} (z : State) → Takes at (kind.Punctuator mark.Semicolon) z.0
    rest → FieldEnded z
field_before_semicolon z t =
    record { ended = rw (taken t) refl; loose = rw (taken t) (omega arith); no_colon = rw (taken t) refl }

field_ended : (xs : List Field) (s m : State) → Spans (later (map field_of xs)) s m → FieldEnded m → FieldEnded s
field_ended [] s m y h = subst FieldEnded (sym y) h
field_ended (x ∷ xs) s m y h = field_before_comma s y.2

more_fields_read : (below n : ℕ) (xs : List Field) (s m : State) → Each FieldRead xs → length s.0 < n →
    highest (map field_of xs) ≤ below → Spans (later (map field_of xs)) s m → begins mark.Comma m ≡ false →
    FieldEnded m → more_fields_at (rules below) n s ≡ Some (xs, m)
unfolding more_fields_at
more_fields_read below zero xs s m each enough low y ends h = absurd (omega arith)
more_fields_read below (suc n) [] s m each enough low y ends h =
    let e : begins mark.Comma s ≡ false = rw y ends in rw e (ap (λ (q : State). Some ([], q)) y)
more_fields_read below (suc n) (x ∷ xs) s m each enough low y ends h =
    let p = split (field_of x).parts (later (map field_of xs)) (y.1, s.1) m y.3 in
    let read = each.0.reads below (y.1, s.1) p.0 p.1 (omega arith) (field_ended xs p.0 m p.2 h) in
    let l = one_less y.0 (kind.Punctuator mark.Comma) s.0 y.1 y.2 in
    let l' = no_more (field_of x).parts (y.1, s.1) p.0 p.1 in
    let more = more_fields_read below n xs p.0 m each.1 (omega arith) (omega arith) p.2 ends h in
    rw (taken y.2, read, more) refl

fields_read : (below : ℕ) (xs : List Field) (s m : State) → Each FieldRead xs → highest (map field_of xs) ≤ below →
    Spans (fields_parts (map field_of xs)) s m → {at : ℕ} {rest : List Token} →
    Takes at (kind.Punctuator mark.Semicolon) m.0 rest → fields_at (rules below) s ≡ Some (xs, m)
unfolding fields_at
fields_read below [] s m each low y t =
    let f : begins mark.Semicolon s ≡ true = ap (begins mark.Semicolon) y ∙ rw (taken t) refl in
    rw f (ap (λ (q : State). Some ([], q)) y)
fields_read below (x ∷ xs) s m each low y t =
    let p = split (field_of x).parts (later (map field_of xs)) s m y in
    let h = field_before_semicolon m t in
    let begun = (each.0.starts s p.0 p.1).no_semicolon in
    let read = each.0.reads below s p.0 p.1 (omega arith) (field_ended xs p.0 m p.2 h) in
    let more = more_fields_read below (suc (length p.0.0)) xs p.0 m each.1 (omega arith) (omega arith) p.2
    (rw (taken t) refl) h in
    rw (begun, read, more) refl

-- what stands behind the specifiers of a member declaration
fields_start : (xs : List Field) (s m : State) → Each FieldRead xs → Spans (fields_parts (map field_of xs)) s m →
    {at : ℕ} {rest : List Token} → Takes at (kind.Punctuator mark.Semicolon) m.0 rest →
    (specifies_in true s.0 s.1 ≡ false) × (begins mark.LeftBrace s ≡ false)
fields_start [] s m each y t = (
  ap (λ (q : State). specifies_in true q.0 q.1) y ∙ rw (taken t) refl,
  ap (begins mark.LeftBrace) y ∙ rw (taken t)
      refl,
)
fields_start (x ∷ xs) s m each y t =
    let p = split (field_of x).parts (later (map field_of xs)) s m y in
    let f = each.0.starts s p.0 p.1 in
    (f.no_type, f.no_brace)

pub member_read : (x : MemberDeclaration) → Each SpecifierRead x.specifiers → Each FieldRead x.fields → MemberRead x
unfolding member_at
member_read x a b below s z = rw member-is (λ (y : _) low.
    let p = split (specification (all_specified x.specifiers)) _ s z y in
    let q = split (fields_parts (map field_of x.fields)) (takes_mark mark.Semicolon ∷ []) p.0 z p.2 in
    let start = fields_start x.fields p.0 q.0 b q.1 q.2.2 in
    let xs = specification_read below x.specifiers s p.0 a (omega arith) p.1 start.0 start.1 in
    let fields = fields_read below x.fields p.0 q.0 b (omega arith) q.1 q.2.2 in
    rw (xs, fields, taken q.2.2) (ap (λ (w : State). Some (x, w)) q.2.3))

member_less : (x : MemberDeclaration) (s z : State) → Spans (member_of x).parts s z → length z.0 < length s.0
member_less x s z = rw member-is (λ (y : _).
    let p = split (specification (all_specified x.specifiers)) _ s z y in
    let l = (specification_begins x.specifiers s p.0 p.1).1 in
    let l' = no_more (fields_parts (map field_of x.fields) ++ takes_mark mark.Semicolon ∷ []) p.0 z p.2 in
    omega arith)

members_read : (below n : ℕ) (xs : List MemberDeclaration) (s m : State) → Each MemberRead xs → length s.0 < n →
    highest (map member_of xs) ≤ below → Spans (joined (map member_of xs)) s m → {at : ℕ} {rest : List Token} →
    Takes at (kind.Punctuator mark.RightBrace) m.0 rest → members_at (rules below) n s ≡ Some (xs, m)
unfolding members_at
members_read below zero xs s m each enough low y t = absurd (omega arith)
members_read below (suc n) [] s m each enough low y t =
    let e : begins mark.RightBrace s ≡ true = ap (begins mark.RightBrace) y ∙ rw (taken t) refl in
    rw e (ap (λ (q : State). Some ([], q)) y)
members_read below (suc n) (x ∷ xs) s m each enough low y t =
    let p = split (member_of x).parts (joined (map member_of xs)) s m y in
    let begun : begins mark.RightBrace s ≡ false = specified_mark mark.RightBrace s.0 s.1 false (member_begins x s p.0
    p.1) in
    let less = member_less x s p.0 p.1 in
    let read = each.0 below s p.0 p.1 (omega arith) in
    let more = members_read below n xs p.0 m each.1 (omega arith) (omega arith) p.2 t in
    rw (begun, read, more) refl

aggregate_body_read : (below at : ℕ) (a : AggregateKind) (tag : Option TagName) (xs : List MemberDeclaration)
    (s m : State) → Each MemberRead xs → highest (map member_of xs) ≤ below →
    Spans (braced (joined (map member_of xs))) s m → aggregate_at (rules below) at a tag s ≡ Some
    (specifier.Aggregate at a tag xs, m)
unfolding aggregate_at
aggregate_body_read below at a tag xs s m each low y =
    let p = split (joined (map member_of xs)) (takes_mark mark.RightBrace ∷ []) (y.1, s.1) m y.3 in
    let read = members_read below (suc (length y.1)) xs (y.1, s.1) p.0 each (omega arith) low p.1 p.2.2 in
    rw (taken y.2, read, taken p.2.2) (ap (λ (w : State). Some (specifier.Aggregate at a tag xs, w)) p.2.3)

pub aggregate_read : (at : ℕ) (a : AggregateKind) (tag : Option TagName) (xs : List MemberDeclaration) →
    Each MemberRead xs → SpecifierRead (specifier.Aggregate at a tag xs)
unfolding tagged_at
aggregate_read at a None xs each below typed s z = rw specifier-Aggregate (λ (x : _) low h.
    let read = aggregate_body_read below at a None xs (x.0, s.1) z each (omega arith) x.2 in
    let begun : begins mark.LeftBrace (x.0, s.1) ≡ true = rw (taken x.2.2) refl in
    let reads : tagged_at (rules below) at a (x.0, s.1) ≡ Some (specifier.Aggregate at a None xs, z) =
    rw (begun, read) refl in
    rw (taken x.1) (tagged_by (rules below) at a (x.0, s.1) ∙ reads))
aggregate_read at a (Some tag) xs each below typed s z = rw specifier-Aggregate (λ (x : _) low h.
    let y = x.2 in
    let read = aggregate_body_read below at a (Some tag) xs (y.0, s.1) z each (omega arith) y.2 in
    let begun : begins mark.LeftBrace (y.0, s.1) ≡ true = rw (taken y.2.2) refl in
    let reads : tagged_at (rules below) at a (x.0, s.1) ≡ Some (specifier.Aggregate at a (Some tag) xs, z) =
    rw (taken y.1, begun, read) refl in
    rw (taken x.1) (tagged_by (rules below) at a (x.0, s.1) ∙ reads))
