-- What the grammar derives is read: declarators, parameters and type names (C99 6.7.5, 6.7.6).
use Rattle.std.proofs.Common.{
  ◌≡◌,
  ◌≤◌,
  ◌<◌,
  ℕ,
  zero,
  suc,
  List,
  [],
  ◌∷◌,
  ◌++◌,
  length,
  Option,
  Some,
  None,
  Bool,
  true,
  false,
  refl,
  sym,
  ap,
  ◌∙◌,
  subst,
  arith,
  ◌⊎◌,
  inl,
  inr,
}
use Rattle.std.specs.Prelude.{map, option_map, ◌||◌, ◌&&◌, not}
use Rattle.c_language.specs.declared.token.Token.{Token}
use Rattle.c_language.specs.declared.token.TokenKind.{TokenKind}
use Rattle.c_language.specs.declared.token.TokenKind.TheVariants as kind
use Rattle.c_language.specs.declared.token.Keyword.TheVariants as keyword
use Rattle.c_language.specs.declared.token.Punctuator.TheVariants as mark
use Rattle.c_language.specs.declared.expr.Qualifier.{Qualifier}
use Rattle.c_language.specs.declared.expr.Qualifier.TheVariants as qualifier
use Rattle.c_language.specs.declared.expr.ArrayWord.{ArrayWord}
use Rattle.c_language.specs.declared.expr.ArrayWord.TheVariants as array_word
use Rattle.c_language.specs.declared.expr.Expr.{Expr}
use Rattle.c_language.specs.declared.expr.TypeName.{TypeName}
use Rattle.c_language.specs.declared.expr.Declarator.{Declarator}
use Rattle.c_language.specs.declared.expr.Declarator.TheVariants as declarator
use Rattle.c_language.specs.declared.expr.Parameter.{Parameter}
use Rattle.c_language.specs.declared.expr.Declarator.TheOpen as open_
use Rattle.c_grammar.specs.declared.declarator_place.DeclaratorPlace.{DeclaratorPlace}
use Rattle.c_grammar.specs.declared.declarator_place.DeclaratorPlace.TheVariants as place
use Rattle.c_grammar.specs.Parts.{
  Name,
  Part,
  holds,
  opens,
  Scope,
  State,
  Takes,
  Spans,
  is_typedef,
  specifies_by,
  specifies_in,
  entered,
}
use Rattle.c_grammar.specs.Spelling.{qualifier_keyword, array_word_keyword}
use Rattle.c_grammar.specs.Operators.{qualifier_of, array_word_of}
use Rattle.c_grammar.specs.Grammar.{
  shape,
  Form,
  form,
  formed,
  parameter_of,
  is_named,
  may_omit,
  fits_place,
  ends_declarator,
  ended_in,
  takes_mark,
  later,
  highest,
  qualifier_parts,
  array_word_parts,
  length_parts,
  height_of,
  variadic_parts,
  parameter_parts,
  group_parts,
  closing_parts,
  declaring,
  specification,
  all_specified,
}
use Rattle.c_grammar.specs.Reading.{
  Rules,
  rules,
  a_mark,
  begins_by,
  begins,
  a_qualifier,
  an_array_word,
  pointer_at,
  length_at,
  array_at,
  with_name,
  parameter_at,
  more_parameters_at,
  parameters_at,
  closed_at,
  function_at,
  suffixed,
  suffix_in,
  suffixes_at,
  grouped_declarator_at,
  begins_parameters,
  named_declarator_at,
  direct_by,
  direct_in,
  suffixed_at,
  declarator_by,
  type_name_at,
}
use Rattle.c_grammar.proofs.Spans.{join, split, no_more, one_less}
use Rattle.c_language.proofs.Induction.{Each, Maybe}
use Rattle.c_grammar.proofs.Equations.{
  form-Name,
  form-Omitted,
  form-Grouped,
  form-Pointer,
  form-Array,
  form-Function,
  parameter-is,
  type-name-is,
}
use Rattle.c_grammar.proofs.Begins.{
  token,
  taken,
  starts,
  opening,
  not_opening,
  opening_in,
  another,
  directs,
  directs_in,
  declares_by,
  declares_in,
  heads,
  no_specifier,
  specified_mark,
}
use Rattle.c_grammar.proofs.Reach.{nat_le_is, ExprRead, inner, behind}
use Rattle.c_grammar.proofs.Read.{
  Spelling,
  run_read,
  Ended,
  ended_suffix,
  ended_typed,
  SpecifierRead,
  Omits,
  DeclaratorReach,
  DeclaratorBase,
  DeclaratorRead,
  inner_declarator,
  TypeNameRead,
  ParameterRead,
  parameter_begins,
}
use Rattle.c_grammar.proofs.ExprsComplete.{close_bound}
use Rattle.c_grammar.proofs.SpecifiersComplete.{specification_read}

-- ---- where a declarator is omitted

omits_by : (r : Rules) (where_ : DeclaratorPlace) (k : TokenKind) (at : ℕ) (rest s : State) → ends_declarator k ≡
    true → may_omit where_ ≡ true → direct_by r where_ k at rest s ≡ Some (declarator.Omitted, s)
omits_by r where_ (kind.Identifier name) at rest s h may = cc
omits_by r where_ (kind.Punctuator mark.LeftParen) at rest s h may = cc
omits_by r where_ _ at rest s h may = rw may refl

omits_in : (r : Rules) (where_ : DeclaratorPlace) (tokens : List Token) (scope : Scope) → ended_in tokens ≡ true →
    may_omit where_ ≡ true → direct_in r where_ tokens scope ≡ Some (declarator.Omitted, (tokens, scope))
omits_in r where_ [] scope h may = rw may refl
omits_in r where_ (t ∷ rest) scope h may = omits_by r where_ t.kind t.start (rest, scope) (t ∷ rest, scope) h may

omits_ended : (below : ℕ) (where_ : DeclaratorPlace) (z : State) → ended_in z.0 ≡ true → Omits below where_ z
omits_ended below where_ z h may = omits_in (rules below) where_ z.0 z.1 h may

omits_bracket : {at : ℕ} {rest : List Token} (below : ℕ) (where_ : DeclaratorPlace) (z : State) →
    Takes at (kind.Punctuator mark.LeftBracket) z.0 rest → Omits below where_ z
omits_bracket below where_ z t may = rw (taken t, may) refl

omits_paren : {at : ℕ} {rest : List Token} (below : ℕ) (where_ : DeclaratorPlace) (z : State) →
    Takes at (kind.Punctuator mark.LeftParen) z.0 rest → begins_parameters (rest, z.1) ≡ true → Omits below where_ z
omits_paren below where_ z t h may = rw (taken t, may, h) refl

-- ---- the loop over the suffixes

fits_same : (where_ : DeclaratorPlace) (h g : Form) → h.name ≡ g.name → fits_place where_ h ≡ true → fits_place where_
    g ≡ true
fits_same place.Declaration h g e x = rw (← e) x
fits_same place.Member h g e x = rw (← e) x
fits_same place.Parameter h g e x = refl
fits_same place.TypeName h g e x = rw (← e) x

directs_star : (tokens : List Token) → directs_in tokens ≡ true → begins_by (a_mark mark.Star) tokens ≡ false
directs_star [] h = cc
directs_star (t ∷ rest) h = rw (another directs mark.Star t.kind h refl) refl

ended_star : (tokens : List Token) → ended_in tokens ≡ true → begins_by (a_mark mark.Star) tokens ≡ false
ended_star [] h = refl
ended_star (t ∷ rest) h = rw (another ends_declarator mark.Star t.kind h refl) refl

no_star : (h : Form) (s z : State) → (directs_in s.0 ≡ true) ⊎ ((h.omitted ≡ true) × (s ≡ z)) → ended_in z.0 ≡ true →
    begins mark.Star s ≡ false
no_star h s z (inl d) e = directs_star s.0 d
no_star h s z (inr o) e = ap (begins mark.Star) o.1 ∙ ended_star z.0 e

stop : (r : Rules) (limit n : ℕ) (where_ : DeclaratorPlace) (d : Declarator) (z : State) → 0 < n → suffixed z.0 ≡
    false → suffixes_at r limit where_ n d z ≡ Some (d, z)
unfolding suffixes_at
stop r limit zero where_ d z pos h = absurd (omega arith)
stop r limit (suc n) where_ d z pos h = rw h refl

direct_step : (r : Rules) (limit : ℕ) (where_ : DeclaratorPlace) (s : State) → begins mark.Star s ≡ false →
    declarator_by r limit where_ s ≡ suffixed_at r limit where_ s
unfolding declarator_by
direct_step r limit where_ s h = rw h refl

-- where the loop has read it, nothing else is to be shown
from_reach : (d : Declarator) (h : Form) → ((where_ : DeclaratorPlace) (s z : State) → Spans (h.parts where_) s z →
    (directs_in s.0 ≡ true) ⊎ ((h.omitted ≡ true) × (s ≡ z))) → ((below : ℕ) (where_ : DeclaratorPlace)
    (s z : State) → Spans (h.parts where_) s z → fits_place where_ h ≡ true → h.height ≤ suc below →
    Omits below where_ z → DeclaratorReach below where_ s d z) → DeclaratorBase d h
from_reach d h begun r = record {
  ends = λ below where_ s z x fits low ended.
      let y = r below where_ s z x fits low (omits_ended below where_ z ended) in
      direct_step (rules below) (suc below) where_ s (no_star h s z (begun where_ s z x) ended) ∙ y.reads ∙ stop
      (rules below) (suc below) y.bound where_ d z (omega (arith, y.enough)) (ended_suffix z.0 ended);
  reach = λ below where_ s z x fits low le omits. r below where_ s z x fits low omits;
}

one_more : (below n : ℕ) (where_ : DeclaratorPlace) (left' d : Declarator) (m z : State) → suffixed m.0 ≡ true →
    suffix_in (rules below) where_ left' m.0 m.1 ≡ Some (d, z) → (form d).height ≤ suc below →
    suffixes_at (rules below) (suc below) where_ (suc n) left' m ≡ suffixes_at (rules below) (suc below) where_ n d z
unfolding suffixes_at
one_more below n where_ left' d m z is adds low = rw (is, adds, nat_le_is (form d).height (suc below) low) refl

grown_by : (below : ℕ) (where_ : DeclaratorPlace) (s m z : State) (left' d : Declarator) (n : ℕ) → length m.0 < n →
    suffixed_at (rules below) (suc below) where_ s ≡ suffixes_at (rules below) (suc below) where_ n left' m →
    suffixed m.0 ≡ true → suffix_in (rules below) where_ left' m.0 m.1 ≡ Some (d, z) → (form d).height ≤ suc below →
    length z.0 < length m.0 → DeclaratorReach below where_ s d z
grown_by below where_ s m z left' d zero enough reads is adds low less = absurd (omega arith)
grown_by below where_ s m z left' d (suc n) enough reads is adds low less =
    record { bound = n; enough = omega arith; reads = reads ∙ one_more below n where_ left' d m z is adds low }

-- ---- the kinds of declarators

name_direct : (where_ : DeclaratorPlace) (at : ℕ) (name : Name) (rest s : State) → fits_place where_
    (formed (open_.Name at name)) ≡ true → named_declarator_at where_ at name rest s ≡ Some (
      declarator.Name at name,
      rest,
    )
name_direct place.Declaration at name rest s h = refl
name_direct place.Member at name rest s h = refl
name_direct place.Parameter at name rest s h = refl
name_direct place.TypeName at name rest s h = cc

pub name_base : (at : ℕ) (name : Name) → DeclaratorRead (declarator.Name at name)
unfolding suffixed_at
name_base at name = rw form-Name (from_reach _ _ (λ where_ s z x. inl (rw (taken x.1) refl))
    (λ below where_ s z x fits low omits. record {
      bound = suc (length z.0);
      enough = omega arith;
      reads = rw (
        taken x.1,
        name_direct where_ at name (x.0, s.1) (token at (kind.Identifier name) x.1.first ∷ x.0, s.1)
            fits,
      ) (ap (λ (q : State). suffixes_at (rules below) (suc below) where_ (suc (length q.0))
          (declarator.Name at name) q) x.2);
    }))

omitted_may : (where_ : DeclaratorPlace) → fits_place where_ (formed open_.Omitted) ≡ true → may_omit where_ ≡ true
omitted_may place.Declaration h = cc
omitted_may place.Member h = cc
omitted_may place.Parameter h = refl
omitted_may place.TypeName h = refl

pub omitted_base : DeclaratorRead declarator.Omitted
unfolding suffixed_at
omitted_base = rw form-Omitted (from_reach _ _ (λ where_ s z x. inr (refl, x)) (λ below where_ s z x fits low omits.
    let direct = omits (omitted_may where_ fits) in
    record { bound = suc (length z.0); enough = omega arith; reads = rw (x, direct) refl }))

-- in a group, no type comes next where the group could be parameters
group_same : (where_ : DeclaratorPlace) (s m : State) → Spans (group_parts where_) s m →
    (s ≡ m) × (may_omit where_ ≡ true → specifies_in false s.0 s.1 ≡ false)
group_same place.Declaration s m x = (x, λ (h : false ≡ true). cc)
group_same place.Member s m x = (x, λ (h : false ≡ true). cc)
group_same place.Parameter s m x = (x.1, λ h. x.0)
group_same place.TypeName s m x = (x.1, λ h. x.0)

and_false : (b c : Bool) → (b ≡ true → c ≡ false) → (b && c) ≡ false
and_false true c h = h refl
and_false false c h = refl

or_false : (b c : Bool) → b ≡ false → c ≡ false → (b || c) ≡ false
or_false b c h k = rw (h, k) refl

-- a declarator that isn't omitted doesn't begin with `)`
present_close : (d : Declarator) (where_ : DeclaratorPlace) (s z : State) → Spans ((form d).parts where_) s z →
    not (form d).omitted ≡ true → begins mark.RightParen s ≡ false
present_close d where_ s z x h =
    elim ((heads d).any where_ s z x) [
      | inl b ↦ (no_specifier s.0 b).close
      | inr o ↦ let bad : false ≡ true = sym (ap not o.0) ∙ h in cc
    ]

close_ends : {at : ℕ} {rest : List Token} (z : State) → Takes at (kind.Punctuator mark.RightParen) z.0 rest →
    ended_in z.0 ≡ true
close_ends z t = rw (taken t) refl

pub grouped_base : (at : ℕ) (d : Declarator) → DeclaratorRead d → DeclaratorRead (declarator.Grouped at d)
unfolding suffixed_at grouped_declarator_at
grouped_base at d a = rw form-Grouped (from_reach _ _ (λ where_ s z x. inl (rw (taken x.1) refl))
    (λ below where_ s z x fits low omits.
    let f = form d in
    let g = split (group_parts where_) (holds (not f.omitted) ∷ (f.parts where_ ++ takes_mark mark.RightParen ∷ []))
    (x.0, s.1) z x.2 in
    let same = group_same where_ (x.0, s.1) g.0 g.1 in
    let y = subst (λ (q : State). Spans (f.parts where_ ++ takes_mark mark.RightParen ∷ []) q z) (sym same.0) g.2.1 in
    let p = split (f.parts where_) (takes_mark mark.RightParen ∷ []) (x.0, s.1) z y in
    let close = present_close d where_ (x.0, s.1) p.0 p.1 g.2.0 in
    let group : (may_omit where_ && begins_parameters (x.0, s.1)) ≡ false = and_false _ _ (λ may. or_false _ _ close
    (same.1 may)) in
    let read = inner_declarator d a below where_ (x.0, s.1) p.0 p.1 (fits_same where_ _ f refl fits) (omega arith)
    (close_ends p.0 p.2.2) in
    record {
      bound = suc (length z.0);
      enough = omega arith;
      reads = rw (taken x.1, group, read, taken p.2.2) (ap (λ (q : State). suffixes_at (rules below) (suc below)
          where_ (suc (length q.0)) (declarator.Grouped at d) q) p.2.3);
    }))

qualifier_is : (q : Qualifier) → qualifier_of (qualifier_keyword q) ≡ Some q
qualifier_is qualifier.Const = refl
qualifier_is qualifier.Restrict = refl
qualifier_is qualifier.Volatile = refl

qualifier_spelling : Spelling a_qualifier (λ q. kind.Keyword (qualifier_keyword q)) qualifier_parts
qualifier_spelling = record { is = qualifier_is; none = refl; more = λ x xs. refl }

declares_qualifier : (k : TokenKind) → declares_by k ≡ true → a_qualifier k ≡ None
declares_qualifier (kind.Keyword k) h = cc
declares_qualifier _ h = refl

ends_qualifier : (k : TokenKind) → ends_declarator k ≡ true → a_qualifier k ≡ None
ends_qualifier (kind.Keyword keyword.Asm) h = refl
ends_qualifier (kind.Keyword _) h = cc
ends_qualifier _ h = refl

declares_no_qualifier : (tokens : List Token) → declares_in tokens ≡ true → begins_by a_qualifier tokens ≡ false
declares_no_qualifier [] h = cc
declares_no_qualifier (t ∷ rest) h = rw (declares_qualifier t.kind h) refl

ended_no_qualifier : (tokens : List Token) → ended_in tokens ≡ true → begins_by a_qualifier tokens ≡ false
ended_no_qualifier [] h = refl
ended_no_qualifier (t ∷ rest) h = rw (ends_qualifier t.kind h) refl

target_begins : (d : Declarator) (where_ : DeclaratorPlace) (s z : State) → Spans ((form d).parts where_) s z →
    ended_in z.0 ≡ true → begins_by a_qualifier s.0 ≡ false
target_begins d where_ s z x ended =
    elim ((heads d).any where_ s z x) [
      | inl b ↦ declares_no_qualifier s.0 b
      | inr o ↦ ap (λ (q : State). begins_by a_qualifier q.0) o.1 ∙ ended_no_qualifier z.0 ended
    ]

pub pointer_base : (at : ℕ) (qualifiers : List Qualifier) (target : Declarator) → DeclaratorRead target →
    DeclaratorRead (declarator.Pointer at qualifiers target)
unfolding declarator_by pointer_at
pointer_base at qualifiers target a = rw form-Pointer (record {
  ends = λ below where_ s z x fits low ended.
      let p = split (qualifier_parts qualifiers) ((form target).parts where_) (x.0, s.1) z x.2 in
      let run = run_read a_qualifier (λ q. kind.Keyword (qualifier_keyword q)) qualifier_parts qualifier_spelling
      (suc (length x.0)) qualifiers (x.0, s.1) p.0 (omega arith) p.1 (target_begins target where_ p.0 z p.2
      ended) in
      let read = inner_declarator target a below where_ p.0 z p.2 (fits_same where_ _ (form target) refl fits)
      (omega arith) ended in
      rw (taken x.1, run, read) refl;
  reach = λ below where_ s z x fits low le omits. absurd (omega arith);
})

-- ---- arrays (C99 6.7.5.2)

array_word_is : (w : ArrayWord) → array_word_of (array_word_keyword w) ≡ Some w
array_word_is (array_word.Qualifier qualifier.Const) = refl
array_word_is (array_word.Qualifier qualifier.Restrict) = refl
array_word_is (array_word.Qualifier qualifier.Volatile) = refl
array_word_is array_word.Static = refl

array_word_spelling : Spelling an_array_word (λ w. kind.Keyword (array_word_keyword w)) array_word_parts
array_word_spelling = record { is = array_word_is; none = refl; more = λ x xs. refl }

opening_word : (k : TokenKind) → opening k ≡ true → an_array_word k ≡ None
opening_word (kind.Keyword keyword.Sizeof) h = refl
opening_word (kind.Keyword _) h = cc
opening_word _ h = refl

opening_no_word : (tokens : List Token) → opening_in tokens ≡ true → begins_by an_array_word tokens ≡ false
opening_no_word [] h = cc
opening_no_word (t ∷ rest) h = rw (opening_word t.kind h) refl

length_no_word : (e : Option Expr) (s m : State) → Spans (length_parts (option_map shape e)) s m →
    {at : ℕ} {rest : List Token} → Takes at (kind.Punctuator mark.RightBracket) m.0 rest → begins_by an_array_word
    s.0 ≡ false
length_no_word None s m x t = ap (λ (q : State). begins_by an_array_word q.0) x ∙ rw (taken t) refl
length_no_word (Some e) s m x t = opening_no_word s.0 (starts e s m x.1).opens

length_read : (below : ℕ) (e : Option Expr) (s m : State) → Maybe ExprRead e →
    Spans (length_parts (option_map shape e)) s m → height_of (option_map shape e) ≤ below →
    {at : ℕ} {rest : List Token} → Takes at (kind.Punctuator mark.RightBracket) m.0 rest → length_at (rules below) s ≡
    Some (e, m)
unfolding length_at
length_read below None s m a x low t =
    let f : begins mark.RightBracket s ≡ true = ap (begins mark.RightBracket) x ∙ rw (taken t) refl in
    rw f (ap (λ (q : State). Some (None, q)) x)
length_read below (Some e) s m a x low t =
    let o : begins mark.RightBracket s ≡ false = not_opening mark.RightBracket s.0 (starts e s m x.1).opens refl in
    let loose = close_bound m t (omega arith) in
    let read = inner e a below 15 s m x.1 x.0 low (omega arith) in
    rw (o, read) refl

pub array_base : (at : ℕ) (element : Declarator) (words : List ArrayWord) (length' : Option Expr) → DeclaratorRead
    element → Maybe ExprRead length' → DeclaratorRead (declarator.Array at element words length')
unfolding array_at
array_base at element words e a b = from_reach _ _
    (λ where_ s z x. (heads (declarator.Array at element words e)).direct where_ s z x (rw form-Array (omega arith)))
    (λ below where_ s z. rw form-Array (λ (x : _) fits low omits.
    let p = split ((form element).parts where_) _ s z x.1 in
    let m = length_parts (option_map shape e) ++ takes_mark mark.RightBracket ∷ [] in
    let w = split (array_word_parts words) m (p.2.0, p.0.1) z p.2.2 in
    let q = split (length_parts (option_map shape e)) (takes_mark mark.RightBracket ∷ []) w.0 z w.2 in
    let r = a.reach below where_ s p.0 p.1 (fits_same where_ _ (form element) refl fits) (omega arith) x.0
    (omits_bracket below where_ p.0 p.2.1) in
    let run = run_read an_array_word (λ w. kind.Keyword (array_word_keyword w)) array_word_parts array_word_spelling
    (suc (length p.2.0)) words (p.2.0, p.0.1) w.0 (omega arith) w.1 (length_no_word e w.0 q.0 q.1 q.2.2) in
    let read = length_read below e w.0 q.0 b q.1 (omega arith) q.2.2 in
    let adds : suffix_in (rules below) where_ element p.0.0 p.0.1 ≡ Some (declarator.Array at element words e, z) =
    rw (taken p.2.1, run, read, taken q.2.2) (ap (λ (v : State). Some (declarator.Array at element words e, v))
    q.2.3) in
    grown_by below where_ s p.0 z element (declarator.Array at element words e) r.bound r.enough r.reads
    (rw (taken p.2.1) refl) adds (rw form-Array low) (behind at _ p.2.0 p.0 z (array_word_parts words ++ m) p.2.1
    p.2.2)))

-- ---- parameters and type names

declaring_same : (name : Option Name) (is_type : Bool) (s z : State) → Spans (declaring name is_type) s z →
    with_name name is_type s ≡ z
declaring_same None is_type s z x = x
declaring_same (Some name) is_type s z x = x

declaring_tokens : (name : Option Name) (is_type : Bool) (s z : State) → Spans (declaring name is_type) s z → s.0 ≡ z.0
declaring_tokens None is_type s z x = ap (λ (q : State). q.0) x
declaring_tokens (Some name) is_type s z x = ap (λ (q : State). q.0) x

-- what stands behind the specifiers before a declarator that may be omitted
abstract_start : (d : Declarator) (where_ : DeclaratorPlace) (s z : State) → Spans ((form d).parts where_) s z →
    Ended z → (specifies_in true s.0 s.1 ≡ false) × (begins mark.LeftBrace s ≡ false)
abstract_start d where_ s z x h =
    elim ((heads d).any where_ s z x) [
      | inl b ↦ let n = no_specifier s.0 b in (n.typed s.1, n.brace)
      | inr o ↦ (
        ap (λ (q : State). specifies_in true q.0 q.1) o.1 ∙ ended_typed true z.0 z.1 h.ended,
        ap (begins mark.LeftBrace) o.1 ∙ h.no_brace,
      )
    ]

pub parameter_read : (x : Parameter) → Each SpecifierRead x.specifiers → DeclaratorRead x.declarator → ParameterRead x
unfolding parameter_at
parameter_read x a b below s z = rw parameter-is (λ (y : _) low h.
    let f = form x.declarator in
    let p = split (specification (all_specified x.specifiers)) (f.parts place.Parameter ++ declaring f.name false) s z
    y in
    let q = split (f.parts place.Parameter) (declaring f.name false) p.0 z p.2 in
    let same = declaring_tokens f.name false q.0 z q.2 in
    let h' : Ended q.0 = record { ended = rw same h.ended; no_brace = rw same h.no_brace } in
    let start = abstract_start x.declarator place.Parameter p.0 q.0 q.1 h' in
    let xs = specification_read below x.specifiers s p.0 a (omega arith) p.1 start.0 start.1 in
    let d = inner_declarator x.declarator b below place.Parameter p.0 q.0 q.1 refl (omega arith) h'.ended in
    rw (xs, d) (ap (λ (w : State). Some (x, w)) (declaring_same f.name false q.0 z q.2)))

pub type_name_read : (x : TypeName) → Each SpecifierRead x.specifiers → DeclaratorRead x.declarator → TypeNameRead x
unfolding type_name_at
type_name_read x a b below s z = rw type-name-is (λ (y : _) low h.
    let f = form x.declarator in
    let p = split (specification (all_specified x.specifiers)) (holds (not (is_named f)) ∷ f.parts place.TypeName) s z
    y in
    let start = abstract_start x.declarator place.TypeName p.0 z p.2.1 h in
    let xs = specification_read below x.specifiers s p.0 a (omega arith) p.1 start.0 start.1 in
    let d = inner_declarator x.declarator b below place.TypeName p.0 z p.2.1 p.2.0 (omega arith) h.ended in
    rw (xs, d) refl)

-- ---- functions (C99 6.7.5.3)

before_close : {at : ℕ} {rest : List Token} (z : State) → Takes at (kind.Punctuator mark.RightParen) z.0 rest → Ended z
before_close z t = record { ended = rw (taken t) refl; no_brace = rw (taken t) refl }

before_comma : {at : ℕ} {rest : List Token} (z : State) → Takes at (kind.Punctuator mark.Comma) z.0 rest → Ended z
before_comma z t = record { ended = rw (taken t) refl; no_brace = rw (taken t) refl }

-- what stands behind a parameter in the list
parameter_ended : (xs : List Parameter) (variadic : Bool) (s m : State) → Spans (later (map parameter_of xs) ++
    variadic_parts variadic) s m → {at : ℕ} {rest : List Token} → Takes at (kind.Punctuator mark.RightParen) m.0
    rest → Ended s
parameter_ended [] true s m y t = before_comma s y.2
parameter_ended [] false s m y t = subst Ended (sym y) (before_close m t)
parameter_ended (x ∷ xs) variadic s m y t = before_comma s y.2

more_parameters_read : (below n : ℕ) (xs : List Parameter) (variadic : Bool) (s m : State) → Each ParameterRead xs →
    length s.0 < n → highest (map parameter_of xs) ≤ below → Spans (later (map parameter_of xs) ++ variadic_parts
    variadic) s m → {at : ℕ} {rest : List Token} → Takes at (kind.Punctuator mark.RightParen) m.0 rest →
    more_parameters_at (rules below) n s ≡ Some ((xs, variadic), m)
unfolding more_parameters_at
more_parameters_read below zero xs variadic s m each enough low y t = absurd (omega arith)
more_parameters_read below (suc n) [] true s m each enough low y t =
    rw (taken y.2, taken y.3.2) (ap (λ (q : State). Some (([], true), q)) y.3.3)
more_parameters_read below (suc n) [] false s m each enough low y t =
    let e : begins mark.Comma s ≡ false = ap (begins mark.Comma) y ∙ rw (taken t) refl in
    rw e (ap (λ (q : State). Some (([], false), q)) y)
more_parameters_read below (suc n) (x ∷ xs) variadic s m each enough low y t =
    let q = split ((parameter_of x).parts ++ later (map parameter_of xs)) (variadic_parts variadic) (y.1, s.1) m y.3 in
    let p = split (parameter_of x).parts (later (map parameter_of xs)) (y.1, s.1) q.0 q.1 in
    let more = join (later (map parameter_of xs)) (variadic_parts variadic) p.0 q.0 m p.2 q.2 in
    let begun : begins mark.Ellipsis (y.1, s.1) ≡ false = specified_mark mark.Ellipsis y.1 s.1 false
    (parameter_begins x (y.1, s.1) p.0 p.1) in
    let read = each.0 below (y.1, s.1) p.0 p.1 (omega arith) (parameter_ended xs variadic p.0 m more t) in
    let l = one_less y.0 (kind.Punctuator mark.Comma) s.0 y.1 y.2 in
    let l' = no_more (parameter_of x).parts (y.1, s.1) p.0 p.1 in
    let reads = more_parameters_read below n xs variadic p.0 m each.1 (omega arith) (omega arith) more t in
    rw (taken y.2, begun, read, reads) refl

parameters_read : (below : ℕ) (xs : List Parameter) (variadic : Bool) (s m : State) → Each ParameterRead xs →
    highest (map parameter_of xs) ≤ below → Spans (parameter_parts (map parameter_of xs) variadic) s m →
    {at : ℕ} {rest : List Token} → Takes at (kind.Punctuator mark.RightParen) m.0 rest → parameters_at (rules below)
    s ≡ Some ((xs, variadic), m)
unfolding parameters_at
parameters_read below [] true s m each low y t = let none = y.0 in cc
parameters_read below [] false s m each low y t =
    let f : begins mark.RightParen s ≡ true = ap (begins mark.RightParen) y.1 ∙ rw (taken t) refl in
    rw f (ap (λ (q : State). Some (([], false), q)) y.1)
parameters_read below (x ∷ xs) variadic s m each low y t =
    let q = split ((parameter_of x).parts ++ later (map parameter_of xs)) (variadic_parts variadic) s m y in
    let p = split (parameter_of x).parts (later (map parameter_of xs)) s q.0 q.1 in
    let more = join (later (map parameter_of xs)) (variadic_parts variadic) p.0 q.0 m p.2 q.2 in
    let begun : begins mark.RightParen s ≡ false = specified_mark mark.RightParen s.0 s.1 false
    (parameter_begins x s p.0 p.1) in
    let read = each.0 below s p.0 p.1 (omega arith) (parameter_ended xs variadic p.0 m more t) in
    let reads = more_parameters_read below (suc (length p.0.0)) xs variadic p.0 m each.1 (omega arith) (omega arith)
    more t in
    rw (begun, read, reads) refl

-- a block just entered declares nothing
entered_typedef : (name : Name) (scope : Scope) → is_typedef name (entered scope) ≡ is_typedef name scope
unfolding is_typedef entered
entered_typedef name scope = refl

specifies_entered_by : (scope : Scope) (typed : Bool) (k : TokenKind) → specifies_by (entered scope) typed k ≡
    specifies_by scope typed k
specifies_entered_by scope typed (kind.Identifier name) =
    ap (λ (b : Bool). not typed && b) (entered_typedef name scope)
specifies_entered_by scope typed (kind.Keyword k) = refl
specifies_entered_by scope typed _ = refl

specifies_entered : (typed : Bool) (tokens : List Token) (scope : Scope) → specifies_in typed tokens (entered scope) ≡
    specifies_in typed tokens scope
specifies_entered typed [] scope = refl
specifies_entered typed (t ∷ rest) scope = specifies_entered_by scope typed t.kind

or_true : (b c : Bool) → c ≡ true → (b || c) ≡ true
or_true true c h = refl
or_true false c h = h

parameters_begin : (xs : List Parameter) (variadic : Bool) (tokens : List Token) (scope : Scope) (m : State) →
    Spans (parameter_parts (map parameter_of xs) variadic) (tokens, entered scope) m → {at : ℕ} {rest : List Token} →
    Takes at (kind.Punctuator mark.RightParen) m.0 rest → begins_parameters (tokens, scope) ≡ true
parameters_begin [] variadic tokens scope m y t =
    let f : begins mark.RightParen (tokens, scope) ≡ true = ap (λ (q : State). begins mark.RightParen q) y.1 ∙ rw
    (taken t) refl in
    rw f refl
parameters_begin (x ∷ xs) variadic tokens scope m y t =
    let q = split ((parameter_of x).parts ++ later (map parameter_of xs)) (variadic_parts variadic) (
      tokens,
      entered scope,
    ) m y in
    let p = split (parameter_of x).parts (later (map parameter_of xs)) (tokens, entered scope) q.0 q.1 in
    or_true _ _ (sym (specifies_entered false tokens scope) ∙ parameter_begins x (tokens, entered scope) p.0 p.1)

closing : (where_ : DeclaratorPlace) (derived : Bool) (ps : List Part) (s z : State) →
    Spans (closing_parts where_ derived ∷ ps) s z → Spans ps (s.0, closed_at where_ derived s.1) z
closing place.Declaration false ps s z x = x
closing place.Declaration true ps s z x = x
closing place.Member derived ps s z x = x
closing place.Parameter derived ps s z x = x
closing place.TypeName derived ps s z x = x

pub function_base : (at : ℕ) (result : Declarator) (parameters : List Parameter) (variadic : Bool) → DeclaratorRead
    result → Each ParameterRead parameters → DeclaratorRead (declarator.Function at result parameters variadic)
unfolding function_at
function_base at result xs variadic a each = from_reach _ _
    (λ where_ s z x. (heads (declarator.Function at result xs variadic)).direct where_ s z x
    (rw form-Function (omega arith))) (λ below where_ s z. rw form-Function (λ (x : _) fits low omits.
    let f = form result in
    let p = split (f.parts where_) _ s z x.1 in
    let end = closing_parts where_ f.derived ∷ takes_mark mark.RightParen ∷ [] in
    let m : State = (p.2.0, entered p.0.1) in
    let q = split (parameter_parts (map parameter_of xs) variadic) end m z p.2.2 in
    let c = closing where_ f.derived (takes_mark mark.RightParen ∷ []) q.0 z q.2 in
    let r = a.reach below where_ s p.0 p.1 (fits_same where_ _ f refl fits) (omega arith) x.0
    (omits_paren below where_ p.0 p.2.1 (parameters_begin xs variadic p.2.0 p.0.1 q.0 q.1 c.2)) in
    let read = parameters_read below xs variadic m q.0 each (omega arith) q.1 c.2 in
    let adds : suffix_in (rules below) where_ result p.0.0 p.0.1 ≡ Some (
      declarator.Function at result xs variadic,
      z,
    ) = rw (taken p.2.1, read, taken c.2) (ap (λ (v : State). Some (
      declarator.Function at result xs variadic,
      v,
    )) c.3) in
    grown_by below where_ s p.0 z result (declarator.Function at result xs variadic) r.bound r.enough r.reads
    (rw (taken p.2.1) refl) adds (rw form-Function low) (behind at _ p.2.0 p.0 z (opens ∷
    (parameter_parts (map parameter_of xs) variadic ++ end)) p.2.1 p.2.2)))
