-- A brace group is cut where its brackets match, and only there.
use Rattle.std.proofs.Common.{
  ◌≡◌,
  List,
  [],
  ◌∷◌,
  ◌++◌,
  Option,
  Some,
  None,
  Bool,
  true,
  false,
  refl,
  sym,
  ap,
  ◌∙◌,
  subst,
  rules,
  append_assoc,
}
use Rattle.std.proofs.lemmas.Option.{same_Some}
use denote.Enum.Bare.{same_true}
use Rattle.c_language.specs.declared.token.Token.{Token}
use Rattle.c_language.specs.declared.token.TokenKind.{TokenKind}
use Rattle.c_language.specs.declared.token.TokenKind.TheVariants as kind
use Rattle.c_language.specs.declared.token.Punctuator.{Punctuator}
use Rattle.c_language.specs.declared.token.Punctuator.TheVariants as mark
use Rattle.c_language.specs.contracts.token.Punctuator.{the_type as punctuator_type}
use Rattle.c_grammar.specs.Parts.{is_punctuator}
use Rattle.c_grammar.specs.Units.{closer, closing, Matched, none, plain, group}
use Rattle.c_grammar.specs.UnitReading.{Cut, with_front, cut_by, cut, group_in}
use Rattle.c_grammar.proofs.Spans.{guarded}

-- ---- what matches is cut

abbrev prepend : List Token → Cut → Cut
prepend [] c = c
prepend (t ∷ ts) c = with_front t (prepend ts c)

prepend_append : (a b : List Token) (c : Cut) → prepend (a ++ b) c ≡ prepend a (prepend b c)
prepend_append [] b c = refl
prepend_append (t ∷ ts) b c = ap (with_front t) (prepend_append ts b c)

-- a closing bracket ends a group
closes_group : (k : TokenKind) (m : Punctuator) (c : Token) (ts : List Token) (ms : List Punctuator) → closer k ≡ Some
    m → c.kind ≡ kind.Punctuator m → cut (c ∷ ts) (m ∷ ms) ≡ with_front c (cut ts ms)
unfolding cut
closes_group (kind.Punctuator mark.LeftParen) m c ts ms h e =
    let f : c.kind ≡ kind.Punctuator mark.RightParen = rw (same_Some mark.RightParen m h) e in
    rw (← same_Some mark.RightParen m h) (rw f refl)
closes_group (kind.Punctuator mark.LeftBracket) m c ts ms h e =
    let f : c.kind ≡ kind.Punctuator mark.RightBracket = rw (same_Some mark.RightBracket m h) e in
    rw (← same_Some mark.RightBracket m h) (rw f refl)
closes_group (kind.Punctuator mark.LeftBrace) m c ts ms h e =
    let f : c.kind ≡ kind.Punctuator mark.RightBrace = rw (same_Some mark.RightBrace m h) e in
    rw (← same_Some mark.RightBrace m h) (rw f refl)
closes_group _ m c ts ms h e = cc

cut_matched : (inner : List Token) → Matched inner → (rest : List Token) (m : Punctuator) (ms : List Punctuator) →
    cut (inner ++ rest) (m ∷ ms) ≡ prepend inner (cut rest (m ∷ ms))
unfolding cut
cut_matched _ none rest m ms = refl
cut_matched _ (plain t ts a b x) rest m ms = rw (a, b) (ap (with_front t) (cut_matched ts x rest m ms))
cut_matched _ (group o c m' inner ts a b x y) rest m ms =
    let e : (inner ++ c ∷ ts) ++ rest ≡ inner ++ (c ∷ (ts ++ rest)) = append_assoc inner (c ∷ ts) rest in
    let p = cut_matched inner x (c ∷ (ts ++ rest)) m' (m ∷ ms) in
    let q = closes_group o.kind m' c (ts ++ rest) (m ∷ ms) a b in
    let r = cut_matched ts y rest m ms in
    let s : cut ((inner ++ c ∷ ts) ++ rest) (m' ∷ m ∷ ms) ≡ prepend (inner ++ c ∷ ts) (cut rest (m ∷ ms)) =
    ap (λ l. cut l (m' ∷ m ∷ ms)) e ∙ p ∙ ap (prepend inner) (q ∙ ap (with_front c) r) ∙ sym
    (prepend_append inner (c ∷ ts) (cut rest (m ∷ ms))) in
    rw a (ap (with_front o) s)

prepend_some : (inner more rest : List Token) → prepend inner (Some (more, rest)) ≡ Some (inner ++ more, rest)
prepend_some [] more rest = refl
prepend_some (t ∷ ts) more rest = ap (with_front t) (prepend_some ts more rest)

cut_last : (inner rest : List Token) (last : Token) → Matched inner → last.kind ≡ kind.Punctuator mark.RightBrace →
    cut (inner ++ last ∷ rest) (mark.RightBrace ∷ []) ≡ Some (inner ++ last ∷ [], rest)
unfolding cut
cut_last inner rest last x e =
    let p = cut_matched inner x (last ∷ rest) mark.RightBrace [] in
    let q = closes_group (kind.Punctuator mark.LeftBrace) mark.RightBrace last rest [] refl e in
    p ∙ ap (prepend inner) q ∙ prepend_some inner (last ∷ []) rest

pub group_again : (first last : Token) (inner rest : List Token) → first.kind ≡ kind.Punctuator mark.LeftBrace →
    Matched inner → last.kind ≡ kind.Punctuator mark.RightBrace → group_in (first ∷ (inner ++ last ∷ rest)) ≡ Some
    (first ∷ (inner ++ last ∷ []), rest)
group_again first last inner rest o x e = rw (o, cut_last inner rest last x e) refl

-- ---- what is cut matches

abbrev Unwinds : List Punctuator → List Token → Type 0
Unwinds [] g = g ≡ []
Unwinds (m ∷ ms) g =
    (inner : List Token) × (c : Token) × (more : List Token) × (g ≡ inner ++ c ∷ more) × Matched inner ×
    (c.kind ≡ kind.Punctuator m) × Unwinds ms more

front_some : (t : Token) (c : Cut) (g rest : List Token) → with_front t c ≡ Some (g, rest) → (g' : List Token) ×
    (g ≡ t ∷ g') × (c ≡ Some (g', rest))
front_some t None g rest h = cc
front_some t (Some x) g rest h =
    let e = same_Some (t ∷ x.0, x.1) (g, rest) h in (
      x.0,
      sym (ap (λ p. p.0) e),
      ap (λ r. Some (x.0, r))
          (ap (λ p. p.1) e),
    )

wanted_mark : (m : Punctuator) (k : TokenKind) → is_punctuator m k ≡ true → k ≡ kind.Punctuator m
wanted_mark m (kind.Punctuator n) h = ap (λ x. kind.Punctuator x) (same_true punctuator_type (search rules) n m h)
wanted_mark m _ h = cc

abbrev Cuts : List Token → List Punctuator → List Token → List Token → Type 0
Cuts ts ms g rest = (ts ≡ g ++ rest) × Unwinds ms g

case_cut : (t : Token) (ts : List Token) (m : Punctuator) (ms : List Punctuator) (o : Option Punctuator) (b w : Bool)
    (g rest : List Token) → closer t.kind ≡ o → closing t.kind ≡ b → is_punctuator m t.kind ≡ w →
    ((k : Punctuator) (h r : List Token) → cut ts (k ∷ m ∷ ms) ≡ Some (h, r) → Cuts ts (k ∷ m ∷ ms) h r) →
    ((h r : List Token) → cut ts (m ∷ ms) ≡ Some (h, r) → Cuts ts (m ∷ ms) h r) →
    ((h r : List Token) → cut ts ms ≡ Some (h, r) → Cuts ts ms h r) → cut_by o b w (λ k. cut ts (k ∷ m ∷ ms))
    (cut ts (m ∷ ms)) (cut ts ms) ≡ Some (g, rest) → Cuts (t ∷ ts) (m ∷ ms) (t ∷ g) rest
case_cut t ts m ms (Some k) b w g rest eo eb ew deeper same out h =
    let p = deeper k g rest h in
    let u = p.1 in
    let v = u.6 in
    let inner' = t ∷ (u.0 ++ u.1 ∷ v.0) in
    let e : t ∷ g ≡ inner' ++ v.1 ∷ v.2 = ap (λ l. t ∷ l) (u.3 ∙ ap (λ l. u.0 ++ u.1 ∷ l) v.3 ∙ sym
    (append_assoc u.0 (u.1 ∷ v.0) (v.1 ∷ v.2))) in
    (ap (λ l. t ∷ l) p.0, (inner', v.1, v.2, e, group t u.1 k u.0 v.0 eo u.5 u.4 v.4, v.5, v.6))
case_cut t ts m ms None true true g rest eo eb ew deeper same out h =
    let p = out g rest h in (ap (λ l. t ∷ l) p.0, ([], t, g, refl, none, wanted_mark m t.kind ew, p.1))
case_cut t ts m ms None true false g rest eo eb ew deeper same out h = cc
case_cut t ts m ms None false w g rest eo eb ew deeper same out h =
    let p = same g rest h in
    let u = p.1 in
    (ap (λ l. t ∷ l) p.0, (t ∷ u.0, u.1, u.2, ap (λ l. t ∷ l) u.3, plain t u.0 eo eb u.4, u.5, u.6))

cut_cuts : (ts : List Token) (ms : List Punctuator) (g rest : List Token) → cut ts ms ≡ Some (g, rest) →
    Cuts ts ms g rest
unfolding cut
cut_cuts ts [] g rest h =
    let e = same_Some ([], ts) (g, rest) h in (
      ap (λ p. p.1) e ∙ ap (λ l. l ++ rest) (ap (λ p. p.0) e),
      sym (ap (λ p. p.0) e),
    )
cut_cuts [] (m ∷ ms) g rest h = cc
cut_cuts (t ∷ ts) (m ∷ ms) g rest h =
    let a = front_some t _ g rest h in
    let x = case_cut t ts m ms (closer t.kind) (closing t.kind) (is_punctuator m t.kind) a.0 rest refl refl refl
    (λ k. cut_cuts ts (k ∷ m ∷ ms)) (cut_cuts ts (m ∷ ms)) (cut_cuts ts ms) a.2 in
    subst (λ (l : List Token). Cuts (t ∷ ts) (m ∷ ms) l rest) (sym a.1) x

-- a brace group in front of what is left
pub record IsGroup (tokens g rest : List Token) : Type 0 where
  pub first : Token
  pub inner : List Token
  pub last : Token
  pub is : tokens ≡ first ∷ (inner ++ last ∷ rest)
  pub whole : g ≡ first ∷ (inner ++ last ∷ [])
  pub starts : first.kind ≡ kind.Punctuator mark.LeftBrace
  pub ends : last.kind ≡ kind.Punctuator mark.RightBrace
  pub matched : Matched inner

pub group_takes : (tokens g rest : List Token) → group_in tokens ≡ Some (g, rest) → IsGroup tokens g rest
group_takes [] g rest h = cc
group_takes (t ∷ ts) g rest h =
    let a = guarded (is_punctuator mark.LeftBrace t.kind) _ _ h in
    let b = front_some t (cut ts (mark.RightBrace ∷ [])) g rest a.1 in
    let c = cut_cuts ts (mark.RightBrace ∷ []) b.0 rest b.2 in
    let u = c.1 in
    let e : b.0 ≡ u.0 ++ u.1 ∷ [] = u.3 ∙ ap (λ l. u.0 ++ u.1 ∷ l) u.6 in
    record {
      first = t;
      inner = u.0;
      last = u.1;
      is = ap (λ l. t ∷ l) (c.0 ∙ ap (λ l. l ++ rest) e ∙ append_assoc u.0 (u.1 ∷ []) rest);
      whole = b.1 ∙ ap (λ l. t ∷ l) e;
      starts = wanted_mark mark.LeftBrace t.kind a.0;
      ends = u.5;
      matched = u.4;
    }
