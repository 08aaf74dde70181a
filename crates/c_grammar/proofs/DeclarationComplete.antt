-- What the grammar derives is read: initializers and declarations.
use Rattle.std.proofs.Common.{
  ◌≡◌,
  ◌≤◌,
  ◌<◌,
  ℕ,
  zero,
  suc,
  List,
  [],
  ◌∷◌,
  ◌++◌,
  length,
  Option,
  Some,
  None,
  Bool,
  true,
  false,
  refl,
  sym,
  ap,
  ◌∙◌,
  subst,
  arith,
}
use Rattle.std.specs.Prelude.{map}
use Rattle.c_language.specs.declared.token.Token.{Token}
use Rattle.c_language.specs.declared.token.TokenKind.{TokenKind}
use Rattle.c_language.specs.declared.token.TokenKind.TheVariants as kind
use Rattle.c_language.specs.declared.token.Keyword.TheVariants as keyword
use Rattle.c_language.specs.declared.token.Punctuator.TheVariants as mark
use Rattle.c_language.specs.declared.expr.Expr.{Expr}
use Rattle.c_language.specs.declared.expr.Specifier.{Specifier}
use Rattle.c_language.specs.declared.expr.Declarator.{Declarator}
use Rattle.c_language.specs.declared.unit.Designator.{Designator}
use Rattle.c_language.specs.declared.unit.Designator.TheVariants as designator
use Rattle.c_language.specs.declared.unit.Initializer.{Initializer}
use Rattle.c_language.specs.declared.unit.Initializer.TheVariants as initial
use Rattle.c_language.specs.declared.unit.InitializerItem.{InitializerItem}
use Rattle.c_language.specs.declared.unit.InitDeclarator.{InitDeclarator}
use Rattle.c_language.specs.declared.unit.Declaration.{Declaration}
use Rattle.c_grammar.specs.declared.declarator_place.DeclaratorPlace.TheVariants as place
use Rattle.c_grammar.specs.Parts.{declares, State, Takes, Spans, forgetting}
use Rattle.c_grammar.specs.Grammar.{
  Piece,
  shape,
  form,
  ended_in,
  all_specified,
  specification,
  highest,
  takes_mark,
  later,
  comma_if,
  more_literals,
}
use Rattle.c_grammar.specs.Reading.{Rules, rules, begins, begins_keyword, binds, a_literal}
use Rattle.c_grammar.specs.Units.{
  designator_piece,
  joined_designators,
  designation,
  items_parts,
  initializer_of,
  item_of,
  makes_types,
  name_of,
  declaring_parts,
  assembler_parts,
  initializer_parts,
  initializer_height,
  rest_parts,
  init_piece,
  declaration_of,
}
use Rattle.c_grammar.specs.UnitReading.{
  Inside,
  is_designator,
  designated,
  member_designator_at,
  element_designator_at,
  designators_at,
  designated_item_at,
  plain_item_at,
  item_at,
  more_items_at,
  items_at,
  initializer_list_at,
  initializer_by,
  initializer_at,
  declaring_at,
  assembler_name_at,
  assembler_at,
  initialized_at,
  rest_at,
  init_at,
  more_inits_at,
  declaration_behind_at,
  declaration_at,
}
use Rattle.c_grammar.proofs.Spans.{split, no_more, one_less}
use Rattle.c_grammar.proofs.Begins.{taken, opening, opening_in, starts, not_opening}
use Rattle.c_grammar.proofs.Read.{Spelling, run_read}
use Rattle.c_grammar.proofs.UnitEquations.{
  initializer-Value,
  initializer-List,
  item-is,
  EachValue,
  InitialSteps,
  of_initializer,
}
use Rattle.c_grammar.proofs.UnitBegins.{
  CompleteBelow,
  split_first,
  AfterInit,
  by_semicolon,
  by_later,
  by_initializer,
  by_rest,
  declaring_begins,
  Pieces,
  pieces,
  after_first,
}

-- ---- how an initializer begins

not_designator : (k : TokenKind) → opening k ≡ true → is_designator k ≡ false
not_designator (kind.Punctuator mark.Dot) h = cc
not_designator (kind.Punctuator mark.LeftBracket) h = cc
not_designator _ h = refl

not_designated : (tokens : List Token) → opening_in tokens ≡ true → designated tokens ≡ false
not_designated [] h = cc
not_designated (t ∷ rest) h = not_designator t.kind h

record Begun (x : Initializer) : Type 0 where
  no_brace : (s z : State) → Spans (initializer_of x).parts s z → begins mark.RightBrace s ≡ false
  plain : (s z : State) → Spans (initializer_of x).parts s z → designated s.0 ≡ false
  tall : 0 < (initializer_of x).height

begun_steps : InitialSteps Begun
begun_steps = record {
  on_value = λ value. record {
    no_brace =
        λ s z. rw initializer-Value (λ (x : _). not_opening mark.RightBrace s.0 (starts value s z x.1).opens refl);
    plain = λ s z. rw initializer-Value (λ (x : _). not_designated s.0 (starts value s z x.1).opens);
    tall = rw initializer-Value (omega arith);
  };
  on_list = λ at items trailing each. record {
    no_brace = λ s z. rw initializer-List (λ (x : _). rw (taken x.1) refl);
    plain = λ s z. rw initializer-List (λ (x : _). rw (taken x.1) refl);
    tall = rw initializer-List (omega arith);
  };
}

begun : (x : Initializer) → Begun x
begun x = of_initializer Begun begun_steps x

-- ---- items

designators_begin : (d : Designator) (ds : List Designator) (s z : State) → Spans (joined_designators (d ∷ ds)) s z →
    (designated s.0 ≡ true) × (begins mark.RightBrace s ≡ false)
designators_begin (designator.Member at name) ds s z x = (rw (taken x.1) refl, rw (taken x.1) refl)
designators_begin (designator.Element at index) ds s z x = (rw (taken x.1) refl, rw (taken x.1) refl)

designators_again : (limit : ℕ) (r : Rules) → CompleteBelow limit r → (n : ℕ) (ds : List Designator) (s m : State) →
    length s.0 < n → highest (map designator_piece ds) ≤ limit → Spans (joined_designators ds) s m → designated m.0 ≡
    false → designators_at r n s ≡ Some (ds, m)
unfolding designators_at member_designator_at element_designator_at
designators_again limit r c zero ds s m enough low y ends = absurd (omega arith)
designators_again limit r c (suc n) [] s m enough low y ends =
    let e : designated s.0 ≡ false = rw y ends in rw e (ap (λ (q : State). Some ([], q)) y)
designators_again limit r c (suc n) (designator.Member at name ∷ ds) s m enough low y ends =
    let l = one_less at (kind.Punctuator mark.Dot) s.0 y.0 y.1 in
    let l' = one_less y.2.0 (kind.Identifier name) y.0 y.2.1 y.2.2 in
    let more = designators_again limit r c n ds (y.2.1, s.1) m (omega arith) (omega arith) y.2.3 ends in
    rw (taken y.1, taken y.2.2, more) refl
designators_again limit r c (suc n) (designator.Element at index ∷ ds) s m enough low y ends =
    let l = one_less at (kind.Punctuator mark.LeftBracket) s.0 y.0 y.1 in
    let p = split_first (shape index).parts (takes_mark mark.RightBracket ∷ []) (joined_designators ds) (y.0, s.1) m
    y.2.1 in
    let l' = no_more (shape index).parts (y.0, s.1) p.0 p.1 in
    let l'' = one_less p.2.0 (kind.Punctuator mark.RightBracket) p.0.0 p.2.1 p.2.2 in
    let read = c.expr 14 (y.0, s.1) p.0 index (record { spans = p.1; fits = y.2.0; low = omega arith })
    (rw (taken p.2.2) (omega arith)) in
    let more = designators_again limit r c n ds (p.2.1, p.0.1) m (omega arith) (omega arith) p.2.3 ends in
    rw (taken y.1, read, taken p.2.2, more) refl

-- an initializer that stands inside is read
abbrev ReadInside : ℕ → Inside → Initializer → Type 0
ReadInside limit inside x =
    (s z : State) → Spans (initializer_of x).parts s z → (initializer_of x).height ≤ limit → 15 < binds z →
    inside s ≡ Some (x, z)

module _ (limit : ℕ) (r : Rules) (c : CompleteBelow limit r) (inside : Inside) where
  item_by : (ds : List Designator) (v : Initializer) (s z : State) → ReadInside limit inside v →
      highest (map designator_piece ds) ≤ limit → (initializer_of v).height ≤ limit → 15 < binds z →
      Spans (designation ds ++ (initializer_of v).parts) s z → item_at r inside s ≡ Some (
        record {
          designators = ds;
          value = v;
        },
        z,
      )
  unfolding designated_item_at plain_item_at
  item_by [] v s z reads low low' loose x =
      let b = (begun v).plain s z x in
      let read = reads s z x low' loose in
      rw (b, read) refl
  item_by (d ∷ ds) v s z reads low low' loose x =
      let p = split_first (joined_designators (d ∷ ds)) (takes_mark mark.Equal ∷ []) (initializer_of v).parts s z x in
      let b = (designators_begin d ds s p.0 p.1).0 in
      let heads = designators_again limit r c (suc (length s.0)) (d ∷ ds) s p.0 (omega arith) low p.1
      (rw (taken p.2.2) refl) in
      let read = reads (p.2.1, p.0.1) z p.2.3 low' loose in
      rw (b, heads, taken p.2.2, read) refl

  item_again : (x : InitializerItem) (s z : State) → ReadInside limit inside x.value → Spans (item_of x).parts s z →
      (item_of x).height ≤ limit → 15 < binds z → item_at r inside s ≡ Some (x, z)
  item_again x s z reads y low loose =
      let y' = subst (λ (p : Piece). Spans p.parts s z) (item-is x) y in
      let low'' = subst (λ (p : Piece). p.height ≤ limit) (item-is x) low in
      item_by x.designators x.value s z reads (omega arith) (omega arith) loose y'

item_no_brace_by : (ds : List Designator) (v : Initializer) (s z : State) → Spans (designation ds ++
    (initializer_of v).parts) s z → begins mark.RightBrace s ≡ false
item_no_brace_by [] v s z x = (begun v).no_brace s z x
item_no_brace_by (d ∷ ds) v s z x =
    let p = split_first (joined_designators (d ∷ ds)) (takes_mark mark.Equal ∷ []) (initializer_of v).parts s z x in
    (designators_begin d ds s p.0 p.1).1

item_no_brace : (x : InitializerItem) (s z : State) → Spans (item_of x).parts s z → begins mark.RightBrace s ≡ false
item_no_brace x s z y =
    item_no_brace_by x.designators x.value s z (subst (λ (p : Piece). Spans p.parts s z) (item-is x) y)

-- behind an item
items_loose : (xs : List InitializerItem) (trailing : Bool) (s m : State) → Spans (later (map item_of xs) ++
    comma_if trailing) s m → 15 < binds m → 15 < binds s
items_loose [] false s m y h = subst (λ (q : State). 15 < binds q) (sym y) h
items_loose [] true s m y h = rw (taken y.2) (omega arith)
items_loose (x ∷ xs) trailing s m y h = rw (taken y.2) (omega arith)

-- ---- initializers

module _ (complete : (limit : ℕ) → CompleteBelow limit (rules limit)) where
  record Again (x : Initializer) : Type 0 where
    reads : (below : ℕ) (s z : State) → Spans (initializer_of x).parts s z → (initializer_of x).height ≤ suc below →
        15 < binds z → initializer_at (suc below) s ≡ Some (x, z)

  inner : (x : Initializer) → Again x → (limit : ℕ) → ReadInside limit (initializer_at limit) x
  inner x a zero s z y low loose = absurd (omega (arith, (begun x).tall))
  inner x a (suc below) s z y low loose = a.reads below s z y low loose

  more_items_again : (limit n : ℕ) (xs : List InitializerItem) (trailing : Bool) (s m : State) (at : ℕ)
      (rest : List Token) → EachValue Again xs → length s.0 < n → highest (map item_of xs) ≤ limit →
      Spans (later (map item_of xs) ++ comma_if trailing) s m → Takes at (kind.Punctuator mark.RightBrace) m.0 rest →
      more_items_at (rules limit) (initializer_at limit) n s ≡ Some ((xs, trailing), m)
  unfolding more_items_at
  more_items_again limit zero xs trailing s m at rest each enough low y t = absurd (omega arith)
  more_items_again limit (suc n) [] false s m at rest each enough low y t =
      let e : begins mark.Comma s ≡ false = rw (y, taken t) refl in
      rw e (ap (λ (q : State). Some (([], false), q)) y)
  more_items_again limit (suc n) [] true s m at rest each enough low y t =
      let b : begins mark.RightBrace (y.1, s.1) ≡ true = ap (begins mark.RightBrace) y.3 ∙ rw (taken t) refl in
      rw (taken y.2, b) (ap (λ (q : State). Some (([], true), q)) y.3)
  more_items_again limit (suc n) (x ∷ xs) trailing s m at rest each enough low y t =
      let p = split_first (item_of x).parts (later (map item_of xs)) (comma_if trailing) (y.1, s.1) m y.3 in
      let l = one_less y.0 (kind.Punctuator mark.Comma) s.0 y.1 y.2 in
      let l' = no_more (item_of x).parts (y.1, s.1) p.0 p.1 in
      let b = item_no_brace x (y.1, s.1) p.0 p.1 in
      let read = item_again limit (rules limit) (complete limit) (initializer_at limit) x (y.1, s.1) p.0
      (inner x.value each.0 limit) p.1 (omega arith) (items_loose xs trailing p.0 m p.2
      (rw (taken t) (omega arith))) in
      let more = more_items_again limit n xs trailing p.0 m at rest each.1 (omega arith) (omega arith) p.2 t in
      rw (taken y.2, b, read, more) refl

  items_again : (limit : ℕ) (xs : List InitializerItem) (trailing : Bool) (s m : State) (at : ℕ) (rest : List Token) →
      EachValue Again xs → highest (map item_of xs) ≤ limit → Spans (items_parts (map item_of xs) trailing) s m →
      Takes at (kind.Punctuator mark.RightBrace) m.0 rest → items_at (rules limit) (initializer_at limit) s ≡ Some
      ((xs, trailing), m)
  unfolding items_at
  items_again limit [] false s m at rest each low y t =
      let e : begins mark.RightBrace s ≡ true = rw (y.1, taken t) refl in
      rw e (ap (λ (q : State). Some (([], false), q)) y.1)
  items_again limit [] true s m at rest each low y t = let e = y.0 in cc
  items_again limit (x ∷ xs) trailing s m at rest each low y t =
      let p = split_first (item_of x).parts (later (map item_of xs)) (comma_if trailing) s m y in
      let b = item_no_brace x s p.0 p.1 in
      let read = item_again limit (rules limit) (complete limit) (initializer_at limit) x s p.0
      (inner x.value each.0 limit) p.1 (omega arith) (items_loose xs trailing p.0 m p.2
      (rw (taken t) (omega arith))) in
      let more = more_items_again limit (suc (length p.0.0)) xs trailing p.0 m at rest each.1 (omega arith)
      (omega arith) p.2 t in
      rw (b, read, more) refl

  value_base : (value : Expr) → Again (initial.Value value)
  unfolding initializer_at initializer_by
  value_base value = record {
    reads = λ below s z. rw initializer-Value (λ (x : _) low loose.
        let b = not_opening mark.LeftBrace s.0 (starts value s z x.1).opens refl in
        let read = (complete below).expr 15 s z value (record { spans = x.1; fits = x.0; low = omega arith }) loose in
        rw (b, read) refl);
  }

  list_base : (at : ℕ) (items : List InitializerItem) (trailing : Bool) → EachValue Again items →
      Again (initial.List at items trailing)
  unfolding initializer_at initializer_by initializer_list_at
  list_base at items trailing each = record {
    reads = λ below s z. rw initializer-List (λ (x : _) low loose.
        let p = split (items_parts (map item_of items) trailing) (takes_mark mark.RightBrace ∷ []) (x.0, s.1) z x.2 in
        let read = items_again below items trailing (x.0, s.1) p.0 p.2.0 p.2.1 each (omega arith) p.1 p.2.2 in
        rw (taken x.1, read, taken p.2.2) (ap (λ (w : State). Some (initial.List at items trailing, w)) p.2.3));
  }

  again_steps : InitialSteps Again
  again_steps = record { on_value = value_base; on_list = list_base }

  pub initializer_again : (limit : ℕ) (x : Initializer) (s z : State) → Spans (initializer_of x).parts s z →
      (initializer_of x).height ≤ limit → 15 < binds z → initializer_at limit s ≡ Some (x, z)
  initializer_again limit x s z y low loose = inner x (of_initializer Again again_steps x) limit s z y low loose

-- ---- declarations

literals : Spelling a_literal (λ bytes. kind.StringLiteral bytes) more_literals
literals = record { is = λ x. refl; none = refl; more = λ x xs. refl }

assembler_again : (xs : List (List ℕ)) (s m : State) → Spans (assembler_parts xs) s m → begins_keyword keyword.Asm m ≡
    false → assembler_at s ≡ Some (xs, m)
unfolding assembler_name_at
assembler_again [] s m y ends =
    let e : begins_keyword keyword.Asm s ≡ false = rw y ends in rw e (ap (λ (q : State). Some ([], q)) y)
assembler_again (p ∷ ps) s m y ends =
    let a = y.3 in
    let b = a.3 in
    let q = split (more_literals ps) (takes_mark mark.RightParen ∷ []) (b.1, s.1) m b.3 in
    let run = run_read a_literal (λ bytes. kind.StringLiteral bytes) more_literals literals (suc (length b.1)) ps
    (b.1, s.1) q.0 (omega arith) q.1 (rw (taken q.2.2) refl) in
    rw (taken y.2, taken a.2, taken b.2, run, taken q.2.2) (ap (λ (w : State). Some (p ∷ ps, w)) q.2.3)

module _ (limit : ℕ) (r : Rules) (c : CompleteBelow limit r) (inside : Inside) (within : (x : Initializer) →
    ReadInside limit inside x) where
  pub declaring_again : (is_type : Bool) (d : Declarator) (s z : State) → Spans (declaring_parts is_type d) s z →
      (form d).height ≤ limit → ended_in z.0 ≡ true → declaring_at r is_type s ≡ Some (d, z)
  unfolding declaring_at
  declaring_again is_type d s z x low ends =
      let p = split ((form d).parts place.Declaration) (declares (name_of (form d)) is_type ∷ [])
      (s.0, forgetting s.1) z x.1 in
      let e : ended_in p.0.0 ≡ true = ap (λ (q : State). ended_in q.0) p.2 ∙ ends in
      let read = c.declarator (s.0, forgetting s.1) p.0 d (record { spans = p.1; named = x.0; low = low }) e in
      rw read (ap (λ (w : State). Some (d, w)) p.2)

  initialized_again : (x : Option Initializer) (s m : State) → Spans (initializer_parts x) s m → initializer_height
      x ≤ limit → AfterInit m → initialized_at inside s ≡ Some (x, m)
  unfolding initialized_at
  initialized_again None s m y low b =
      let e : begins mark.Equal s ≡ false = rw y b.no_equal in rw e (ap (λ (q : State). Some (None, q)) y)
  initialized_again (Some x) s m y low b =
      let read = within x (y.1, s.1) m y.3 low b.loose in
      rw (taken y.2, read) refl

  rest_again : (x : InitDeclarator) (s m : State) → Spans (rest_parts x) s m → initializer_height x.initializer ≤
      limit → AfterInit m → rest_at inside x.declarator s ≡ Some (x, m)
  unfolding rest_at
  rest_again x s m y low b =
      let p = split (assembler_parts x.assembler_name) (initializer_parts x.initializer) s m y in
      let label = assembler_again x.assembler_name s p.0 p.1 (by_initializer x.initializer p.0 m p.2 b).1 in
      let value = initialized_again x.initializer p.0 m p.2 low b in
      rw (label, value) refl

  init_again : (is_type : Bool) (x : InitDeclarator) (s z : State) → Spans (init_piece is_type x).parts s z →
      (init_piece is_type x).height ≤ limit → AfterInit z → init_at r inside is_type s ≡ Some (x, z)
  unfolding init_at
  init_again is_type x s z y low b =
      let p = split (declaring_parts is_type x.declarator) (rest_parts x) s z y in
      let read = declaring_again is_type x.declarator s p.0 p.1 (omega arith) (by_rest x p.0 z p.2 b).ended in
      let rest = rest_again x p.0 z p.2 (omega arith) b in
      rw (read, rest) refl

  more_inits_again : (is_type : Bool) (n : ℕ) (xs : List InitDeclarator) (s m : State) (at : ℕ) (rest : List Token) →
      length s.0 < n → highest (map (init_piece is_type) xs) ≤ limit → Spans (later (map (init_piece is_type) xs)) s
      m → Takes at (kind.Punctuator mark.Semicolon) m.0 rest → more_inits_at r inside is_type n s ≡ Some (xs, m)
  unfolding more_inits_at
  more_inits_again is_type zero xs s m at rest enough low y t = absurd (omega arith)
  more_inits_again is_type (suc n) [] s m at rest enough low y t =
      let e : begins mark.Comma s ≡ false = rw (y, taken t) refl in rw e (ap (λ (q : State). Some ([], q)) y)
  more_inits_again is_type (suc n) (x ∷ xs) s m at rest enough low y t =
      let p = split (init_piece is_type x).parts (later (map (init_piece is_type) xs)) (y.1, s.1) m y.3 in
      let l = one_less y.0 (kind.Punctuator mark.Comma) s.0 y.1 y.2 in
      let l' = no_more (init_piece is_type x).parts (y.1, s.1) p.0 p.1 in
      let read = init_again is_type x (y.1, s.1) p.0 p.1 (omega arith) (by_later is_type xs p.0 m p.2
      (by_semicolon m at rest t)) in
      let more = more_inits_again is_type n xs p.0 m at rest (omega arith) (omega arith) p.2 t in
      rw (taken y.2, read, more) refl

  pub behind_again : (xs : List Specifier) (d : InitDeclarator) (ds : List InitDeclarator) (s z : State) →
      (p : Pieces xs d ds s z) → highest (map (init_piece (makes_types xs)) (d ∷ ds)) ≤ limit → declaration_behind_at
      r inside xs d.declarator p.declared ≡ Some (
        record {
          specifiers = xs;
          declarators = d ∷ ds;
        },
        z,
      )
  unfolding declaration_behind_at
  behind_again xs d ds s z p low =
      let e = p.ends in
      let rest = rest_again d p.declared p.first p.rest (omega arith) (after_first xs d ds s z p) in
      let more = more_inits_again (makes_types xs) (suc (length p.first.0)) ds p.first p.listed e.0 e.1 (omega arith)
      (omega arith) p.more e.2 in
      rw (rest, more, taken e.2) (ap (λ (w : State). Some (record { specifiers = xs; declarators = d ∷ ds }, w)) e.3)

  declaration_by : (xs : List Specifier) (ds : List InitDeclarator) (s z : State) →
      Spans (declaration_of (record { specifiers = xs; declarators = ds })).parts s z →
      (declaration_of (record { specifiers = xs; declarators = ds })).height ≤ limit → declaration_at r inside s ≡
      Some (
        record {
          specifiers = xs;
          declarators = ds;
        },
        z,
      )
  unfolding declaration_at declaration_of
  declaration_by xs [] s z x low =
      let p = split (specification (all_specified xs)) (takes_mark mark.Semicolon ∷ []) s z x in
      let read = c.specifiers s p.0 xs p.1 (omega arith) (rw (taken p.2.2) refl) (rw (taken p.2.2) refl) in
      rw (read, taken p.2.2) (ap (λ (w : State). Some (record { specifiers = xs; declarators = [] }, w)) p.2.3)
  declaration_by xs (d ∷ ds) s z x low =
      let p = pieces xs d ds s z x in
      let n = declaring_begins (makes_types xs) d.declarator p.named p.declared p.declaring in
      let a = by_rest d p.declared p.first p.rest (after_first xs d ds s z p) in
      let read = c.specifiers s p.named xs p.specifiers (omega arith) (n.typed p.named.1) n.brace in
      let head = declaring_again (makes_types xs) d.declarator p.named p.declared p.declaring (omega arith) a.ended in
      let rest = behind_again xs d ds s z p (omega arith) in
      let b = n.semicolon in
      rw (read, b, head, rest) refl

  pub declaration_again : (d : Declaration) (s z : State) → Spans (declaration_of d).parts s z →
      (declaration_of d).height ≤ limit → declaration_at r inside s ≡ Some (d, z)
  declaration_again d s z x low = declaration_by d.specifiers d.declarators s z x low
