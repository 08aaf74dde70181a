-- What is read is what the grammar derives: initializers and declarations.
use Rattle.std.proofs.Common.{
  ◌≡◌,
  ◌≤◌,
  ℕ,
  zero,
  suc,
  List,
  [],
  ◌∷◌,
  ◌++◌,
  length,
  Option,
  Some,
  None,
  Bool,
  true,
  false,
  refl,
  sym,
  ◌∙◌,
  subst,
  arith,
  inl,
  inr,
}
use Rattle.std.specs.Prelude.{map}
use Rattle.c_language.specs.declared.token.Token.{Token}
use Rattle.c_language.specs.declared.token.TokenKind.{TokenKind}
use Rattle.c_language.specs.declared.token.TokenKind.TheVariants as kind
use Rattle.c_language.specs.declared.token.Keyword.TheVariants as keyword
use Rattle.c_language.specs.declared.token.Punctuator.TheVariants as mark
use Rattle.c_language.specs.declared.expr.Specifier.{Specifier}
use Rattle.c_language.specs.declared.expr.Declarator.{Declarator}
use Rattle.c_language.specs.declared.unit.Designator.{Designator}
use Rattle.c_language.specs.declared.unit.Designator.TheVariants as designator
use Rattle.c_language.specs.declared.unit.Initializer.{Initializer}
use Rattle.c_language.specs.declared.unit.Initializer.TheVariants as initial
use Rattle.c_language.specs.declared.unit.InitializerItem.{InitializerItem}
use Rattle.c_language.specs.declared.unit.InitDeclarator.{InitDeclarator}
use Rattle.c_language.specs.declared.unit.Declaration.{Declaration}
use Rattle.c_grammar.specs.declared.declarator_place.DeclaratorPlace.TheVariants as place
use Rattle.c_grammar.specs.Parts.{Part, takes, declares, Scope, State, Takes, Spans, forgetting, declared}
use Rattle.c_grammar.specs.Grammar.{
  shape,
  form,
  all_specified,
  specification,
  highest_specifier,
  takes_mark,
  highest,
  later,
  comma_if,
  more_literals,
}
use Rattle.c_grammar.specs.Reading.{
  Rules,
  rules,
  take_by,
  a_literal,
  expect,
  expect_keyword,
  name_at,
  begins,
  begins_keyword,
  run_at,
  specification_at,
}
use Rattle.c_grammar.specs.Units.{
  designator_piece,
  joined_designators,
  designation,
  items_parts,
  initializer_of,
  item_of,
  makes_types,
  name_of,
  declaring_parts,
  assembler_parts,
  initializer_parts,
  initializer_height,
  rest_parts,
  init_piece,
  declaration_of,
}
use Rattle.c_grammar.specs.UnitReading.{
  Inside,
  designated,
  member_designator_at,
  element_designator_at,
  designator_by,
  designator_in,
  designators_at,
  designated_item_at,
  plain_item_at,
  item_at,
  more_items_at,
  items_at,
  initializer_list_at,
  initializer_by,
  initializer_at,
  declaring_at,
  assembler_name_at,
  assembler_at,
  initialized_at,
  rest_at,
  init_at,
  more_inits_at,
  declaration_behind_at,
  no_declarators,
  declaration_at,
}
use Rattle.c_grammar.proofs.Spans.{
  join,
  bind_some,
  chosen,
  first_taken,
  take_at,
  expects,
  expects_at,
  expects_name,
  run_takes,
}
use Rattle.c_grammar.proofs.UnitEquations.{initializer-Value, initializer-List, item-is}
use Rattle.c_grammar.proofs.UnitSteps.{
  SoundBelow,
  found,
  Made,
  made_as,
  join_first,
  expects_keyword,
  expects_literal,
  literals_spelled,
}

-- how an initializer is read that stands inside is sound
abbrev pub SoundInside : ℕ → Inside → Type 0
SoundInside limit inside = (s z : State) (x : Initializer) → inside s ≡ Some (x, z) → Made limit (initializer_of x) s z

module _ (limit : ℕ) (r : Rules) (sound : SoundBelow limit r) where
  designator_takes_by : (s m z : State) (d : Designator) (at : ℕ) (k : TokenKind) → Takes at k s.0 m.0 → s.1 ≡ m.1 →
      designator_by r k at m ≡ Some (d, z) → Made limit (designator_piece d) s z
  unfolding member_designator_at element_designator_at
  designator_takes_by s m z d at (kind.Punctuator mark.Dot) t c h =
      let a = bind_some (name_at m) _ _ h in
      found (λ (p : Designator × State). Made limit (designator_piece p.0) s p.1) (designator.Member at a.0.0, a.0.2)
      (d, z) a.2 (
        take_at at (kind.Punctuator mark.Dot) (takes (kind.Identifier a.0.0) ∷ []) s m a.0.2 t c
            (expects_name [] m a.0.2 a.0 a.1 refl),
        omega arith,
      )
  designator_takes_by s m z d at (kind.Punctuator mark.LeftBracket) t c h =
      let a = bind_some (r.expr 14 m) _ _ h in
      let b = bind_some (expect mark.RightBracket a.0.1) _ _ a.2 in
      let e = sound.expr 14 m a.0.1 a.0.0 a.1 in
      let y = join (shape a.0.0).parts (takes_mark mark.RightBracket ∷ []) m a.0.1 b.0.2 e.spans
      (expects mark.RightBracket [] a.0.1 b.0.2 b.0 b.1 refl) in
      found (λ (p : Designator × State). Made limit (designator_piece p.0) s p.1) (designator.Element at a.0.0, b.0.2)
      (d, z) b.2 (
        (
          m.0,
          t,
          (
            e.fits,
            subst (λ (q : Scope). Spans ((shape a.0.0).parts ++ takes_mark mark.RightBracket ∷ [])
                (m.0, q) b.0.2) (sym c) y,
          ),
        ),
        e.low,
      )
  designator_takes_by s m z d at _ t c h = cc

  designator_takes : (tokens : List Token) (scope : Scope) (z : State) (d : Designator) → designator_in r tokens
      scope ≡ Some (d, z) → Made limit (designator_piece d) (tokens, scope) z
  designator_takes [] scope z d h = cc
  designator_takes (t ∷ rest) scope z d h =
      designator_takes_by (t ∷ rest, scope) (rest, scope) z d t.start t.kind (first_taken t rest) refl h

  designators_take : (n : ℕ) (s z : State) (ds : List Designator) → designators_at r n s ≡ Some (ds, z) →
      Spans (joined_designators ds) s z × (highest (map designator_piece ds) ≤ limit)
  unfolding designators_at
  designators_take zero s z ds h = cc
  designators_take (suc n) s z ds h =
      let P = λ (p : List Designator × State). Spans (joined_designators p.0) s p.1 ×
      (highest (map designator_piece p.0) ≤ limit) in
      elim (chosen (designated s.0) _ _ _ h) [
        | inl p ↦
            let a = bind_some (designator_in r s.0 s.1) _ _ p.1 in
            let b = bind_some (designators_at r n a.0.1) _ _ a.2 in
            let x = designator_takes s.0 s.1 a.0.1 a.0.0 a.1 in
            let y = designators_take n a.0.1 b.0.1 b.0.0 b.1 in
            found P (a.0.0 ∷ b.0.0, b.0.1) (ds, z) b.2 (
              join (designator_piece a.0.0).parts (joined_designators b.0.0)
                  s a.0.1 b.0.1 x.0 y.0,
              omega (arith, x.1, y.1),
            )
        | inr p ↦ found P ([], s) (ds, z) p.1 (refl, omega arith)
      ]

  -- where a designator begins, one is read
  designation_is : (n : ℕ) (s z : State) (ds : List Designator) → designated s.0 ≡ true → designators_at r (suc n) s ≡
      Some (ds, z) → designation ds ≡ joined_designators ds ++ takes_mark mark.Equal ∷ []
  unfolding designators_at
  designation_is n s z ds c h =
      elim (chosen (designated s.0) _ _ _ h) [
        | inl p ↦
            let a = bind_some (designator_in r s.0 s.1) _ _ p.1 in
            let b = bind_some (designators_at r n a.0.1) _ _ a.2 in
            found (λ (p : List Designator × State). designation p.0 ≡ joined_designators p.0 ++ takes_mark mark.Equal
            ∷ []) (a.0.0 ∷ b.0.0, b.0.1) (ds, z) b.2 refl
        | inr p ↦ let e = sym c ∙ p.0 in cc
      ]

  module _ (inside : Inside) (within : SoundInside limit inside) where
    item_takes : (s z : State) (x : InitializerItem) → item_at r inside s ≡ Some (x, z) → Made limit (item_of x) s z
    unfolding designated_item_at plain_item_at
    item_takes s z x h =
        let P = λ (p : InitializerItem × State). Made limit (item_of p.0) s p.1 in
        elim (chosen (designated s.0) _ _ _ h) [
          | inl p ↦
              let a = bind_some (designators_at r (suc (length s.0)) s) _ _ p.1 in
              let b = bind_some (expect mark.Equal a.0.1) _ _ a.2 in
              let c = bind_some (inside b.0.2) _ _ b.2 in
              let d = designators_take (suc (length s.0)) s a.0.1 a.0.0 a.1 in
              let e = designation_is (length s.0) s a.0.1 a.0.0 p.0 a.1 in
              let v = within b.0.2 c.0.1 c.0.0 c.1 in
              let item : InitializerItem = record { designators = a.0.0; value = c.0.0 } in
              let y = join (joined_designators a.0.0) (takes_mark mark.Equal ∷ []) s a.0.1 b.0.2 d.0
              (expects mark.Equal [] a.0.1 b.0.2 b.0 b.1 refl) in
              let y' = subst (λ (l : List Part). Spans l s b.0.2) (sym e) y in
              found P (item, c.0.1) (x, z) c.2
              (made_as limit (item_of item) _ s c.0.1 (item-is item) (
                join (designation a.0.0)
                    (initializer_of c.0.0).parts s b.0.2 c.0.1 y' v.0,
                omega (arith, d.1, v.1),
              ))
          | inr p ↦
              let c = bind_some (inside s) _ _ p.1 in
              let v = within s c.0.1 c.0.0 c.1 in
              let item : InitializerItem = record { designators = []; value = c.0.0 } in
              found P (item, c.0.1) (x, z) c.2 (made_as limit (item_of item) _ s c.0.1 (item-is item)
              (v.0, omega (arith, v.1)))
        ]

    more_items_take : (n : ℕ) (s z : State) (xs : List InitializerItem) (trailing : Bool) → more_items_at r inside n
        s ≡ Some ((xs, trailing), z) → Spans (later (map item_of xs) ++ comma_if trailing) s z ×
        (highest (map item_of xs) ≤ limit)
    unfolding more_items_at
    more_items_take zero s z xs trailing h = cc
    more_items_take (suc n) s z xs trailing h =
        let P = λ (p : (List InitializerItem × Bool) × State). Spans (later (map item_of p.0.0) ++ comma_if p.0.1) s
        p.1 × (highest (map item_of p.0.0) ≤ limit) in
        elim (chosen (begins mark.Comma s) _ _ _ h) [
          | inl p ↦
              let a = bind_some (expect mark.Comma s) _ _ p.1 in
              elim (chosen (begins mark.RightBrace a.0.2) _ _ _ a.2) [
                | inl q ↦ found P (([], true), a.0.2) ((xs, trailing), z) q.1 (
                  expects mark.Comma [] s a.0.2 a.0 a.1
                      refl,
                  omega arith,
                )
                | inr q ↦
                    let b = bind_some (item_at r inside a.0.2) _ _ q.1 in
                    let c = bind_some (more_items_at r inside n b.0.1) _ _ b.2 in
                    let x = item_takes a.0.2 b.0.1 b.0.0 b.1 in
                    let y = more_items_take n b.0.1 c.0.1 c.0.0.0 c.0.0.1 c.1 in
                    let w = join_first (item_of b.0.0).parts (later (map item_of c.0.0.0)) (comma_if c.0.0.1) a.0.2
                    b.0.1 c.0.1 x.0 y.0 in
                    found P ((b.0.0 ∷ c.0.0.0, c.0.0.1), c.0.1) ((xs, trailing), z) c.2 (
                      expects mark.Comma (((item_of b.0.0).parts ++ later (map item_of c.0.0.0)) ++ comma_if c.0.0.1) s
                          c.0.1 a.0 a.1 w,
                      omega (arith, x.1, y.1),
                    )
              ]
          | inr p ↦ found P (([], false), s) ((xs, trailing), z) p.1 (refl, omega arith)
        ]

    items_take : (s z : State) (xs : List InitializerItem) (trailing : Bool) → items_at r inside s ≡ Some
        ((xs, trailing), z) → Spans (items_parts (map item_of xs) trailing) s z × (highest (map item_of xs) ≤ limit)
    unfolding items_at
    items_take s z xs trailing h =
        let P = λ (p : (List InitializerItem × Bool) × State). Spans (items_parts (map item_of p.0.0) p.0.1) s p.1 ×
        (highest (map item_of p.0.0) ≤ limit) in
        elim (chosen (begins mark.RightBrace s) _ _ _ h) [
          | inl p ↦ found P (([], false), s) ((xs, trailing), z) p.1 ((refl, refl), omega arith)
          | inr p ↦
              let b = bind_some (item_at r inside s) _ _ p.1 in
              let c = bind_some (more_items_at r inside (suc (length b.0.1.0)) b.0.1) _ _ b.2 in
              let x = item_takes s b.0.1 b.0.0 b.1 in
              let y = more_items_take (suc (length b.0.1.0)) b.0.1 c.0.1 c.0.0.0 c.0.0.1 c.1 in
              found P ((b.0.0 ∷ c.0.0.0, c.0.0.1), c.0.1) ((xs, trailing), z) c.2 (
                join_first (item_of b.0.0).parts (later (map item_of c.0.0.0)) (comma_if c.0.0.1) s b.0.1 c.0.1 x.0
                    y.0,
                omega (arith, x.1, y.1),
              )
        ]

    initializer_takes_by : (s z : State) (x : Initializer) → initializer_by r inside s ≡ Some (x, z) →
        Made (suc limit) (initializer_of x) s z
    unfolding initializer_by initializer_list_at
    initializer_takes_by s z x h =
        let P = λ (p : Initializer × State). Made (suc limit) (initializer_of p.0) s p.1 in
        elim (chosen (begins mark.LeftBrace s) _ _ _ h) [
          | inl p ↦
              let a = bind_some (expect mark.LeftBrace s) _ _ p.1 in
              let b = bind_some (items_at r inside a.0.2) _ _ a.2 in
              let c = bind_some (expect mark.RightBrace b.0.1) _ _ b.2 in
              let i = items_take a.0.2 b.0.1 b.0.0.0 b.0.0.1 b.1 in
              let ps = items_parts (map item_of b.0.0.0) b.0.0.1 in
              let y = join ps (takes_mark mark.RightBrace ∷ []) a.0.2 b.0.1 c.0.2 i.0 (expects mark.RightBrace []
              b.0.1 c.0.2 c.0 c.1 refl) in
              found P (initial.List a.0.1 b.0.0.0 b.0.0.1, c.0.2) (x, z) c.2
              (made_as (suc limit) (initializer_of (initial.List a.0.1 b.0.0.0 b.0.0.1)) _ s c.0.2
              (initializer-List a.0.1 b.0.0.0 b.0.0.1) (
                expects_at mark.LeftBrace (ps ++ takes_mark mark.RightBrace ∷ []) s c.0.2 a.0 a.1 y,
                omega (arith, i.1),
              ))
          | inr p ↦
              let a = bind_some (r.expr 15 s) _ _ p.1 in
              let e = sound.expr 15 s a.0.1 a.0.0 a.1 in
              found P (initial.Value a.0.0, a.0.1) (x, z) a.2
              (made_as (suc limit) (initializer_of (initial.Value a.0.0)) _ s a.0.1 (initializer-Value a.0.0)
              ((e.fits, e.spans), omega (arith, e.low)))
        ]

    -- ---- declarations

    pub declaring_takes : (is_type : Bool) (s z : State) (d : Declarator) → declaring_at r is_type s ≡ Some (d, z) →
        Spans (declaring_parts is_type d) s z × ((form d).height ≤ limit)
    unfolding declaring_at
    declaring_takes is_type s z d h =
        let a = bind_some (r.declarator place.Declaration (s.0, forgetting s.1)) _ _ h in
        let e = sound.declarator place.Declaration (s.0, forgetting s.1) a.0.1 a.0.0 a.1 in
        let m : State = (a.0.1.0, declared (name_of (form a.0.0)) is_type a.0.1.1) in
        found (λ (p : Declarator × State). Spans (declaring_parts is_type p.0) s p.1 × ((form p.0).height ≤ limit))
        (a.0.0, m) (d, z) a.2 (
          (
            e.named,
            join ((form a.0.0).parts place.Declaration) (declares (name_of (form a.0.0)) is_type ∷ [])
                (s.0, forgetting s.1) a.0.1 m e.spans refl,
          ),
          e.low,
        )

    assembler_takes : (s z : State) (xs : List (List ℕ)) → assembler_at s ≡ Some (xs, z) → Spans (assembler_parts xs)
        s z
    unfolding assembler_name_at
    assembler_takes s z xs h =
        let P = λ (p : List (List ℕ) × State). Spans (assembler_parts p.0) s p.1 in
        elim (chosen (begins_keyword keyword.Asm s) _ _ _ h) [
          | inl p ↦
              let a = bind_some (expect_keyword keyword.Asm s) _ _ p.1 in
              let b = bind_some (expect mark.LeftParen a.0.2) _ _ a.2 in
              let c = bind_some (take_by a_literal b.0.2.0 b.0.2.1) _ _ b.2 in
              let d = bind_some (run_at a_literal (suc (length c.0.2.0)) c.0.2) _ _ c.2 in
              let e = bind_some (expect mark.RightParen d.0.1) _ _ d.2 in
              let more = run_takes a_literal (λ bytes. kind.StringLiteral bytes) more_literals literals_spelled
              (suc (length c.0.2.0)) c.0.2 d.0.1 d.0.0 d.1 in
              let ps = more_literals d.0.0 ++ takes_mark mark.RightParen ∷ [] in
              let y = join (more_literals d.0.0) (takes_mark mark.RightParen ∷ []) c.0.2 d.0.1 e.0.2 more
              (expects mark.RightParen [] d.0.1 e.0.2 e.0 e.1 refl) in
              let w = expects_literal ps b.0.2 e.0.2 c.0 c.1 y in
              found P (c.0.0 ∷ d.0.0, e.0.2) (xs, z) e.2
              (expects_keyword keyword.Asm (takes_mark mark.LeftParen ∷ takes (kind.StringLiteral c.0.0) ∷ ps) s e.0.2
              a.0 a.1 (expects mark.LeftParen (takes (kind.StringLiteral c.0.0) ∷ ps) a.0.2 e.0.2 b.0 b.1 w))
          | inr p ↦ found P ([], s) (xs, z) p.1 refl
        ]

    initialized_takes : (s z : State) (x : Option Initializer) → initialized_at inside s ≡ Some (x, z) →
        Spans (initializer_parts x) s z × (initializer_height x ≤ limit)
    unfolding initialized_at
    initialized_takes s z x h =
        let P = λ (p : Option Initializer × State). Spans (initializer_parts p.0) s p.1 × (initializer_height p.0 ≤
        limit) in
        elim (chosen (begins mark.Equal s) _ _ _ h) [
          | inl p ↦
              let a = bind_some (expect mark.Equal s) _ _ p.1 in
              let b = bind_some (inside a.0.2) _ _ a.2 in
              let v = within a.0.2 b.0.1 b.0.0 b.1 in
              found P (Some b.0.0, b.0.1) (x, z) b.2 (
                expects mark.Equal (initializer_of b.0.0).parts s b.0.1 a.0 a.1
                    v.0,
                v.1,
              )
          | inr p ↦ found P (None, s) (x, z) p.1 (refl, omega arith)
        ]

    rest_takes : (d : Declarator) (s z : State) (x : InitDeclarator) → rest_at inside d s ≡ Some (x, z) →
        (x.declarator ≡ d) × Spans (rest_parts x) s z × (initializer_height x.initializer ≤ limit)
    unfolding rest_at
    rest_takes d s z x h =
        let a = bind_some (assembler_at s) _ _ h in
        let b = bind_some (initialized_at inside a.0.1) _ _ a.2 in
        let v = initialized_takes a.0.1 b.0.1 b.0.0 b.1 in
        let q : InitDeclarator = record { declarator = d; assembler_name = a.0.0; initializer = b.0.0 } in
        found (λ (p : InitDeclarator × State). (p.0.declarator ≡ d) × Spans (rest_parts p.0) s p.1 ×
        (initializer_height p.0.initializer ≤ limit)) (q, b.0.1) (x, z) b.2 (
          refl,
          join (assembler_parts a.0.0) (initializer_parts b.0.0) s a.0.1 b.0.1 (assembler_takes s a.0.1 a.0.0
              a.1) v.0,
          v.1,
        )

    -- a declarator, and what follows it
    init_made : (is_type : Bool) (d : Declarator) (x : InitDeclarator) (s m z : State) →
        Spans (declaring_parts is_type d) s m → (form d).height ≤ limit → (x.declarator ≡ d) × Spans (rest_parts x) m
        z × (initializer_height x.initializer ≤ limit) → Made limit (init_piece is_type x) s z
    init_made is_type d x s m z y low q =
        let y' = subst (λ (e : Declarator). Spans (declaring_parts is_type e) s m) (sym q.0) y in
        let low' = subst (λ (e : Declarator). (form e).height ≤ limit) (sym q.0) low in
        (join (declaring_parts is_type x.declarator) (rest_parts x) s m z y' q.1, omega (arith, low', q.2))

    init_takes : (is_type : Bool) (s z : State) (x : InitDeclarator) → init_at r inside is_type s ≡ Some (x, z) →
        Made limit (init_piece is_type x) s z
    unfolding init_at
    init_takes is_type s z x h =
        let a = bind_some (declaring_at r is_type s) _ _ h in
        let y = declaring_takes is_type s a.0.1 a.0.0 a.1 in
        init_made is_type a.0.0 x s a.0.1 z y.0 y.1 (rest_takes a.0.0 a.0.1 z x a.2)

    more_inits_take : (is_type : Bool) (n : ℕ) (s z : State) (xs : List InitDeclarator) → more_inits_at r inside
        is_type n s ≡ Some (xs, z) → Spans (later (map (init_piece is_type) xs)) s z ×
        (highest (map (init_piece is_type) xs) ≤ limit)
    unfolding more_inits_at
    more_inits_take is_type zero s z xs h = cc
    more_inits_take is_type (suc n) s z xs h =
        let P = λ (p : List InitDeclarator × State). Spans (later (map (init_piece is_type) p.0)) s p.1 ×
        (highest (map (init_piece is_type) p.0) ≤ limit) in
        elim (chosen (begins mark.Comma s) _ _ _ h) [
          | inl p ↦
              let a = bind_some (expect mark.Comma s) _ _ p.1 in
              let b = bind_some (init_at r inside is_type a.0.2) _ _ a.2 in
              let c = bind_some (more_inits_at r inside is_type n b.0.1) _ _ b.2 in
              let x = init_takes is_type a.0.2 b.0.1 b.0.0 b.1 in
              let y = more_inits_take is_type n b.0.1 c.0.1 c.0.0 c.1 in
              let ps = later (map (init_piece is_type) c.0.0) in
              found P (b.0.0 ∷ c.0.0, c.0.1) (xs, z) c.2 (
                expects mark.Comma ((init_piece is_type b.0.0).parts ++ ps) s c.0.1 a.0 a.1
                    (join (init_piece is_type b.0.0).parts ps a.0.2 b.0.1 c.0.1 x.0 y.0),
                omega (arith, x.1, y.1),
              )
          | inr p ↦ found P ([], s) (xs, z) p.1 (refl, omega arith)
        ]

    pub behind_takes : (xs : List Specifier) (d : Declarator) (s k m z : State) (x : Declaration) →
        Spans (specification (all_specified xs)) s k → highest_specifier (all_specified xs) ≤ limit →
        Spans (declaring_parts (makes_types xs) d) k m → (form d).height ≤ limit → declaration_behind_at r inside xs d
        m ≡ Some (x, z) → Made limit (declaration_of x) s z
    unfolding declaration_behind_at declaration_of
    behind_takes xs d s k m z x sp hs dp hd h =
        let t = makes_types xs in
        let a = bind_some (rest_at inside d m) _ _ h in
        let b = bind_some (more_inits_at r inside t (suc (length a.0.1.0)) a.0.1) _ _ a.2 in
        let c = bind_some (expect mark.Semicolon b.0.1) _ _ b.2 in
        let f = init_made t d a.0.0 k m a.0.1 dp hd (rest_takes d m a.0.1 a.0.0 a.1) in
        let g = more_inits_take t (suc (length a.0.1.0)) a.0.1 b.0.1 b.0.0 b.1 in
        let q : Declaration = record { specifiers = xs; declarators = a.0.0 ∷ b.0.0 } in
        let ps = later (map (init_piece t) b.0.0) in
        let y = join (init_piece t a.0.0).parts ps k a.0.1 b.0.1 f.0 g.0 in
        let y' = join ((init_piece t a.0.0).parts ++ ps) (takes_mark mark.Semicolon ∷ []) k b.0.1 c.0.2 y
        (expects mark.Semicolon [] b.0.1 c.0.2 c.0 c.1 refl) in
        found (λ (p : Declaration × State). Made limit (declaration_of p.0) s p.1) (q, c.0.2) (x, z) c.2 (
          join (specification (all_specified xs)) (((init_piece t a.0.0).parts ++ ps) ++ takes_mark mark.Semicolon ∷
              []) s k c.0.2 sp y',
          omega (arith, hs, f.1, g.1),
        )

    -- specifiers alone
    pub alone_takes : (xs : List Specifier) (s m z : State) → Spans (specification (all_specified xs)) s m →
        highest_specifier (all_specified xs) ≤ limit → Spans (takes_mark mark.Semicolon ∷ []) m z →
        Made limit (declaration_of (no_declarators xs)) s z
    unfolding declaration_of
    alone_takes xs s m z sp hs y =
        (join (specification (all_specified xs)) (takes_mark mark.Semicolon ∷ []) s m z sp y, omega (arith, hs))

    pub declaration_takes : (s z : State) (x : Declaration) → declaration_at r inside s ≡ Some (x, z) →
        Made limit (declaration_of x) s z
    unfolding declaration_at
    declaration_takes s z x h =
        let a = bind_some (specification_at r s) _ _ h in
        let e = sound.specifiers s a.0.1 a.0.0 a.1 in
        elim (chosen (begins mark.Semicolon a.0.1) _ _ _ a.2) [
          | inl p ↦
              let b = bind_some (expect mark.Semicolon a.0.1) _ _ p.1 in
              found (λ (p : Declaration × State). Made limit (declaration_of p.0) s p.1) (no_declarators a.0.0, b.0.2)
              (x, z) b.2
              (alone_takes a.0.0 s a.0.1 b.0.2 e.0 e.1 (expects mark.Semicolon [] a.0.1 b.0.2 b.0 b.1 refl))
          | inr p ↦
              let b = bind_some (declaring_at r (makes_types a.0.0) a.0.1) _ _ p.1 in
              let y = declaring_takes (makes_types a.0.0) a.0.1 b.0.1 b.0.0 b.1 in
              behind_takes a.0.0 b.0.0 s a.0.1 b.0.1 z x e.0 e.1 y.0 y.1 b.2
        ]

pub initializer_takes : ((limit : ℕ) → SoundBelow limit (rules limit)) → (limit : ℕ) → SoundInside limit
    (initializer_at limit)
unfolding initializer_at
initializer_takes below zero s z x h = cc
initializer_takes below (suc limit) s z x h =
    initializer_takes_by limit (rules limit) (below limit) (initializer_at limit) (initializer_takes below limit) s z
    x h
