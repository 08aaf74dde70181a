-- A unit is read where it is derived, and only there; by the laws of expressions, specifiers and declarators.
use Rattle.std.proofs.Common.{
  ◌≡◌,
  ◌≤◌,
  ◌<◌,
  ℕ,
  zero,
  suc,
  List,
  [],
  ◌∷◌,
  ◌++◌,
  length,
  Some,
  None,
  true,
  false,
  refl,
  sym,
  ap,
  ◌∙◌,
  subst,
  arith,
  inl,
  inr,
}
use Rattle.std.proofs.lemmas.Option.{same_Some}
use Rattle.c_language.specs.declared.token.Token.{Token}
use Rattle.c_language.specs.declared.token.TokenKind.TheVariants as kind
use Rattle.c_language.specs.declared.token.Punctuator.TheVariants as mark
use Rattle.c_language.specs.declared.expr.Specifier.{Specifier}
use Rattle.c_language.specs.declared.expr.Declarator.{Declarator}
use Rattle.c_language.specs.declared.unit.InitDeclarator.{InitDeclarator}
use Rattle.c_language.specs.declared.unit.Stmt.{Stmt}
use Rattle.c_language.specs.declared.unit.Body.{Body}
use Rattle.c_language.specs.declared.unit.Body.TheVariants as body
use Rattle.c_language.specs.declared.unit.External.{External}
use Rattle.c_language.specs.declared.unit.External.TheVariants as external
use Rattle.c_grammar.specs.Parts.{Scope, State, Spans, entered_function}
use Rattle.c_grammar.specs.Grammar.{ended_in, all_specified, specification, takes_mark}
use Rattle.c_grammar.specs.Reading.{Reading, rules, expect, begins, specification_at}
use Rattle.c_grammar.specs.Units.{
  makes_types,
  declaring_parts,
  declaration_of,
  limit,
  Spelled,
  DerivesBody,
  DerivesFunction,
  DerivesExternal,
  DerivesExternals,
  file_scope,
  derives,
}
use Rattle.c_grammar.specs.UnitReading.{
  initializer_at,
  declaring_at,
  declaration_behind_at,
  no_declarators,
  stmt_at,
  group_in,
  start_of,
  whole,
  body_at,
  declared_external_at,
  external_at,
  is_end,
  externals_at,
  read_unit,
}
use Rattle.c_grammar.proofs.Spans.{join, split, no_more, bind_some, chosen, expects, expects_at}
use Rattle.c_grammar.proofs.Begins.{taken, specified_mark, specification_begins}
use Rattle.c_grammar.proofs.Reach.{behind}
use Rattle.c_grammar.proofs.UnitSteps.{SoundBelow, found}
use Rattle.c_grammar.proofs.UnitBegins.{
  CompleteBelow,
  by_rest,
  declaring_begins,
  pieces,
  after_first,
  declaration_begins,
}
use Rattle.c_grammar.proofs.DeclarationSound.{declaring_takes, behind_takes, alone_takes, initializer_takes}
use Rattle.c_grammar.proofs.DeclarationComplete.{declaring_again, behind_again, initializer_again}
use Rattle.c_grammar.proofs.StmtSound.{stmt_takes}
use Rattle.c_grammar.proofs.StmtComplete.{stmt_again}
use Rattle.c_grammar.proofs.BraceGroup.{group_again, group_takes}

module _ (sound : (limit : ℕ) → SoundBelow limit (rules limit)) (complete : (limit : ℕ) → CompleteBelow limit
    (rules limit)) where
  -- ---- bodies

  spelled_by : (tokens : List Token) (scope : Scope) (first : Token) (r : Reading Stmt) → stmt_at limit 0 (
    tokens,
    scope,
  ) ≡ r → Spelled tokens scope first (whole first.start r)
  spelled_by tokens scope first None e =
      (refl, λ x d. let f = stmt_again complete limit 0 (tokens, scope) ([], d.0) x d.1 in cc)
  spelled_by tokens scope first (Some (x, ([], after))) e =
      (after, stmt_takes sound limit 0 (tokens, scope) ([], after) x e)
  spelled_by tokens scope first (Some (x, (t ∷ rest, after))) e = (
    refl,
    λ x' d.
        let f = stmt_again complete limit 0 (tokens, scope) ([], d.0) x' d.1 in
        let g = ap (λ (p : Stmt × State). p.1.0) (same_Some (x', ([], d.0)) (x, (t ∷ rest, after)) (sym f ∙ e)) in
        cc,
  )

  whole_by : (tokens : List Token) (scope : Scope) (first : Token) (b : Body) (r : Reading Stmt) → stmt_at limit 0
      (tokens, scope) ≡ r → Spelled tokens scope first b → whole first.start r ≡ b
  whole_by tokens scope first (body.Read x) r e d =
      let f = stmt_again complete limit 0 (tokens, scope) ([], d.0) x d.1 in rw (sym e ∙ f) refl
  whole_by tokens scope first (body.Unread at) None e d = ap (λ n. body.Unread n) d.0
  whole_by tokens scope first (body.Unread at) (Some (x, ([], after))) e d =
      absurd (d.1 x (after, stmt_takes sound limit 0 (tokens, scope) ([], after) x e))
  whole_by tokens scope first (body.Unread at) (Some (x, (t ∷ rest, after))) e d = ap (λ n. body.Unread n) d.0

  pub body_takes : (s z : State) (b : Body) → body_at s ≡ Some (b, z) → DerivesBody s b z
  unfolding body_at
  body_takes s z b h =
      let a = bind_some (group_in s.0) _ _ h in
      let g = group_takes s.0 a.0.0 a.0.1 a.1 in
      let tokens = g.first ∷ (g.inner ++ g.last ∷ []) in
      let scope = entered_function s.1 in
      let read : List Token → Body = λ l. whole (start_of l) (stmt_at limit 0 (l, scope)) in
      let x = spelled_by tokens scope g.first (stmt_at limit 0 (tokens, scope)) refl in
      let e : (read tokens, (a.0.1, s.1)) ≡ (b, z) = ap (λ (l : List Token). (read l, (a.0.1, s.1))) (sym g.whole) ∙
      same_Some (read a.0.0, (a.0.1, s.1)) (b, z) a.2 in
      subst (λ (p : Body × State). DerivesBody s p.0 p.1) e
      (record {
        first = g.first;
        inner = g.inner;
        last = g.last;
        is = g.is;
        starts = g.starts;
        ends = g.ends;
        matched = g.matched;
        spelled = x;
        scope = refl;
      })

  pub body_again : (s z : State) (b : Body) → DerivesBody s b z → body_at s ≡ Some (b, z)
  unfolding body_at
  body_again s z b d =
      let tokens = d.first ∷ (d.inner ++ d.last ∷ []) in
      let scope = entered_function s.1 in
      let g : group_in s.0 ≡ Some (tokens, z.0) = rw d.is (group_again d.first d.last d.inner z.0 d.starts d.matched
      d.ends) in
      let w = whole_by tokens scope d.first b (stmt_at limit 0 (tokens, scope)) refl d.spelled in
      rw (g, w) (ap (λ (c : Scope). Some (b, (z.0, c))) (sym d.scope))

  -- ---- external declarations are derived

  pub external_takes : (s z : State) (x : External) → external_at s ≡ Some (x, z) → DerivesExternal s x z
  unfolding external_at declared_external_at
  external_takes s z x h =
      let r = rules limit in
      let inside = initializer_at limit in
      let within = initializer_takes sound limit in
      let P = λ (p : External × State). DerivesExternal s p.0 p.1 in
      elim (chosen (begins mark.Semicolon s) _ _ _ h) [
        | inl p ↦
            let a = bind_some (expect mark.Semicolon s) _ _ p.1 in
            found P (external.Empty a.0.1, a.0.2) (x, z) a.2 (expects_at mark.Semicolon [] s a.0.2 a.0 a.1 refl)
        | inr p ↦
            let a = bind_some (specification_at r s) _ _ p.1 in
            let e = (sound limit).specifiers s a.0.1 a.0.0 a.1 in
            elim (chosen (begins mark.Semicolon a.0.1) _ _ _ a.2) [
              | inl q ↦
                  let b = bind_some (expect mark.Semicolon a.0.1) _ _ q.1 in
                  found P (external.Declared (no_declarators a.0.0), b.0.2) (x, z) b.2
                  (alone_takes limit r (sound limit) inside within a.0.0 s a.0.1 b.0.2 e.0 e.1 (expects mark.Semicolon
                  [] a.0.1 b.0.2 b.0 b.1 refl))
              | inr q ↦
                  let t = makes_types a.0.0 in
                  let b = bind_some (declaring_at r t a.0.1) _ _ q.1 in
                  let y = declaring_takes limit r (sound limit) inside within t a.0.1 b.0.1 b.0.0 b.1 in
                  elim (chosen (begins mark.LeftBrace b.0.1) _ _ _ b.2) [
                    | inl u ↦
                        let c = bind_some (body_at b.0.1) _ _ u.1 in
                        found P (external.Function a.0.0 b.0.0 c.0.0, c.0.1) (x, z) c.2
                        (record {
                          behind = b.0.1;
                          spans =
                              join (specification (all_specified a.0.0)) (declaring_parts t b.0.0) s a.0.1 b.0.1 e.0
                              y.0;
                          low = omega (arith, e.1, y.1);
                          body = body_takes b.0.1 c.0.1 c.0.0 c.1;
                        })
                    | inr u ↦
                        let c = bind_some (declaration_behind_at r inside a.0.0 b.0.0 b.0.1) _ _ u.1 in
                        found P (external.Declared c.0.0, c.0.1) (x, z) c.2
                        (behind_takes limit r (sound limit) inside within a.0.0 b.0.0 s a.0.1 b.0.1 c.0.1 c.0.0 e.0
                        e.1 y.0 y.1 c.1)
                  ]
            ]
      ]

  ends_in : (tokens : List Token) → is_end tokens ≡ true → tokens ≡ []
  ends_in [] h = refl
  ends_in (t ∷ rest) h = cc

  externals_take : (n : ℕ) (s : State) (xs : List External) → externals_at n s ≡ Some xs → DerivesExternals s xs
  unfolding externals_at
  externals_take zero s xs h = cc
  externals_take (suc n) s xs h =
      let P = λ (l : List External). DerivesExternals s l in
      elim (chosen (is_end s.0) _ _ _ h) [
        | inl p ↦ found P [] xs p.1 (ends_in s.0 p.0)
        | inr p ↦
            let a = bind_some (external_at s) _ _ p.1 in
            let b = bind_some (externals_at n a.0.1) _ _ a.2 in
            found P (a.0.0 ∷ b.0) xs b.2 (a.0.1, external_takes s a.0.1 a.0.0 a.1, externals_take n a.0.1 b.0 b.1)
      ]

  -- what is read is derived
  pub unit_takes : (tokens : List Token) (xs : List External) → read_unit tokens ≡ Some xs → derives tokens xs
  unit_takes tokens xs h = externals_take (suc (length tokens)) (tokens, file_scope) xs h

  -- ---- external declarations are read

  declared_again : (xs : List Specifier) (ds : List InitDeclarator) (s z : State) →
      Spans (declaration_of (record { specifiers = xs; declarators = ds })).parts s z →
      (declaration_of (record { specifiers = xs; declarators = ds })).height ≤ limit → declared_external_at s ≡ Some (
        external.Declared (record {
          specifiers = xs;
          declarators = ds;
        }),
        z,
      )
  unfolding declared_external_at declaration_of
  declared_again xs [] s z x low =
      let p = split (specification (all_specified xs)) (takes_mark mark.Semicolon ∷ []) s z x in
      let read = (complete limit).specifiers s p.0 xs p.1 (omega arith) (rw (taken p.2.2) refl)
      (rw (taken p.2.2) refl) in
      rw (read, taken p.2.2) (ap (λ (w : State). Some (external.Declared (no_declarators xs), w)) p.2.3)
  declared_again xs (d ∷ ds) s z x low =
      let r = rules limit in
      let inside = initializer_at limit in
      let within = initializer_again complete limit in
      let p = pieces xs d ds s z x in
      let n = declaring_begins (makes_types xs) d.declarator p.named p.declared p.declaring in
      let a = by_rest d p.declared p.first p.rest (after_first xs d ds s z p) in
      let read = (complete limit).specifiers s p.named xs p.specifiers (omega arith) (n.typed p.named.1) n.brace in
      let head = declaring_again limit r (complete limit) inside within (makes_types xs) d.declarator p.named
      p.declared p.declaring (omega arith) a.ended in
      let rest = behind_again limit r (complete limit) inside within xs d ds s z p (omega arith) in
      let b = n.semicolon in
      let b' = a.no_brace in
      rw (read, b, head, b', rest) refl

  function_again : (xs : List Specifier) (d : Declarator) (b : Body) (s z : State) → DerivesFunction xs d b s z →
      declared_external_at s ≡ Some (external.Function xs d b, z)
  unfolding declared_external_at
  function_again xs d b s z f =
      let r = rules limit in
      let inside = initializer_at limit in
      let within = initializer_again complete limit in
      let t = makes_types xs in
      let low = f.low in
      let p = split (specification (all_specified xs)) (declaring_parts t d) s f.behind f.spans in
      let n = declaring_begins t d p.0 f.behind p.2 in
      let e : ended_in f.behind.0 ≡ true = rw (f.body.is, f.body.starts) refl in
      let o : begins mark.LeftBrace f.behind ≡ true = rw (f.body.is, f.body.starts) refl in
      let read = (complete limit).specifiers s p.0 xs p.1 (omega arith) (n.typed p.0.1) n.brace in
      let head = declaring_again limit r (complete limit) inside within t d p.0 f.behind p.2 (omega arith) e in
      let read' = body_again f.behind z b f.body in
      let c = n.semicolon in
      rw (read, c, head, o, read') refl

  pub external_again : (s z : State) (x : External) → DerivesExternal s x z → external_at s ≡ Some (x, z)
  unfolding external_at
  external_again s z (external.Function xs d b) f =
      let p = split (specification (all_specified xs)) (declaring_parts (makes_types xs) d) s f.behind f.spans in
      let n = specified_mark mark.Semicolon s.0 s.1 false (specification_begins xs s p.0 p.1).0 in
      let read = function_again xs d b s z f in
      rw (n, read) refl
  external_again s z (external.Declared d) f =
      let n = specified_mark mark.Semicolon s.0 s.1 false (declaration_begins d s z f.0).specifies in
      let read = declared_again d.specifiers d.declarators s z f.0 f.1 in
      rw (n, read) refl
  external_again s z (external.Empty at) f = rw (taken f.1) (ap (λ (w : State). Some (external.Empty at, w)) f.2)

  tail_less : (a b : List Token) → length b ≤ length (a ++ b)
  tail_less [] b = omega arith
  tail_less (t ∷ ts) b = let l = tail_less ts b in omega arith

  body_less : (s z : State) (b : Body) → DerivesBody s b z → length z.0 < length s.0
  body_less s z b d =
      let l : length s.0 ≡ suc (length (d.inner ++ d.last ∷ z.0)) = ap length d.is in
      let l' : length (d.last ∷ z.0) ≤ length (d.inner ++ d.last ∷ z.0) = tail_less d.inner (d.last ∷ z.0) in
      omega arith

  external_less : (s z : State) (x : External) → DerivesExternal s x z → length z.0 < length s.0
  external_less s z (external.Function xs d b) f =
      let l = no_more (specification (all_specified xs) ++ declaring_parts (makes_types xs) d) s f.behind f.spans in
      let l' = body_less f.behind z b f.body in
      omega arith
  external_less s z (external.Declared d) f = (declaration_begins d s z f.0).less
  external_less s z (external.Empty at) f = behind at (kind.Punctuator mark.Semicolon) f.0 s z [] f.1 f.2

  not_end : (tokens : List Token) (n : ℕ) → n < length tokens → is_end tokens ≡ false
  not_end [] n h = absurd (omega arith)
  not_end (t ∷ rest) n h = refl

  externals_again : (n : ℕ) (xs : List External) (s : State) → length s.0 < n → DerivesExternals s xs → externals_at n
      s ≡ Some xs
  unfolding externals_at
  externals_again zero xs s enough d = absurd (omega arith)
  externals_again (suc n) [] s enough d = rw d refl
  externals_again (suc n) (x ∷ xs) s enough d =
      let l = external_less s d.0 x d.1 in
      let e = not_end s.0 (length d.0.0) l in
      let read = external_again s d.0 x d.1 in
      let more = externals_again n xs d.0 (omega arith) d.2 in
      rw (e, read, more) refl

  -- what is derived is read
  pub unit_again : (tokens : List Token) (xs : List External) → derives tokens xs → read_unit tokens ≡ Some xs
  unit_again tokens xs d = externals_again (suc (length tokens)) xs (tokens, file_scope) (omega arith) d
