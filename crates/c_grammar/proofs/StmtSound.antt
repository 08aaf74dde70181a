-- What is read is what the grammar derives: statements.
use Rattle.std.proofs.Common.{
  ◌≡◌,
  ◌≤◌,
  ℕ,
  zero,
  suc,
  List,
  [],
  ◌∷◌,
  ◌++◌,
  length,
  Option,
  Some,
  None,
  false,
  refl,
  sym,
  ◌∙◌,
  subst,
  arith,
  inl,
  inr,
}
use Rattle.std.specs.Prelude.{map, option_map, nat_le}
use Rattle.c_language.specs.declared.token.Token.{Token}
use Rattle.c_language.specs.declared.token.TokenKind.{TokenKind}
use Rattle.c_language.specs.declared.token.TokenKind.TheVariants as kind
use Rattle.c_language.specs.declared.token.Keyword.{Keyword}
use Rattle.c_language.specs.declared.token.Keyword.TheVariants as keyword
use Rattle.c_language.specs.declared.token.Punctuator.{Punctuator}
use Rattle.c_language.specs.declared.token.Punctuator.TheVariants as mark
use Rattle.c_language.specs.declared.expr.Expr.{Expr}
use Rattle.c_language.specs.declared.unit.ForStart.{ForStart}
use Rattle.c_language.specs.declared.unit.ForStart.TheVariants as start
use Rattle.c_language.specs.declared.unit.Stmt.{Stmt}
use Rattle.c_language.specs.declared.unit.Stmt.TheVariants as stmt
use Rattle.c_grammar.specs.Parts.{
  Part,
  takes,
  takes_at,
  opens,
  closes,
  Scope,
  State,
  Takes,
  Spans,
  entered,
  left,
  specifies_in,
}
use Rattle.c_grammar.specs.Grammar.{Shape, shape, takes_mark}
use Rattle.c_grammar.specs.Reading.{Rules, rules, expect, expect_keyword, name_at, begins, begins_keyword}
use Rattle.c_grammar.specs.Units.{
  joined_shapes,
  highest_stmt,
  value_parts,
  value_height,
  only_statement,
  substatement,
  else_parts,
  else_height,
  for_start_parts,
  for_start_height,
  condition_parts,
  stmt_shape,
  DerivesStmt,
}
use Rattle.c_grammar.specs.UnitReading.{
  Inside,
  declaration_at,
  initializer_at,
  Turn,
  block_items_at,
  block_at,
  optional_at,
  value_statement_at,
  label_at,
  case_at,
  default_at,
  substatement_at,
  condition_at,
  else_at,
  if_at,
  switch_at,
  while_at,
  do_at,
  for_declaration_at,
  for_value_at,
  for_start_at,
  for_at,
  goto_at,
  continue_at,
  break_at,
  return_at,
  labelled,
  keyword_statement,
  plain_by,
  plain_in,
  declared_statement_at,
  stmt_by,
  stmt_at,
}
use Rattle.c_grammar.proofs.Spans.{
  join,
  bind_some,
  chosen,
  guarded,
  nat_le_true,
  first_taken,
  take_at,
  expects,
  expects_at,
  expects_name,
  expects_name_at,
}
use Rattle.c_grammar.proofs.UnitEquations.{
  stmt-Block,
  stmt-Declared,
  stmt-Value,
  stmt-Label,
  stmt-Case,
  stmt-Default,
  stmt-If,
  stmt-Switch,
  stmt-While,
  stmt-Do,
  stmt-For,
  stmt-Goto,
  stmt-Continue,
  stmt-Break,
  stmt-Return,
}
use Rattle.c_grammar.proofs.UnitSteps.{SoundBelow, found, expects_keyword, next_same}
use Rattle.c_grammar.proofs.DeclarationSound.{SoundInside, declaration_takes, initializer_takes}

pub stands : (limit rank : ℕ) (s z : State) (x : Stmt) (q : Shape) → stmt_shape x ≡ q → Spans q.parts s z →
    q.rank ≤ rank → q.height ≤ limit → DerivesStmt limit rank s x z
stands limit rank s z x q e y f l = record {
  spans = subst (λ (p : Shape). Spans p.parts s z) (sym e) y;
  fits = subst (λ (p : Shape). p.rank ≤ rank) (sym e) f;
  low = subst (λ (p : Shape). p.height ≤ limit) (sym e) l;
}

looser : (limit rank rank' : ℕ) (s z : State) (x : Stmt) → rank ≤ rank' → DerivesStmt limit rank s x z →
    DerivesStmt limit rank' s x z
looser limit rank rank' s z x le d = record { spans = d.spans; fits = omega (arith, d.fits); low = d.low }

abbrev pub SoundTurn : ℕ → Turn → Type 0
SoundTurn limit turn = (rank : ℕ) (s z : State) (x : Stmt) → turn rank s ≡ Some (x, z) → DerivesStmt limit rank s x z

module _ (limit : ℕ) (r : Rules) (sound : SoundBelow limit r) (inside : Inside) (within : SoundInside limit inside)
    (turn : Turn) (turns : SoundTurn limit turn) where
  -- a statement that is read, at the height above
  abbrev Stated : State → Stmt → State → Type 0
  Stated s x z = DerivesStmt (suc limit) 0 s x z

  items_take : (n : ℕ) (s z : State) (xs : List Stmt) → block_items_at turn n s ≡ Some (xs, z) →
      Spans (joined_shapes (map stmt_shape xs)) s z × (highest_stmt (map stmt_shape xs) ≤ limit)
  unfolding block_items_at
  items_take zero s z xs h = cc
  items_take (suc n) s z xs h =
      let P = λ (p : List Stmt × State). Spans (joined_shapes (map stmt_shape p.0)) s p.1 ×
      (highest_stmt (map stmt_shape p.0) ≤ limit) in
      elim (chosen (begins mark.RightBrace s) _ _ _ h) [
        | inl p ↦ found P ([], s) (xs, z) p.1 (refl, omega arith)
        | inr p ↦
            let b = bind_some (turn 1 s) _ _ p.1 in
            let c = bind_some (block_items_at turn n b.0.1) _ _ b.2 in
            let d = turns 1 s b.0.1 b.0.0 b.1 in
            let m = items_take n b.0.1 c.0.1 c.0.0 c.1 in
            found P (b.0.0 ∷ c.0.0, c.0.1) (xs, z) c.2 (
              join (stmt_shape b.0.0).parts
                  (joined_shapes (map stmt_shape c.0.0)) s b.0.1 c.0.1 d.spans m.0,
              omega (arith, d.low, m.1),
            )
      ]

  block_takes : (s m z : State) (x : Stmt) (at : ℕ) → Takes at (kind.Punctuator mark.LeftBrace) s.0 m.0 → s.1 ≡ m.1 →
      block_at turn at m ≡ Some (x, z) → Stated s x z
  unfolding block_at
  block_takes s m z x at i j h =
      let a = bind_some (block_items_at turn (suc (length m.0)) (m.0, entered m.1)) _ _ h in
      let out : State = (a.0.1.0, left a.0.1.1) in
      let b = bind_some (expect mark.RightBrace out) _ _ a.2 in
      let y = items_take _ (m.0, entered m.1) a.0.1 a.0.0 a.1 in
      let rest = closes ∷ takes_mark mark.RightBrace ∷ [] in
      let ps = opens ∷ (joined_shapes (map stmt_shape a.0.0) ++ rest) in
      let w = join (joined_shapes (map stmt_shape a.0.0)) rest (m.0, entered m.1) a.0.1 b.0.2 y.0
      (expects mark.RightBrace [] out b.0.2 b.0 b.1 refl) in
      found (λ (p : Stmt × State). Stated s p.0 p.1) (stmt.Block at a.0.0, b.0.2) (x, z) b.2
      (stands (suc limit) 0 s b.0.2 (stmt.Block at a.0.0) _ (stmt-Block at a.0.0)
      (take_at at (kind.Punctuator mark.LeftBrace) ps s m b.0.2 i j w) (omega arith) (omega (arith, y.1)))

  optional_takes : (w : Punctuator) (s z : State) (e : Option Expr) → optional_at r w s ≡ Some (e, z) →
      Spans (value_parts e) s z × (value_height e ≤ limit)
  unfolding optional_at
  optional_takes w s z e h =
      let P = λ (p : Option Expr × State). Spans (value_parts p.0) s p.1 × (value_height p.0 ≤ limit) in
      elim (chosen (begins w s) _ _ _ h) [
        | inl p ↦ found P (None, s) (e, z) p.1 (refl, omega arith)
        | inr p ↦
            let a = bind_some (r.expr 16 s) _ _ p.1 in
            let d = sound.expr 16 s a.0.1 a.0.0 a.1 in
            found P (Some a.0.0, a.0.1) (e, z) a.2 (d.spans, d.low)
      ]

  value_takes : (s z : State) (x : Stmt) → value_statement_at r s ≡ Some (x, z) → Stated s x z
  unfolding value_statement_at
  value_takes s z x h =
      let a = bind_some (optional_at r mark.Semicolon s) _ _ h in
      let b = bind_some (expect mark.Semicolon a.0.1) _ _ a.2 in
      let d = optional_takes mark.Semicolon s a.0.1 a.0.0 a.1 in
      let y = join (value_parts a.0.0) (takes_at b.0.1 (kind.Punctuator mark.Semicolon) ∷ []) s a.0.1 b.0.2 d.0
      (expects_at mark.Semicolon [] a.0.1 b.0.2 b.0 b.1 refl) in
      found (λ (p : Stmt × State). Stated s p.0 p.1) (stmt.Value b.0.1 a.0.0, b.0.2) (x, z) b.2
      (stands (suc limit) 0 s b.0.2 (stmt.Value b.0.1 a.0.0) _ (stmt-Value b.0.1 a.0.0) y (omega arith)
      (omega (arith, d.1)))

  declared_takes : (s z : State) (x : Stmt) → declared_statement_at r inside s ≡ Some (x, z) → DerivesStmt (suc limit)
      1 s x z
  unfolding declared_statement_at
  declared_takes s z x h =
      let a = bind_some (declaration_at r inside s) _ _ h in
      let d = declaration_takes limit r sound inside within s a.0.1 a.0.0 a.1 in
      found (λ (p : Stmt × State). DerivesStmt (suc limit) 1 s p.0 p.1) (stmt.Declared a.0.0, a.0.1) (x, z) a.2
      (stands (suc limit) 1 s a.0.1 (stmt.Declared a.0.0) _ (stmt-Declared a.0.0) d.0 (omega arith)
      (omega (arith, d.1)))

  label_takes : (s z : State) (x : Stmt) → label_at turn s ≡ Some (x, z) → Stated s x z
  unfolding label_at
  label_takes s z x h =
      let a = bind_some (name_at s) _ _ h in
      let b = bind_some (expect mark.Colon a.0.2) _ _ a.2 in
      let c = bind_some (turn 0 b.0.2) _ _ b.2 in
      let d = turns 0 b.0.2 c.0.1 c.0.0 c.1 in
      let ps = only_statement (stmt_shape c.0.0) in
      let y = expects_name_at (takes_mark mark.Colon ∷ ps) s c.0.1 a.0 a.1 (expects mark.Colon ps a.0.2 c.0.1 b.0 b.1
      (d.fits, d.spans)) in
      found (λ (p : Stmt × State). Stated s p.0 p.1) (stmt.Label a.0.1 a.0.0 c.0.0, c.0.1) (x, z) c.2
      (stands (suc limit) 0 s c.0.1 (stmt.Label a.0.1 a.0.0 c.0.0) _ (stmt-Label a.0.1 a.0.0 c.0.0) y (omega arith)
      (omega (arith, d.low)))

  case_takes : (s m z : State) (x : Stmt) (at : ℕ) → Takes at (kind.Keyword keyword.Case) s.0 m.0 → s.1 ≡ m.1 →
      case_at turn r at m ≡ Some (x, z) → Stated s x z
  unfolding case_at
  case_takes s m z x at i j h =
      let a = bind_some (r.expr 14 m) _ _ h in
      let b = bind_some (expect mark.Colon a.0.1) _ _ a.2 in
      let c = bind_some (turn 0 b.0.2) _ _ b.2 in
      let e = sound.expr 14 m a.0.1 a.0.0 a.1 in
      let d = turns 0 b.0.2 c.0.1 c.0.0 c.1 in
      let ps = only_statement (stmt_shape c.0.0) in
      let y = join (shape a.0.0).parts (takes_mark mark.Colon ∷ ps) m a.0.1 c.0.1 e.spans (expects mark.Colon ps a.0.1
      c.0.1 b.0 b.1 (d.fits, d.spans)) in
      found (λ (p : Stmt × State). Stated s p.0 p.1) (stmt.Case at a.0.0 c.0.0, c.0.1) (x, z) c.2
      (stands (suc limit) 0 s c.0.1 (stmt.Case at a.0.0 c.0.0) _ (stmt-Case at a.0.0 c.0.0) (
        m.0,
        i,
        (
          e.fits,
          subst (λ (q : Scope). Spans ((shape a.0.0).parts ++ takes_mark mark.Colon ∷ ps) (m.0, q) c.0.1)
              (sym j) y,
        ),
      ) (omega arith) (omega (arith, e.low, d.low)))

  default_takes : (s m z : State) (x : Stmt) (at : ℕ) → Takes at (kind.Keyword keyword.Default) s.0 m.0 → s.1 ≡ m.1 →
      default_at turn at m ≡ Some (x, z) → Stated s x z
  unfolding default_at
  default_takes s m z x at i j h =
      let b = bind_some (expect mark.Colon m) _ _ h in
      let c = bind_some (turn 0 b.0.2) _ _ b.2 in
      let d = turns 0 b.0.2 c.0.1 c.0.0 c.1 in
      let ps = only_statement (stmt_shape c.0.0) in
      let y = take_at at (kind.Keyword keyword.Default) (takes_mark mark.Colon ∷ ps) s m c.0.1 i j
      (expects mark.Colon ps m c.0.1 b.0 b.1 (d.fits, d.spans)) in
      found (λ (p : Stmt × State). Stated s p.0 p.1) (stmt.Default at c.0.0, c.0.1) (x, z) c.2
      (stands (suc limit) 0 s c.0.1 (stmt.Default at c.0.0) _ (stmt-Default at c.0.0) y (omega arith)
      (omega (arith, d.low)))

  substatement_takes : (s z : State) (x : Stmt) → substatement_at turn s ≡ Some (x, z) →
      Spans (substatement (stmt_shape x)) s z × ((stmt_shape x).height ≤ limit)
  unfolding substatement_at
  substatement_takes s z x h =
      let a = bind_some (turn 0 (s.0, entered s.1)) _ _ h in
      let d = turns 0 (s.0, entered s.1) a.0.1 a.0.0 a.1 in
      let out : State = (a.0.1.0, left a.0.1.1) in
      found (λ (p : Stmt × State). Spans (substatement (stmt_shape p.0)) s p.1 × ((stmt_shape p.0).height ≤ limit))
      (a.0.0, out) (x, z) a.2
      ((d.fits, join (stmt_shape a.0.0).parts (closes ∷ []) (s.0, entered s.1) a.0.1 out d.spans refl), d.low)

  condition_takes : (s z : State) (e : Expr) → condition_at r s ≡ Some (e, z) → Spans (condition_parts e) s z ×
      ((shape e).height ≤ limit)
  unfolding condition_at
  condition_takes s z e h =
      let a = bind_some (expect mark.LeftParen s) _ _ h in
      let b = bind_some (r.expr 16 a.0.2) _ _ a.2 in
      let c = bind_some (expect mark.RightParen b.0.1) _ _ b.2 in
      let d = sound.expr 16 a.0.2 b.0.1 b.0.0 b.1 in
      let ps = (shape b.0.0).parts ++ takes_mark mark.RightParen ∷ [] in
      let y = join (shape b.0.0).parts (takes_mark mark.RightParen ∷ []) a.0.2 b.0.1 c.0.2 d.spans
      (expects mark.RightParen [] b.0.1 c.0.2 c.0 c.1 refl) in
      found (λ (p : Expr × State). Spans (condition_parts p.0) s p.1 × ((shape p.0).height ≤ limit)) (b.0.0, c.0.2)
      (e, z) c.2 (expects mark.LeftParen ps s c.0.2 a.0 a.1 y, d.low)

  else_takes : (s z : State) (x : Option Stmt) → else_at turn s ≡ Some (x, z) →
      Spans (else_parts (option_map stmt_shape x)) s z × (else_height (option_map stmt_shape x) ≤ limit)
  unfolding else_at
  else_takes s z x h =
      let P = λ (p : Option Stmt × State). Spans (else_parts (option_map stmt_shape p.0)) s p.1 ×
      (else_height (option_map stmt_shape p.0) ≤ limit) in
      elim (chosen (begins_keyword keyword.Else s) _ _ _ h) [
        | inl p ↦
            let a = bind_some (expect_keyword keyword.Else s) _ _ p.1 in
            let b = bind_some (substatement_at turn a.0.2) _ _ a.2 in
            let d = substatement_takes a.0.2 b.0.1 b.0.0 b.1 in
            found P (Some b.0.0, b.0.1) (x, z) b.2 (
              expects_keyword keyword.Else (substatement (stmt_shape b.0.0)) s
                  b.0.1 a.0 a.1 d.0,
              d.1,
            )
        | inr p ↦ found P (None, s) (x, z) p.1 ((sym (next_same keyword.Else s.0) ∙ p.0, refl), omega arith)
      ]

  -- a keyword, and the rest as a block
  as_block_takes : (at : ℕ) (k : Keyword) (ps : List Part) (s m z : State) → Takes at (kind.Keyword k) s.0 m.0 →
      s.1 ≡ m.1 → Spans ps (m.0, entered m.1) z → Spans (takes_at at (kind.Keyword k) ∷ opens ∷ (ps ++ closes ∷ [])) s
      (z.0, left z.1)
  as_block_takes at k ps s m z i j y =
      take_at at (kind.Keyword k) (opens ∷ (ps ++ closes ∷ [])) s m (z.0, left z.1) i j (join ps (closes ∷ [])
      (m.0, entered m.1) z (z.0, left z.1) y refl)

  if_takes : (s m z : State) (x : Stmt) (at : ℕ) → Takes at (kind.Keyword keyword.If) s.0 m.0 → s.1 ≡ m.1 →
      if_at turn r at m ≡ Some (x, z) → Stated s x z
  unfolding if_at
  if_takes s m z x at i j h =
      let a = bind_some (condition_at r (m.0, entered m.1)) _ _ h in
      let b = bind_some (substatement_at turn a.0.1) _ _ a.2 in
      let c = bind_some (else_at turn b.0.1) _ _ b.2 in
      let e = condition_takes (m.0, entered m.1) a.0.1 a.0.0 a.1 in
      let d = substatement_takes a.0.1 b.0.1 b.0.0 b.1 in
      let o = else_takes b.0.1 c.0.1 c.0.0 c.1 in
      let out : State = (c.0.1.0, left c.0.1.1) in
      let p2 = else_parts (option_map stmt_shape c.0.0) in
      let p1 = substatement (stmt_shape b.0.0) in
      let y1 = join p1 p2 a.0.1 b.0.1 c.0.1 d.0 o.0 in
      let y = join (condition_parts a.0.0) (p1 ++ p2) (m.0, entered m.1) a.0.1 c.0.1 e.0 y1 in
      found (λ (p : Stmt × State). Stated s p.0 p.1) (stmt.If at a.0.0 b.0.0 c.0.0, out) (x, z) c.2
      (stands (suc limit) 0 s out (stmt.If at a.0.0 b.0.0 c.0.0) _ (stmt-If at a.0.0 b.0.0 c.0.0)
      (as_block_takes at keyword.If (condition_parts a.0.0 ++ (p1 ++ p2)) s m c.0.1 i j y) (omega arith)
      (omega (arith, e.1, d.1, o.1)))

  switch_takes : (s m z : State) (x : Stmt) (at : ℕ) → Takes at (kind.Keyword keyword.Switch) s.0 m.0 → s.1 ≡ m.1 →
      switch_at turn r at m ≡ Some (x, z) → Stated s x z
  unfolding switch_at
  switch_takes s m z x at i j h =
      let a = bind_some (condition_at r (m.0, entered m.1)) _ _ h in
      let b = bind_some (substatement_at turn a.0.1) _ _ a.2 in
      let e = condition_takes (m.0, entered m.1) a.0.1 a.0.0 a.1 in
      let d = substatement_takes a.0.1 b.0.1 b.0.0 b.1 in
      let out : State = (b.0.1.0, left b.0.1.1) in
      let p1 = substatement (stmt_shape b.0.0) in
      let y = join (condition_parts a.0.0) p1 (m.0, entered m.1) a.0.1 b.0.1 e.0 d.0 in
      found (λ (p : Stmt × State). Stated s p.0 p.1) (stmt.Switch at a.0.0 b.0.0, out) (x, z) b.2
      (stands (suc limit) 0 s out (stmt.Switch at a.0.0 b.0.0) _ (stmt-Switch at a.0.0 b.0.0)
      (as_block_takes at keyword.Switch (condition_parts a.0.0 ++ p1) s m b.0.1 i j y) (omega arith)
      (omega (arith, e.1, d.1)))

  while_takes : (s m z : State) (x : Stmt) (at : ℕ) → Takes at (kind.Keyword keyword.While) s.0 m.0 → s.1 ≡ m.1 →
      while_at turn r at m ≡ Some (x, z) → Stated s x z
  unfolding while_at
  while_takes s m z x at i j h =
      let a = bind_some (condition_at r (m.0, entered m.1)) _ _ h in
      let b = bind_some (substatement_at turn a.0.1) _ _ a.2 in
      let e = condition_takes (m.0, entered m.1) a.0.1 a.0.0 a.1 in
      let d = substatement_takes a.0.1 b.0.1 b.0.0 b.1 in
      let out : State = (b.0.1.0, left b.0.1.1) in
      let p1 = substatement (stmt_shape b.0.0) in
      let y = join (condition_parts a.0.0) p1 (m.0, entered m.1) a.0.1 b.0.1 e.0 d.0 in
      found (λ (p : Stmt × State). Stated s p.0 p.1) (stmt.While at a.0.0 b.0.0, out) (x, z) b.2
      (stands (suc limit) 0 s out (stmt.While at a.0.0 b.0.0) _ (stmt-While at a.0.0 b.0.0)
      (as_block_takes at keyword.While (condition_parts a.0.0 ++ p1) s m b.0.1 i j y) (omega arith)
      (omega (arith, e.1, d.1)))

  do_takes : (s m z : State) (x : Stmt) (at : ℕ) → Takes at (kind.Keyword keyword.Do) s.0 m.0 → s.1 ≡ m.1 →
      do_at turn r at m ≡ Some (x, z) → Stated s x z
  unfolding do_at
  do_takes s m z x at i j h =
      let a = bind_some (substatement_at turn (m.0, entered m.1)) _ _ h in
      let b = bind_some (expect_keyword keyword.While a.0.1) _ _ a.2 in
      let c = bind_some (condition_at r b.0.2) _ _ b.2 in
      let f = bind_some (expect mark.Semicolon c.0.1) _ _ c.2 in
      let d = substatement_takes (m.0, entered m.1) a.0.1 a.0.0 a.1 in
      let e = condition_takes b.0.2 c.0.1 c.0.0 c.1 in
      let out : State = (f.0.2.0, left f.0.2.1) in
      let p1 = substatement (stmt_shape a.0.0) in
      let p2 = condition_parts c.0.0 ++ takes_mark mark.Semicolon ∷ [] in
      let y2 = join (condition_parts c.0.0) (takes_mark mark.Semicolon ∷ []) b.0.2 c.0.1 f.0.2 e.0
      (expects mark.Semicolon [] c.0.1 f.0.2 f.0 f.1 refl) in
      let y1 = expects_keyword keyword.While p2 a.0.1 f.0.2 b.0 b.1 y2 in
      let y = join p1 (takes (kind.Keyword keyword.While) ∷ p2) (m.0, entered m.1) a.0.1 f.0.2 d.0 y1 in
      found (λ (p : Stmt × State). Stated s p.0 p.1) (stmt.Do at a.0.0 c.0.0, out) (x, z) f.2
      (stands (suc limit) 0 s out (stmt.Do at a.0.0 c.0.0) _ (stmt-Do at a.0.0 c.0.0) (as_block_takes at keyword.Do
      (p1 ++ takes (kind.Keyword keyword.While) ∷ p2) s m f.0.2 i j y) (omega arith) (omega (arith, e.1, d.1)))

  for_start_takes : (s z : State) (x : ForStart) → for_start_at r inside s ≡ Some (x, z) → Spans (for_start_parts x) s
      z × (for_start_height x ≤ limit)
  unfolding for_declaration_at for_value_at
  for_start_takes s z x h =
      let P = λ (p : ForStart × State). Spans (for_start_parts p.0) s p.1 × (for_start_height p.0 ≤ limit) in
      elim (chosen (specifies_in false s.0 s.1) _ _ _ h) [
        | inl p ↦
            let a = bind_some (declaration_at r inside s) _ _ p.1 in
            let d = declaration_takes limit r sound inside within s a.0.1 a.0.0 a.1 in
            found P (start.Declared a.0.0, a.0.1) (x, z) a.2 (d.0, d.1)
        | inr p ↦
            let a = bind_some (optional_at r mark.Semicolon s) _ _ p.1 in
            let b = bind_some (expect mark.Semicolon a.0.1) _ _ a.2 in
            let d = optional_takes mark.Semicolon s a.0.1 a.0.0 a.1 in
            let y = join (value_parts a.0.0) (takes_mark mark.Semicolon ∷ []) s a.0.1 b.0.2 d.0
            (expects mark.Semicolon [] a.0.1 b.0.2 b.0 b.1 refl) in
            found P (start.Value a.0.0, b.0.2) (x, z) b.2 (y, d.1)
      ]

  for_takes : (s m z : State) (x : Stmt) (at : ℕ) → Takes at (kind.Keyword keyword.For) s.0 m.0 → s.1 ≡ m.1 →
      for_at turn r inside at m ≡ Some (x, z) → Stated s x z
  unfolding for_at
  for_takes s m z x at i j h =
      let a = bind_some (expect mark.LeftParen (m.0, entered m.1)) _ _ h in
      let b = bind_some (for_start_at r inside a.0.2) _ _ a.2 in
      let c = bind_some (optional_at r mark.Semicolon b.0.1) _ _ b.2 in
      let d = bind_some (expect mark.Semicolon c.0.1) _ _ c.2 in
      let e = bind_some (optional_at r mark.RightParen d.0.2) _ _ d.2 in
      let f = bind_some (expect mark.RightParen e.0.1) _ _ e.2 in
      let g = bind_some (substatement_at turn f.0.2) _ _ f.2 in
      let out : State = (g.0.1.0, left g.0.1.1) in
      let x1 = for_start_takes a.0.2 b.0.1 b.0.0 b.1 in
      let x2 = optional_takes mark.Semicolon b.0.1 c.0.1 c.0.0 c.1 in
      let x3 = optional_takes mark.RightParen d.0.2 e.0.1 e.0.0 e.1 in
      let x4 = substatement_takes f.0.2 g.0.1 g.0.0 g.1 in
      let p4 = substatement (stmt_shape g.0.0) in
      let p3 = value_parts e.0.0 ++ takes_mark mark.RightParen ∷ p4 in
      let p2 = value_parts c.0.0 ++ takes_mark mark.Semicolon ∷ p3 in
      let p1 = for_start_parts b.0.0 ++ p2 in
      let y3 = join (value_parts e.0.0) (takes_mark mark.RightParen ∷ p4) d.0.2 e.0.1 g.0.1 x3.0
      (expects mark.RightParen p4 e.0.1 g.0.1 f.0 f.1 x4.0) in
      let y2 = join (value_parts c.0.0) (takes_mark mark.Semicolon ∷ p3) b.0.1 c.0.1 g.0.1 x2.0
      (expects mark.Semicolon p3 c.0.1 g.0.1 d.0 d.1 y3) in
      let y1 = join (for_start_parts b.0.0) p2 a.0.2 b.0.1 g.0.1 x1.0 y2 in
      let y = expects mark.LeftParen p1 (m.0, entered m.1) g.0.1 a.0 a.1 y1 in
      found (λ (p : Stmt × State). Stated s p.0 p.1) (stmt.For at b.0.0 c.0.0 e.0.0 g.0.0, out) (x, z) g.2
      (stands (suc limit) 0 s out (stmt.For at b.0.0 c.0.0 e.0.0 g.0.0) _ (stmt-For at b.0.0 c.0.0 e.0.0 g.0.0)
      (as_block_takes at keyword.For (takes_mark mark.LeftParen ∷ p1) s m g.0.1 i j y) (omega arith)
      (omega (arith, x1.1, x2.1, x3.1, x4.1)))

  goto_takes : (s m z : State) (x : Stmt) (at : ℕ) → Takes at (kind.Keyword keyword.Goto) s.0 m.0 → s.1 ≡ m.1 →
      goto_at at m ≡ Some (x, z) → Stated s x z
  unfolding goto_at
  goto_takes s m z x at i j h =
      let a = bind_some (name_at m) _ _ h in
      let b = bind_some (expect mark.Semicolon a.0.2) _ _ a.2 in
      let ps = takes (kind.Identifier a.0.0) ∷ takes_mark mark.Semicolon ∷ [] in
      let y = take_at at (kind.Keyword keyword.Goto) ps s m b.0.2 i j (expects_name (takes_mark mark.Semicolon ∷ []) m
      b.0.2 a.0 a.1 (expects mark.Semicolon [] a.0.2 b.0.2 b.0 b.1 refl)) in
      found (λ (p : Stmt × State). Stated s p.0 p.1) (stmt.Goto at a.0.0, b.0.2) (x, z) b.2
      (stands (suc limit) 0 s b.0.2 (stmt.Goto at a.0.0) _ (stmt-Goto at a.0.0) y (omega arith) (omega arith))

  continue_takes : (s m z : State) (x : Stmt) (at : ℕ) → Takes at (kind.Keyword keyword.Continue) s.0 m.0 →
      s.1 ≡ m.1 → continue_at at m ≡ Some (x, z) → Stated s x z
  unfolding continue_at
  continue_takes s m z x at i j h =
      let b = bind_some (expect mark.Semicolon m) _ _ h in
      let y = take_at at (kind.Keyword keyword.Continue) (takes_mark mark.Semicolon ∷ []) s m b.0.2 i j
      (expects mark.Semicolon [] m b.0.2 b.0 b.1 refl) in
      found (λ (p : Stmt × State). Stated s p.0 p.1) (stmt.Continue at, b.0.2) (x, z) b.2
      (stands (suc limit) 0 s b.0.2 (stmt.Continue at) _ (stmt-Continue at) y (omega arith) (omega arith))

  break_takes : (s m z : State) (x : Stmt) (at : ℕ) → Takes at (kind.Keyword keyword.Break) s.0 m.0 → s.1 ≡ m.1 →
      break_at at m ≡ Some (x, z) → Stated s x z
  unfolding break_at
  break_takes s m z x at i j h =
      let b = bind_some (expect mark.Semicolon m) _ _ h in
      let y = take_at at (kind.Keyword keyword.Break) (takes_mark mark.Semicolon ∷ []) s m b.0.2 i j
      (expects mark.Semicolon [] m b.0.2 b.0 b.1 refl) in
      found (λ (p : Stmt × State). Stated s p.0 p.1) (stmt.Break at, b.0.2) (x, z) b.2
      (stands (suc limit) 0 s b.0.2 (stmt.Break at) _ (stmt-Break at) y (omega arith) (omega arith))

  return_takes : (s m z : State) (x : Stmt) (at : ℕ) → Takes at (kind.Keyword keyword.Return) s.0 m.0 → s.1 ≡ m.1 →
      return_at r at m ≡ Some (x, z) → Stated s x z
  unfolding return_at
  return_takes s m z x at i j h =
      let a = bind_some (optional_at r mark.Semicolon m) _ _ h in
      let b = bind_some (expect mark.Semicolon a.0.1) _ _ a.2 in
      let d = optional_takes mark.Semicolon m a.0.1 a.0.0 a.1 in
      let ps = value_parts a.0.0 ++ takes_mark mark.Semicolon ∷ [] in
      let y = join (value_parts a.0.0) (takes_mark mark.Semicolon ∷ []) m a.0.1 b.0.2 d.0 (expects mark.Semicolon []
      a.0.1 b.0.2 b.0 b.1 refl) in
      found (λ (p : Stmt × State). Stated s p.0 p.1) (stmt.Return at a.0.0, b.0.2) (x, z) b.2
      (stands (suc limit) 0 s b.0.2 (stmt.Return at a.0.0) _ (stmt-Return at a.0.0)
      (take_at at (kind.Keyword keyword.Return) ps s m b.0.2 i j y) (omega arith) (omega (arith, d.1)))

  keyword_takes : (s m z : State) (x : Stmt) (at : ℕ) (k : Keyword) → Takes at (kind.Keyword k) s.0 m.0 → s.1 ≡ m.1 →
      keyword_statement turn r inside k at m s ≡ Some (x, z) → Stated s x z
  keyword_takes s m z x at keyword.Case i j h = case_takes s m z x at i j h
  keyword_takes s m z x at keyword.Default i j h = default_takes s m z x at i j h
  keyword_takes s m z x at keyword.If i j h = if_takes s m z x at i j h
  keyword_takes s m z x at keyword.Switch i j h = switch_takes s m z x at i j h
  keyword_takes s m z x at keyword.While i j h = while_takes s m z x at i j h
  keyword_takes s m z x at keyword.Do i j h = do_takes s m z x at i j h
  keyword_takes s m z x at keyword.For i j h = for_takes s m z x at i j h
  keyword_takes s m z x at keyword.Goto i j h = goto_takes s m z x at i j h
  keyword_takes s m z x at keyword.Continue i j h = continue_takes s m z x at i j h
  keyword_takes s m z x at keyword.Break i j h = break_takes s m z x at i j h
  keyword_takes s m z x at keyword.Return i j h = return_takes s m z x at i j h
  keyword_takes s m z x at _ i j h = value_takes s z x h

  plain_takes_by : (s m z : State) (x : Stmt) (at : ℕ) (k : TokenKind) → Takes at k s.0 m.0 → s.1 ≡ m.1 →
      plain_by turn r inside k at m s ≡ Some (x, z) → Stated s x z
  plain_takes_by s m z x at (kind.Keyword k) i j h = keyword_takes s m z x at k i j h
  plain_takes_by s m z x at (kind.Punctuator mark.LeftBrace) i j h = block_takes s m z x at i j h
  plain_takes_by s m z x at _ i j h = value_takes s z x h

  plain_takes : (tokens : List Token) (scope : Scope) (z : State) (x : Stmt) → plain_in turn r inside tokens scope ≡
      Some (x, z) → Stated (tokens, scope) x z
  plain_takes [] scope z x h = cc
  plain_takes (t ∷ rest) scope z x h =
      plain_takes_by (t ∷ rest, scope) (rest, scope) z x t.start t.kind (first_taken t rest) refl h

  stmt_takes_by : (rank : ℕ) (s z : State) (x : Stmt) → stmt_by turn r inside rank s ≡ Some (x, z) →
      DerivesStmt (suc limit) rank s x z
  unfolding stmt_by
  stmt_takes_by rank s z x h =
      elim (chosen (labelled s.0) _ _ _ h) [
        | inl p ↦ looser (suc limit) 0 rank s z x (omega arith) (label_takes s z x p.1)
        | inr p ↦
            elim (chosen (specifies_in false s.0 s.1) _ _ _ p.1) [
              | inl q ↦
                  let g = guarded (nat_le 1 rank) _ _ q.1 in
                  looser (suc limit) 1 rank s z x (nat_le_true _ _ g.0) (declared_takes s z x g.1)
              | inr q ↦ looser (suc limit) 0 rank s z x (omega arith) (plain_takes s.0 s.1 z x q.1)
            ]
      ]

pub stmt_takes : ((limit : ℕ) → SoundBelow limit (rules limit)) → (limit : ℕ) → SoundTurn limit (stmt_at limit)
unfolding stmt_at
stmt_takes below zero rank s z x h = cc
stmt_takes below (suc limit) rank s z x h =
    stmt_takes_by limit (rules limit) (below limit) (initializer_at limit) (initializer_takes below limit)
    (stmt_at limit) (stmt_takes below limit) rank s z x h
