-- What the grammar derives is read: statements.
use Rattle.std.proofs.Common.{
  ◌≡◌,
  ◌≤◌,
  ◌<◌,
  ℕ,
  zero,
  suc,
  List,
  [],
  ◌∷◌,
  ◌++◌,
  length,
  Option,
  Some,
  None,
  Bool,
  true,
  false,
  refl,
  sym,
  ap,
  ◌∙◌,
  subst,
  arith,
}
use Rattle.std.specs.Prelude.{map, option_map}
use Rattle.c_language.specs.declared.token.Token.{Token}
use Rattle.c_language.specs.declared.token.TokenKind.{TokenKind}
use Rattle.c_language.specs.declared.token.TokenKind.TheVariants as kind
use Rattle.c_language.specs.declared.token.Keyword.{Keyword}
use Rattle.c_language.specs.declared.token.Keyword.TheVariants as keyword
use Rattle.c_language.specs.declared.token.Punctuator.{Punctuator}
use Rattle.c_language.specs.declared.token.Punctuator.TheVariants as mark
use Rattle.c_language.specs.declared.expr.Expr.{Expr}
use Rattle.c_language.specs.declared.unit.Declaration.{Declaration}
use Rattle.c_language.specs.declared.unit.ForStart.{ForStart}
use Rattle.c_language.specs.declared.unit.ForStart.TheVariants as start
use Rattle.c_language.specs.declared.unit.Stmt.{Stmt}
use Rattle.c_language.specs.declared.unit.Stmt.TheVariants as stmt
use Rattle.c_grammar.specs.Parts.{
  Name,
  Part,
  takes,
  takes_at,
  closes,
  Scope,
  State,
  Takes,
  Spans,
  entered,
  left,
  specifies_in,
}
use Rattle.c_grammar.specs.Grammar.{Shape, shape, takes_mark}
use Rattle.c_grammar.specs.Reading.{Rules, rules, begins, begins_keyword, binds}
use Rattle.c_grammar.specs.Units.{
  joined_shapes,
  highest_stmt,
  value_parts,
  value_height,
  only_statement,
  substatement,
  else_parts,
  else_height,
  for_start_parts,
  for_start_height,
  condition_parts,
  stmt_shape,
  DerivesStmt,
  declaration_of,
}
use Rattle.c_grammar.specs.UnitReading.{
  Inside,
  declaration_at,
  initializer_at,
  Turn,
  block_items_at,
  block_at,
  optional_at,
  value_statement_at,
  label_at,
  case_at,
  default_at,
  substatement_at,
  condition_at,
  else_at,
  if_at,
  switch_at,
  while_at,
  do_at,
  for_declaration_at,
  for_value_at,
  for_start_at,
  for_at,
  goto_at,
  continue_at,
  break_at,
  return_at,
  labelled,
  next_colon,
  keyword_statement,
  plain_by,
  plain_in,
  declared_statement_at,
  stmt_by,
  stmt_at,
}
use Rattle.c_grammar.proofs.Spans.{split, no_more}
use Rattle.c_grammar.proofs.Begins.{token, taken, opening, opening_in, starts, sized, not_opening, specified_mark}
use Rattle.c_grammar.proofs.Reach.{nat_le_is, behind}
use Rattle.c_grammar.proofs.UnitEquations.{
  stmt-Block,
  stmt-Declared,
  stmt-Value,
  stmt-Label,
  stmt-Case,
  stmt-Default,
  stmt-If,
  stmt-Switch,
  stmt-While,
  stmt-Do,
  stmt-For,
  stmt-Goto,
  stmt-Continue,
  stmt-Break,
  stmt-Return,
  EachStmt,
  MaybeStmt,
  StmtSteps,
  of_stmt,
}
use Rattle.c_grammar.proofs.UnitSteps.{next_same}
use Rattle.c_grammar.proofs.UnitBegins.{CompleteBelow, colon_same, labelled_same, declaration_begins}
use Rattle.c_grammar.proofs.DeclarationComplete.{initializer_again, declaration_again}

-- ---- how a statement begins

-- it doesn't begin with `}`, and takes a token
record Begun (x : Stmt) : Type 0 where
  no_brace : (s z : State) → Spans (stmt_shape x).parts s z → begins mark.RightBrace s ≡ false
  tall : 0 < (stmt_shape x).height
  flat : (stmt_shape x).rank ≤ 1
  less : (s z : State) → Spans (stmt_shape x).parts s z → length z.0 < length s.0

value_brace : (at : ℕ) (value : Option Expr) (s z : State) → Spans (value_parts value ++
    takes_at at (kind.Punctuator mark.Semicolon) ∷ []) s z → begins mark.RightBrace s ≡ false
value_brace at None s z x = rw (taken x.1) refl
value_brace at (Some e) s z x =
    let p = split (shape e).parts (takes_at at (kind.Punctuator mark.Semicolon) ∷ []) s z x in
    not_opening mark.RightBrace s.0 (starts e s p.0 p.1).opens refl

value_less : (at : ℕ) (value : Option Expr) (s z : State) → Spans (value_parts value ++
    takes_at at (kind.Punctuator mark.Semicolon) ∷ []) s z → length z.0 < length s.0
value_less at value s z x =
    let p = split (value_parts value) (takes_at at (kind.Punctuator mark.Semicolon) ∷ []) s z x in
    let l = behind at (kind.Punctuator mark.Semicolon) p.2.0 p.0 z [] p.2.1 p.2.2 in
    omega (arith, no_more (value_parts value) s p.0 p.1)

-- parts whose first takes a token that isn't `}`
abbrev leads : List Part → Bool
leads (takes_at at (kind.Keyword k) ∷ ps) = true
leads (takes_at at (kind.Identifier name) ∷ ps) = true
leads (takes_at at (kind.Punctuator mark.LeftBrace) ∷ ps) = true
leads _ = false

led_brace : (ps : List Part) (s z : State) → leads ps ≡ true → Spans ps s z → begins mark.RightBrace s ≡ false
led_brace (takes_at at (kind.Keyword k) ∷ ps) s z t x = rw (taken x.1) refl
led_brace (takes_at at (kind.Identifier name) ∷ ps) s z t x = rw (taken x.1) refl
led_brace (takes_at at (kind.Punctuator mark.LeftBrace) ∷ ps) s z t x = rw (taken x.1) refl
led_brace _ s z t x = cc

led_less : (ps : List Part) (s z : State) → leads ps ≡ true → Spans ps s z → length z.0 < length s.0
led_less (takes_at at k ∷ ps) s z t x = behind at k x.0 s z ps x.1 x.2
led_less _ s z t x = cc

led : (x : Stmt) (q : Shape) → stmt_shape x ≡ q → leads q.parts ≡ true → 0 < q.height → q.rank ≤ 1 → Begun x
led x q e l t f = record {
  no_brace = λ s z y. led_brace q.parts s z l (subst (λ (p : Shape). Spans p.parts s z) e y);
  tall = subst (λ (p : Shape). 0 < p.height) (sym e) t;
  flat = subst (λ (p : Shape). p.rank ≤ 1) (sym e) f;
  less = λ s z y. led_less q.parts s z l (subst (λ (p : Shape). Spans p.parts s z) e y);
}

begun_steps : StmtSteps Begun
begun_steps = record {
  on_block = λ at items each. led _ _ (stmt-Block at items) refl (omega arith) (omega arith);
  on_declared = λ d. record {
    no_brace =
        λ s z. rw stmt-Declared (λ (x : _). specified_mark mark.RightBrace s.0 s.1 false (declaration_begins d s z
        x).specifies);
    tall = rw stmt-Declared (omega arith);
    flat = rw stmt-Declared (omega arith);
    less = λ s z. rw stmt-Declared (λ (x : _). (declaration_begins d s z x).less);
  };
  on_value = λ at value. record {
    no_brace = λ s z. rw stmt-Value (λ (x : _). value_brace at value s z x);
    tall = rw stmt-Value (omega arith);
    flat = rw stmt-Value (omega arith);
    less = λ s z. rw stmt-Value (λ (x : _). value_less at value s z x);
  };
  on_label = λ at name body i. led _ _ (stmt-Label at name body) refl (omega arith) (omega arith);
  on_case = λ at value body i. led _ _ (stmt-Case at value body) refl (omega arith) (omega arith);
  on_default = λ at body i. led _ _ (stmt-Default at body) refl (omega arith) (omega arith);
  on_if =
      λ at condition positive negative i j. led _ _ (stmt-If at condition positive negative) refl (omega arith)
      (omega arith);
  on_switch = λ at value body i. led _ _ (stmt-Switch at value body) refl (omega arith) (omega arith);
  on_while = λ at condition body i. led _ _ (stmt-While at condition body) refl (omega arith) (omega arith);
  on_do = λ at body condition i. led _ _ (stmt-Do at body condition) refl (omega arith) (omega arith);
  on_for =
      λ at start condition step body i. led _ _ (stmt-For at start condition step body) refl (omega arith)
      (omega arith);
  on_goto = λ at name. led _ _ (stmt-Goto at name) refl (omega arith) (omega arith);
  on_continue = λ at. led _ _ (stmt-Continue at) refl (omega arith) (omega arith);
  on_break = λ at. led _ _ (stmt-Break at) refl (omega arith) (omega arith);
  on_return = λ at value. led _ _ (stmt-Return at value) refl (omega arith) (omega arith);
}

begun : (x : Stmt) → Begun x
begun x = of_stmt Begun begun_steps x

-- ---- which statement begins here

keyword_opening : (turn : Turn) (r : Rules) (inside : Inside) (k : Keyword) (at : ℕ) (rest s : State) →
    opening (kind.Keyword k) ≡ true → keyword_statement turn r inside k at rest s ≡ value_statement_at r s
keyword_opening turn r inside keyword.Sizeof at rest s h = refl
keyword_opening turn r inside _ at rest s h = cc

plain_opening : (turn : Turn) (r : Rules) (inside : Inside) (k : TokenKind) (at : ℕ) (rest s : State) →
    opening k ≡ true → plain_by turn r inside k at rest s ≡ value_statement_at r s
plain_opening turn r inside (kind.Keyword k) at rest s h = keyword_opening turn r inside k at rest s h
plain_opening turn r inside (kind.Punctuator mark.LeftBrace) at rest s h = cc
plain_opening turn r inside _ at rest s h = refl

plain_in_opening : (turn : Turn) (r : Rules) (inside : Inside) (tokens : List Token) (scope : Scope) →
    opening_in tokens ≡ true → plain_in turn r inside tokens scope ≡ value_statement_at r (tokens, scope)
plain_in_opening turn r inside [] scope h = cc
plain_in_opening turn r inside (t ∷ rest) scope h =
    plain_opening turn r inside t.kind t.start (rest, scope) (t ∷ rest, scope) h

-- ---- statements are read

module _ (complete : (limit : ℕ) → CompleteBelow limit (rules limit)) where
  record Again (x : Stmt) : Type 0 where
    reads : (below rank : ℕ) (s z : State) → Spans (stmt_shape x).parts s z → (stmt_shape x).rank ≤ rank →
        (stmt_shape x).height ≤ suc below → stmt_at (suc below) rank s ≡ Some (x, z)

  inner : (x : Stmt) → Again x → (below rank : ℕ) (s z : State) → Spans (stmt_shape x).parts s z →
      (stmt_shape x).rank ≤ rank → (stmt_shape x).height ≤ below → stmt_at below rank s ≡ Some (x, z)
  inner x a zero rank s z y fits low = absurd (omega (arith, (begun x).tall))
  inner x a (suc below) rank s z y fits low = a.reads below rank s z y fits low

  declared_again : (below : ℕ) (d : Declaration) (s z : State) → Spans (declaration_of d).parts s z →
      (declaration_of d).height ≤ below → declaration_at (rules below) (initializer_at below) s ≡ Some (d, z)
  declared_again below d s z x low =
      declaration_again below (rules below) (complete below) (initializer_at below) (λ v. initializer_again complete
      below v) d s z x low

  -- a statement that its keyword names, or `{`
  by_keyword : (below rank at : ℕ) (k : Keyword) (rest : List Token) (s : State) →
      (t : Takes at (kind.Keyword k) s.0 rest) → specifies_in false (token at (kind.Keyword k) t.first ∷ rest) s.1 ≡
      false → stmt_at (suc below) rank s ≡ keyword_statement (stmt_at below) (rules below) (initializer_at below) k at
      (rest, s.1) (token at (kind.Keyword k) t.first ∷ rest, s.1)
  unfolding stmt_at stmt_by
  by_keyword below rank at k rest s t h = rw (taken t, h) refl

  by_brace : (below rank at : ℕ) (rest : List Token) (s : State) → Takes at (kind.Punctuator mark.LeftBrace) s.0
      rest → stmt_at (suc below) rank s ≡ block_at (stmt_at below) at (rest, s.1)
  unfolding stmt_at stmt_by
  by_brace below rank at rest s t = rw (taken t) refl

  by_expr : (below rank : ℕ) (e : Expr) (s m : State) → Spans (shape e).parts s m → next_colon m.0 ≡ false →
      stmt_at (suc below) rank s ≡ value_statement_at (rules below) s
  unfolding stmt_at stmt_by
  by_expr below rank e s m x c =
      let b = starts e s m x in
      let l : labelled s.0 ≡ false = sym (labelled_same s.0) ∙ b.unlabelled (colon_same m.0 ∙ c) in
      let o = plain_in_opening (stmt_at below) (rules below) (initializer_at below) s.0 s.1 b.opens in
      rw (l, b.no_type) o

  expr_again : (limit : ℕ) (e : Expr) (s m : State) → Spans (shape e).parts s m → (shape e).height ≤ limit →
      16 < binds m → (rules limit).expr 16 s ≡ Some (e, m)
  expr_again limit e s m x low loose =
      (complete limit).expr 16 s m e (record { spans = x; fits = (sized e).0; low = low }) loose

  items_again : (below n : ℕ) (xs : List Stmt) (s m : State) → EachStmt Again xs → length s.0 < n →
      highest_stmt (map stmt_shape xs) ≤ below → Spans (joined_shapes (map stmt_shape xs)) s m →
      begins mark.RightBrace m ≡ true → block_items_at (stmt_at below) n s ≡ Some (xs, m)
  unfolding block_items_at
  items_again below zero xs s m each enough low y ends = absurd (omega arith)
  items_again below (suc n) [] s m each enough low y ends =
      let e : begins mark.RightBrace s ≡ true = rw y ends in rw e (ap (λ (q : State). Some ([], q)) y)
  items_again below (suc n) (x ∷ xs) s m each enough low y ends =
      let p = split (stmt_shape x).parts (joined_shapes (map stmt_shape xs)) s m y in
      let read = inner x each.0 below 1 s p.0 p.1 (begun x).flat (omega arith) in
      let b = (begun x).no_brace s p.0 p.1 in
      let more = items_again below n xs p.0 m each.1 (omega (arith, (begun x).less s p.0 p.1)) (omega arith) p.2
      ends in
      rw (b, read, more) refl

  block_base : (at : ℕ) (items : List Stmt) → EachStmt Again items → Again (stmt.Block at items)
  unfolding block_at
  block_base at items each = record {
    reads = λ below rank s z. rw stmt-Block (λ (x : _) fits low.
        let rest = closes ∷ takes_mark mark.RightBrace ∷ [] in
        let m : State = (x.0, entered s.1) in
        let p = split (joined_shapes (map stmt_shape items)) rest m z x.2 in
        let read = items_again below (suc (length x.0)) items m p.0 each (omega arith) (omega arith) p.1
        (rw (taken p.2.2) refl) in
        by_brace below rank at x.0 s x.1 ∙ rw (read, taken p.2.2) (ap (λ (w : State). Some (stmt.Block at items, w))
        p.2.3));
  }

  declared_base : (d : Declaration) → Again (stmt.Declared d)
  unfolding stmt_at stmt_by declared_statement_at
  declared_base d = record {
    reads = λ below rank s z. rw stmt-Declared (λ (x : _) fits low.
        let b = declaration_begins d s z x in
        let read = declared_again below d s z x (omega arith) in
        rw (b.unlabelled, b.specifies, nat_le_is 1 rank fits, read) refl);
  }

  -- an expression, where one stands before the mark
  optional_again : (limit : ℕ) (w : Punctuator) (value : Option Expr) (s m : State) → opening (kind.Punctuator w) ≡
      false → Spans (value_parts value) s m → value_height value ≤ limit → begins w m ≡ true → 16 < binds m →
      optional_at (rules limit) w s ≡ Some (value, m)
  unfolding optional_at
  optional_again limit w None s m shut y low ends loose =
      let e : begins w s ≡ true = rw y ends in rw e (ap (λ (q : State). Some (None, q)) y)
  optional_again limit w (Some e) s m shut y low ends loose =
      let b = not_opening w s.0 (starts e s m y).opens shut in
      let read = expr_again limit e s m y low loose in
      rw (b, read) refl

  value_again : (limit at : ℕ) (value : Option Expr) (s z : State) → Spans (value_parts value ++
      takes_at at (kind.Punctuator mark.Semicolon) ∷ []) s z → value_height value ≤ limit → value_statement_at
      (rules limit) s ≡ Some (stmt.Value at value, z)
  unfolding value_statement_at
  value_again limit at value s z x low =
      let p = split (value_parts value) (takes_at at (kind.Punctuator mark.Semicolon) ∷ []) s z x in
      let read = optional_again limit mark.Semicolon value s p.0 refl p.1 low (rw (taken p.2.1) refl)
      (rw (taken p.2.1) (omega arith)) in
      rw (read, taken p.2.1) (ap (λ (w : State). Some (stmt.Value at value, w)) p.2.2)

  by_value : (below rank at : ℕ) (value : Option Expr) (s z : State) → Spans (value_parts value ++
      takes_at at (kind.Punctuator mark.Semicolon) ∷ []) s z → stmt_at (suc below) rank s ≡ value_statement_at
      (rules below) s
  unfolding stmt_at stmt_by
  by_value below rank at None s z x = rw (taken x.1) refl
  by_value below rank at (Some e) s z x =
      let p = split (shape e).parts (takes_at at (kind.Punctuator mark.Semicolon) ∷ []) s z x in
      by_expr below rank e s p.0 p.1 (rw (taken p.2.1) refl)

  value_base : (at : ℕ) (value : Option Expr) → Again (stmt.Value at value)
  value_base at value =
      record {
        reads = λ below rank s z. rw stmt-Value (λ (x : _) fits low. by_value below rank at value s z x ∙
            value_again below at value s z x (omega arith));
      }

  label_base : (at : ℕ) (name : Name) (body : Stmt) → Again body → Again (stmt.Label at name body)
  unfolding stmt_at stmt_by label_at
  label_base at name body a = record {
    reads = λ below rank s z. rw stmt-Label (λ (x : _) fits low.
        let y = x.2 in
        let read = inner body a below 0 (y.1, s.1) z y.3.1 y.3.0 (omega arith) in
        rw (taken x.1, taken y.2, read) refl);
  }

  case_base : (at : ℕ) (value : Expr) (body : Stmt) → Again body → Again (stmt.Case at value body)
  unfolding case_at
  case_base at value body a = record {
    reads = λ below rank s z. rw stmt-Case (λ (x : _) fits low.
        let ps = takes_mark mark.Colon ∷ only_statement (stmt_shape body) in
        let p = split (shape value).parts ps (x.0, s.1) z x.2.1 in
        let read = (complete below).expr 14 (x.0, s.1) p.0 value (record {
          spans = p.1;
          fits = x.2.0;
          low =
              omega arith;
        }) (rw (taken p.2.2) (omega arith)) in
        let read' = inner body a below 0 (p.2.1, p.0.1) z p.2.3.1 p.2.3.0 (omega arith) in
        by_keyword below rank at keyword.Case x.0 s x.1 refl ∙ rw (read, taken p.2.2, read') refl);
  }

  default_base : (at : ℕ) (body : Stmt) → Again body → Again (stmt.Default at body)
  unfolding default_at
  default_base at body a = record {
    reads = λ below rank s z. rw stmt-Default (λ (x : _) fits low.
        let y = x.2 in
        let read = inner body a below 0 (y.1, s.1) z y.3.1 y.3.0 (omega arith) in
        by_keyword below rank at keyword.Default x.0 s x.1 refl ∙ rw (taken y.2, read) refl);
  }

  condition_again : (limit : ℕ) (e : Expr) (s z : State) → Spans (condition_parts e) s z → (shape e).height ≤ limit →
      condition_at (rules limit) s ≡ Some (e, z)
  unfolding condition_at
  condition_again limit e s z x low =
      let p = split (shape e).parts (takes_mark mark.RightParen ∷ []) (x.1, s.1) z x.3 in
      let read = expr_again limit e (x.1, s.1) p.0 p.1 low (rw (taken p.2.2) (omega arith)) in
      rw (taken x.2, read, taken p.2.2) (ap (λ (w : State). Some (e, w)) p.2.3)

  substatement_again : (below : ℕ) (x : Stmt) (s z : State) → Again x → Spans (substatement (stmt_shape x)) s z →
      (stmt_shape x).height ≤ below → substatement_at (stmt_at below) s ≡ Some (x, z)
  unfolding substatement_at
  substatement_again below x s z a y low =
      let p = split (stmt_shape x).parts (closes ∷ []) (s.0, entered s.1) z y.1 in
      let read = inner x a below 0 (s.0, entered s.1) p.0 p.1 y.0 low in
      rw read (ap (λ (w : State). Some (x, w)) p.2)

  else_again : (below : ℕ) (x : Option Stmt) (s z : State) → MaybeStmt Again x →
      Spans (else_parts (option_map stmt_shape x)) s z → else_height (option_map stmt_shape x) ≤ below →
      else_at (stmt_at below) s ≡ Some (x, z)
  unfolding else_at
  else_again below None s z a y low =
      let b : begins_keyword keyword.Else s ≡ false = next_same keyword.Else s.0 ∙ y.0 in
      rw b (ap (λ (w : State). Some (None, w)) y.1)
  else_again below (Some x) s z a y low =
      let read = substatement_again below x (y.1, s.1) z a y.3 low in
      rw (taken y.2, read) refl

  if_base : (at : ℕ) (condition : Expr) (positive : Stmt) (negative : Option Stmt) → Again positive → MaybeStmt Again
      negative → Again (stmt.If at condition positive negative)
  unfolding if_at
  if_base at condition positive negative a b = record {
    reads = λ below rank s z. rw stmt-If (λ (x : _) fits low.
        let m : State = (x.0, entered s.1) in
        let p2 = else_parts (option_map stmt_shape negative) in
        let p1 = substatement (stmt_shape positive) in
        let p = split (condition_parts condition ++ (p1 ++ p2)) (closes ∷ []) m z x.2 in
        let q = split (condition_parts condition) (p1 ++ p2) m p.0 p.1 in
        let u = split p1 p2 q.0 p.0 q.2 in
        let read = condition_again below condition m q.0 q.1 (omega arith) in
        let read' = substatement_again below positive q.0 u.0 a u.1 (omega arith) in
        let read'' = else_again below negative u.0 p.0 b u.2 (omega arith) in
        by_keyword below rank at keyword.If x.0 s x.1 refl ∙ rw (read, read', read'')
        (ap (λ (w : State). Some (stmt.If at condition positive negative, w)) p.2));
  }

  switch_base : (at : ℕ) (value : Expr) (body : Stmt) → Again body → Again (stmt.Switch at value body)
  unfolding switch_at
  switch_base at value body a = record {
    reads = λ below rank s z. rw stmt-Switch (λ (x : _) fits low.
        let m : State = (x.0, entered s.1) in
        let p1 = substatement (stmt_shape body) in
        let p = split (condition_parts value ++ p1) (closes ∷ []) m z x.2 in
        let q = split (condition_parts value) p1 m p.0 p.1 in
        let read = condition_again below value m q.0 q.1 (omega arith) in
        let read' = substatement_again below body q.0 p.0 a q.2 (omega arith) in
        by_keyword below rank at keyword.Switch x.0 s x.1 refl ∙ rw (read, read')
        (ap (λ (w : State). Some (stmt.Switch at value body, w)) p.2));
  }

  while_base : (at : ℕ) (condition : Expr) (body : Stmt) → Again body → Again (stmt.While at condition body)
  unfolding while_at
  while_base at condition body a = record {
    reads = λ below rank s z. rw stmt-While (λ (x : _) fits low.
        let m : State = (x.0, entered s.1) in
        let p1 = substatement (stmt_shape body) in
        let p = split (condition_parts condition ++ p1) (closes ∷ []) m z x.2 in
        let q = split (condition_parts condition) p1 m p.0 p.1 in
        let read = condition_again below condition m q.0 q.1 (omega arith) in
        let read' = substatement_again below body q.0 p.0 a q.2 (omega arith) in
        by_keyword below rank at keyword.While x.0 s x.1 refl ∙ rw (read, read')
        (ap (λ (w : State). Some (stmt.While at condition body, w)) p.2));
  }

  do_base : (at : ℕ) (body : Stmt) (condition : Expr) → Again body → Again (stmt.Do at body condition)
  unfolding do_at
  do_base at body condition a = record {
    reads = λ below rank s z. rw stmt-Do (λ (x : _) fits low.
        let m : State = (x.0, entered s.1) in
        let p1 = substatement (stmt_shape body) in
        let p2 = condition_parts condition ++ takes_mark mark.Semicolon ∷ [] in
        let p = split (p1 ++ takes (kind.Keyword keyword.While) ∷ p2) (closes ∷ []) m z x.2 in
        let q = split p1 (takes (kind.Keyword keyword.While) ∷ p2) m p.0 p.1 in
        let y = q.2 in
        let u = split (condition_parts condition) (takes_mark mark.Semicolon ∷ []) (y.1, q.0.1) p.0 y.3 in
        let read = substatement_again below body m q.0 a q.1 (omega arith) in
        let read' = condition_again below condition (y.1, q.0.1) u.0 u.1 (omega arith) in
        let e : (u.2.1, left u.0.1) ≡ z = ap (λ (w : State). (w.0, left w.1)) u.2.3 ∙ p.2 in
        by_keyword below rank at keyword.Do x.0 s x.1 refl ∙ rw (read, taken y.2, read', taken u.2.2)
        (ap (λ (w : State). Some (stmt.Do at body condition, w)) e));
  }

  for_start_again : (below : ℕ) (x : ForStart) (s z : State) → Spans (for_start_parts x) s z → for_start_height x ≤
      below → for_start_at (rules below) (initializer_at below) s ≡ Some (x, z)
  unfolding for_value_at for_declaration_at
  for_start_again below (start.Value None) s z y low =
      let o = optional_again below mark.Semicolon None s s refl refl low (rw (taken y.2) refl)
      (rw (taken y.2) (omega arith)) in
      let b : specifies_in false s.0 s.1 ≡ false = rw (taken y.2) refl in
      rw (b, o, taken y.2) (ap (λ (w : State). Some (start.Value None, w)) y.3)
  for_start_again below (start.Value (Some e)) s z y low =
      let p = split (shape e).parts (takes_mark mark.Semicolon ∷ []) s z y in
      let o = optional_again below mark.Semicolon (Some e) s p.0 refl p.1 low (rw (taken p.2.2) refl)
      (rw (taken p.2.2) (omega arith)) in
      let b = (starts e s p.0 p.1).no_type in
      rw (b, o, taken p.2.2) (ap (λ (w : State). Some (start.Value (Some e), w)) p.2.3)
  for_start_again below (start.Declared d) s z y low =
      let b = (declaration_begins d s z y).specifies in
      let read = declared_again below d s z y low in
      rw (b, read) refl

  for_base : (at : ℕ) (first : ForStart) (condition step : Option Expr) (body : Stmt) → Again body →
      Again (stmt.For at first condition step body)
  unfolding for_at
  for_base at first condition step body a = record {
    reads = λ below rank s z. rw stmt-For (λ (x : _) fits low.
        let m : State = (x.0, entered s.1) in
        let p4 = substatement (stmt_shape body) in
        let p3 = value_parts step ++ takes_mark mark.RightParen ∷ p4 in
        let p2 = value_parts condition ++ takes_mark mark.Semicolon ∷ p3 in
        let p1 = for_start_parts first ++ p2 in
        let p = split (takes_mark mark.LeftParen ∷ p1) (closes ∷ []) m z x.2 in
        let y = p.1 in
        let q = split (for_start_parts first) p2 (y.1, m.1) p.0 y.3 in
        let u = split (value_parts condition) (takes_mark mark.Semicolon ∷ p3) q.0 p.0 q.2 in
        let v = split (value_parts step) (takes_mark mark.RightParen ∷ p4) (u.2.1, u.0.1) p.0 u.2.3 in
        let read1 = for_start_again below first (y.1, m.1) q.0 q.1 (omega arith) in
        let read2 = optional_again below mark.Semicolon condition q.0 u.0 refl u.1 (omega arith)
        (rw (taken u.2.2) refl) (rw (taken u.2.2) (omega arith)) in
        let read3 = optional_again below mark.RightParen step (u.2.1, u.0.1) v.0 refl v.1 (omega arith)
        (rw (taken v.2.2) refl) (rw (taken v.2.2) (omega arith)) in
        let read4 = substatement_again below body (v.2.1, v.0.1) p.0 a v.2.3 (omega arith) in
        by_keyword below rank at keyword.For x.0 s x.1 refl ∙ rw (
          taken y.2,
          read1,
          read2,
          taken u.2.2,
          read3,
          taken v.2.2,
          read4,
        ) (ap (λ (w : State). Some (stmt.For at first condition step body, w)) p.2));
  }

  goto_base : (at : ℕ) (name : Name) → Again (stmt.Goto at name)
  unfolding goto_at
  goto_base at name = record {
    reads = λ below rank s z. rw stmt-Goto (λ (x : _) fits low.
        let y = x.2 in
        by_keyword below rank at keyword.Goto x.0 s x.1 refl ∙ rw (taken y.2, taken y.3.2)
        (ap (λ (w : State). Some (stmt.Goto at name, w)) y.3.3));
  }

  continue_base : (at : ℕ) → Again (stmt.Continue at)
  unfolding continue_at
  continue_base at = record {
    reads = λ below rank s z. rw stmt-Continue (λ (x : _) fits low.
        by_keyword below rank at keyword.Continue x.0 s x.1 refl ∙ rw (taken x.2.2)
        (ap (λ (w : State). Some (stmt.Continue at, w)) x.2.3));
  }

  break_base : (at : ℕ) → Again (stmt.Break at)
  unfolding break_at
  break_base at = record {
    reads = λ below rank s z. rw stmt-Break (λ (x : _) fits low.
        by_keyword below rank at keyword.Break x.0 s x.1 refl ∙ rw (taken x.2.2)
        (ap (λ (w : State). Some (stmt.Break at, w)) x.2.3));
  }

  return_base : (at : ℕ) (value : Option Expr) → Again (stmt.Return at value)
  unfolding return_at
  return_base at value = record {
    reads = λ below rank s z. rw stmt-Return (λ (x : _) fits low.
        let p = split (value_parts value) (takes_mark mark.Semicolon ∷ []) (x.0, s.1) z x.2 in
        let read = optional_again below mark.Semicolon value (x.0, s.1) p.0 refl p.1 (omega arith)
        (rw (taken p.2.2) refl) (rw (taken p.2.2) (omega arith)) in
        by_keyword below rank at keyword.Return x.0 s x.1 refl ∙ rw (read, taken p.2.2)
        (ap (λ (w : State). Some (stmt.Return at value, w)) p.2.3));
  }

  again_steps : StmtSteps Again
  again_steps = record {
    on_block = block_base;
    on_declared = declared_base;
    on_value = value_base;
    on_label = label_base;
    on_case = case_base;
    on_default = default_base;
    on_if = if_base;
    on_switch = switch_base;
    on_while = while_base;
    on_do = do_base;
    on_for = for_base;
    on_goto = goto_base;
    on_continue = continue_base;
    on_break = break_base;
    on_return = return_base;
  }

  pub stmt_again : (limit rank : ℕ) (s z : State) (x : Stmt) → DerivesStmt limit rank s x z → stmt_at limit rank s ≡
      Some (x, z)
  stmt_again limit rank s z x d = inner x (of_stmt Again again_steps x) limit rank s z d.spans d.fits d.low
