-- Reading initializers, declarations, statements and external definitions.
use Rattle.std.specs.Prelude.{
  ℕ,
  zero,
  suc,
  List,
  [],
  ◌∷◌,
  length,
  Bool,
  true,
  false,
  cond,
  ◌&&◌,
  nat_le,
  Option,
  Some,
  None,
}
use Rattle.c_language.specs.declared.token.Token.{Token}
use Rattle.c_language.specs.declared.token.TokenKind.{TokenKind}
use Rattle.c_language.specs.declared.token.TokenKind.TheVariants as kind
use Rattle.c_language.specs.declared.token.Keyword.{Keyword}
use Rattle.c_language.specs.declared.token.Keyword.TheVariants as keyword
use Rattle.c_language.specs.declared.token.Punctuator.{Punctuator}
use Rattle.c_language.specs.declared.token.Punctuator.TheVariants as mark
use Rattle.c_language.specs.declared.expr.Expr.{Expr}
use Rattle.c_language.specs.declared.expr.Specifier.{Specifier}
use Rattle.c_language.specs.declared.expr.Declarator.{Declarator}
use Rattle.c_language.specs.declared.unit.Designator.{Designator}
use Rattle.c_language.specs.declared.unit.Designator.TheVariants as designator
use Rattle.c_language.specs.declared.unit.Initializer.{Initializer}
use Rattle.c_language.specs.declared.unit.Initializer.TheVariants as initial
use Rattle.c_language.specs.declared.unit.InitializerItem.{InitializerItem}
use Rattle.c_language.specs.declared.unit.InitDeclarator.{InitDeclarator}
use Rattle.c_language.specs.declared.unit.Declaration.{Declaration}
use Rattle.c_language.specs.declared.unit.ForStart.{ForStart}
use Rattle.c_language.specs.declared.unit.ForStart.TheVariants as start
use Rattle.c_language.specs.declared.unit.Stmt.{Stmt}
use Rattle.c_language.specs.declared.unit.Stmt.TheVariants as stmt
use Rattle.c_language.specs.declared.unit.Body.{Body}
use Rattle.c_language.specs.declared.unit.Body.TheVariants as body
use Rattle.c_language.specs.declared.unit.External.{External}
use Rattle.c_language.specs.declared.unit.External.TheVariants as external
use Rattle.c_grammar.specs.declared.declarator_place.DeclaratorPlace.TheVariants as place
use Rattle.c_grammar.specs.Parts.{
  Scope,
  State,
  declared,
  entered,
  left,
  forgetting,
  entered_function,
  specifies_in,
  is_punctuator,
}
use Rattle.c_grammar.specs.Grammar.{form}
use Rattle.c_grammar.specs.Reading.{
  Reading,
  ◌>>=◌,
  Rules,
  rules,
  take_by,
  a_literal,
  expect,
  expect_keyword,
  name_at,
  begins,
  begins_keyword,
  run_at,
  specification_at,
}
use Rattle.c_grammar.specs.Units.{makes_types, name_of, closer, closing, limit, file_scope}

-- ---- initializers

-- how an initializer is read that stands inside another
abbrev pub Inside : Type 0
Inside = State → Reading Initializer

abbrev pub is_designator : TokenKind → Bool
is_designator (kind.Punctuator mark.Dot) = true
is_designator (kind.Punctuator mark.LeftBracket) = true
is_designator _ = false

abbrev pub designated : List Token → Bool
designated [] = false
designated (t ∷ rest) = is_designator t.kind

unfoldable pub member_designator_at : ℕ → State → Reading Designator
member_designator_at at s = do
  name ← name_at s
  Some (designator.Member at name.0, name.2)

unfoldable pub element_designator_at : Rules → ℕ → State → Reading Designator
element_designator_at r at s = do
  index ← r.expr 14 s
  end ← expect mark.RightBracket index.1
  Some (designator.Element at index.0, end.2)

abbrev pub designator_by : Rules → TokenKind → ℕ → State → Reading Designator
designator_by r (kind.Punctuator mark.Dot) at s = member_designator_at at s
designator_by r (kind.Punctuator mark.LeftBracket) at s = element_designator_at r at s
designator_by r _ at s = None

abbrev pub designator_in : Rules → List Token → Scope → Reading Designator
designator_in r [] scope = None
designator_in r (t ∷ rest) scope = designator_by r t.kind t.start (rest, scope)

unfoldable pub designators_at : Rules → ℕ → State → Reading (List Designator)
designators_at r zero s = None
designators_at r (suc n) s = cond (designated s.0)
    (designator_in r s.0 s.1 >>= (λ x. designators_at r n x.1 >>= (λ more. Some (x.0 ∷ more.0, more.1))))
    (Some ([], s))

unfoldable pub designated_item_at : Rules → Inside → State → Reading InitializerItem
designated_item_at r inside s = do
  ds ← designators_at r (suc (length s.0)) s
  eq ← expect mark.Equal ds.1
  x ← inside eq.2
  Some (record { designators = ds.0; value = x.0 }, x.1)

unfoldable pub plain_item_at : Inside → State → Reading InitializerItem
plain_item_at inside s = do
  x ← inside s
  Some (record { designators = []; value = x.0 }, x.1)

abbrev pub item_at : Rules → Inside → State → Reading InitializerItem
item_at r inside s = cond (designated s.0) (designated_item_at r inside s) (plain_item_at inside s)

-- the items behind the first, and whether a comma follows the last
unfoldable pub more_items_at : Rules → Inside → ℕ → State → Reading (List InitializerItem × Bool)
more_items_at r inside zero s = None
more_items_at r inside (suc n) s = cond (begins mark.Comma s)
    (expect mark.Comma s >>= (λ c. cond (begins mark.RightBrace c.2)
    (Some (([], true), c.2))
    (item_at r inside c.2 >>= (λ x. more_items_at r inside n x.1 >>=
    (λ more. Some ((x.0 ∷ more.0.0, more.0.1), more.1))))))
    (Some (([], false), s))

unfoldable pub items_at : Rules → Inside → State → Reading (List InitializerItem × Bool)
items_at r inside s = cond (begins mark.RightBrace s) (Some (([], false), s)) (do
  first ← item_at r inside s
  more ← more_items_at r inside (suc (length first.1.0)) first.1
  Some ((first.0 ∷ more.0.0, more.0.1), more.1))

unfoldable pub initializer_list_at : Rules → Inside → State → Reading Initializer
initializer_list_at r inside s = do
  start ← expect mark.LeftBrace s
  items ← items_at r inside start.2
  end ← expect mark.RightBrace items.1
  Some (initial.List start.1 items.0.0 items.0.1, end.2)

unfoldable pub initializer_by : Rules → Inside → State → Reading Initializer
initializer_by r inside s = cond (begins mark.LeftBrace s) (initializer_list_at r inside s) (do
  value ← r.expr 15 s
  Some (initial.Value value.0, value.1))

-- an initializer of at most this height
unfoldable pub initializer_at : ℕ → Inside
initializer_at zero s = None
initializer_at (suc below) s = initializer_by (rules below) (initializer_at below) s

-- ---- declarations

-- a declarator of a declaration, whose name is then in scope
unfoldable pub declaring_at : Rules → Bool → State → Reading Declarator
declaring_at r is_type s = do
  d ← r.declarator place.Declaration (s.0, forgetting s.1)
  Some (d.0, (d.1.0, declared (name_of (form d.0)) is_type d.1.1))

unfoldable pub assembler_name_at : State → Reading (List (List ℕ))
assembler_name_at s = do
  word ← expect_keyword keyword.Asm s
  start ← expect mark.LeftParen word.2
  first ← take_by a_literal start.2.0 start.2.1
  more ← run_at a_literal (suc (length first.2.0)) first.2
  end ← expect mark.RightParen more.1
  Some (first.0 ∷ more.0, end.2)

abbrev pub assembler_at : State → Reading (List (List ℕ))
assembler_at s = cond (begins_keyword keyword.Asm s) (assembler_name_at s) (Some ([], s))

unfoldable pub initialized_at : Inside → State → Reading (Option Initializer)
initialized_at inside s =
    cond (begins mark.Equal s) (expect mark.Equal s >>= (λ eq. inside eq.2 >>= (λ x. Some (Some x.0, x.1))))
    (Some (None, s))

-- what follows a declarator
unfoldable pub rest_at : Inside → Declarator → State → Reading InitDeclarator
rest_at inside d s = do
  label ← assembler_at s
  value ← initialized_at inside label.1
  Some (record { declarator = d; assembler_name = label.0; initializer = value.0 }, value.1)

unfoldable pub init_at : Rules → Inside → Bool → State → Reading InitDeclarator
init_at r inside is_type s = do
  d ← declaring_at r is_type s
  rest_at inside d.0 d.1

unfoldable pub more_inits_at : Rules → Inside → Bool → ℕ → State → Reading (List InitDeclarator)
more_inits_at r inside is_type zero s = None
more_inits_at r inside is_type (suc n) s = cond (begins mark.Comma s)
    (expect mark.Comma s >>= (λ c. init_at r inside is_type c.2 >>= (λ x. more_inits_at r inside is_type n x.1 >>=
    (λ more. Some (x.0 ∷ more.0, more.1)))))
    (Some ([], s))

-- a declaration whose specifiers and first declarator were read
unfoldable pub declaration_behind_at : Rules → Inside → List Specifier → Declarator → State → Reading Declaration
declaration_behind_at r inside xs d s = do
  first ← rest_at inside d s
  more ← more_inits_at r inside (makes_types xs) (suc (length first.1.0)) first.1
  end ← expect mark.Semicolon more.1
  Some (record { specifiers = xs; declarators = first.0 ∷ more.0 }, end.2)

abbrev pub no_declarators : List Specifier → Declaration
no_declarators xs = record { specifiers = xs; declarators = [] }

unfoldable pub declaration_at : Rules → Inside → State → Reading Declaration
declaration_at r inside s = do
  xs ← specification_at r s
  cond (begins mark.Semicolon xs.1)
      (expect mark.Semicolon xs.1 >>= (λ end. Some (no_declarators xs.0, end.2)))
      (declaring_at r (makes_types xs.0) xs.1 >>= (λ d. declaration_behind_at r inside xs.0 d.0 d.1))

-- ---- statements

-- how the parts of a statement are read: a statement, or at rank 1 a declaration too
abbrev pub Turn : Type 0
Turn = ℕ → State → Reading Stmt

unfoldable pub block_items_at : Turn → ℕ → State → Reading (List Stmt)
block_items_at turn zero s = None
block_items_at turn (suc n) s = cond (begins mark.RightBrace s)
    (Some ([], s))
    (turn 1 s >>= (λ x. block_items_at turn n x.1 >>= (λ more. Some (x.0 ∷ more.0, more.1))))

-- after `{`
unfoldable pub block_at : Turn → ℕ → State → Reading Stmt
block_at turn at s = do
  items ← block_items_at turn (suc (length s.0)) (s.0, entered s.1)
  end ← expect mark.RightBrace (items.1.0, left items.1.1)
  Some (stmt.Block at items.0, end.2)

-- an expression, where something else than the punctuator comes next
unfoldable pub optional_at : Rules → Punctuator → State → Reading (Option Expr)
optional_at r m s = cond (begins m s) (Some (None, s)) (do
  e ← r.expr 16 s
  Some (Some e.0, e.1))

unfoldable pub value_statement_at : Rules → State → Reading Stmt
value_statement_at r s = do
  value ← optional_at r mark.Semicolon s
  end ← expect mark.Semicolon value.1
  Some (stmt.Value end.1 value.0, end.2)

unfoldable pub label_at : Turn → State → Reading Stmt
label_at turn s = do
  name ← name_at s
  colon ← expect mark.Colon name.2
  x ← turn 0 colon.2
  Some (stmt.Label name.1 name.0 x.0, x.1)

unfoldable pub case_at : Turn → Rules → ℕ → State → Reading Stmt
case_at turn r at s = do
  value ← r.expr 14 s
  colon ← expect mark.Colon value.1
  x ← turn 0 colon.2
  Some (stmt.Case at value.0 x.0, x.1)

unfoldable pub default_at : Turn → ℕ → State → Reading Stmt
default_at turn at s = do
  colon ← expect mark.Colon s
  x ← turn 0 colon.2
  Some (stmt.Default at x.0, x.1)

unfoldable pub substatement_at : Turn → State → Reading Stmt
substatement_at turn s = do
  x ← turn 0 (s.0, entered s.1)
  Some (x.0, (x.1.0, left x.1.1))

unfoldable pub condition_at : Rules → State → Reading Expr
condition_at r s = do
  start ← expect mark.LeftParen s
  e ← r.expr 16 start.2
  end ← expect mark.RightParen e.1
  Some (e.0, end.2)

unfoldable pub else_at : Turn → State → Reading (Option Stmt)
else_at turn s = cond (begins_keyword keyword.Else s)
    (expect_keyword keyword.Else s >>= (λ word. substatement_at turn word.2 >>= (λ x. Some (Some x.0, x.1))))
    (Some (None, s))

unfoldable pub if_at : Turn → Rules → ℕ → State → Reading Stmt
if_at turn r at s = do
  condition ← condition_at r (s.0, entered s.1)
  positive ← substatement_at turn condition.1
  negative ← else_at turn positive.1
  Some (stmt.If at condition.0 positive.0 negative.0, (negative.1.0, left negative.1.1))

unfoldable pub switch_at : Turn → Rules → ℕ → State → Reading Stmt
switch_at turn r at s = do
  value ← condition_at r (s.0, entered s.1)
  x ← substatement_at turn value.1
  Some (stmt.Switch at value.0 x.0, (x.1.0, left x.1.1))

unfoldable pub while_at : Turn → Rules → ℕ → State → Reading Stmt
while_at turn r at s = do
  condition ← condition_at r (s.0, entered s.1)
  x ← substatement_at turn condition.1
  Some (stmt.While at condition.0 x.0, (x.1.0, left x.1.1))

unfoldable pub do_at : Turn → Rules → ℕ → State → Reading Stmt
do_at turn r at s = do
  x ← substatement_at turn (s.0, entered s.1)
  word ← expect_keyword keyword.While x.1
  condition ← condition_at r word.2
  end ← expect mark.Semicolon condition.1
  Some (stmt.Do at x.0 condition.0, (end.2.0, left end.2.1))

unfoldable pub for_declaration_at : Rules → Inside → State → Reading ForStart
for_declaration_at r inside s = do
  d ← declaration_at r inside s
  Some (start.Declared d.0, d.1)

unfoldable pub for_value_at : Rules → State → Reading ForStart
for_value_at r s = do
  value ← optional_at r mark.Semicolon s
  end ← expect mark.Semicolon value.1
  Some (start.Value value.0, end.2)

abbrev pub for_start_at : Rules → Inside → State → Reading ForStart
for_start_at r inside s = cond (specifies_in false s.0 s.1) (for_declaration_at r inside s) (for_value_at r s)

unfoldable pub for_at : Turn → Rules → Inside → ℕ → State → Reading Stmt
for_at turn r inside at s = do
  open' ← expect mark.LeftParen (s.0, entered s.1)
  first ← for_start_at r inside open'.2
  condition ← optional_at r mark.Semicolon first.1
  middle ← expect mark.Semicolon condition.1
  step ← optional_at r mark.RightParen middle.2
  close ← expect mark.RightParen step.1
  x ← substatement_at turn close.2
  Some (stmt.For at first.0 condition.0 step.0 x.0, (x.1.0, left x.1.1))

unfoldable pub goto_at : ℕ → State → Reading Stmt
goto_at at s = do
  name ← name_at s
  end ← expect mark.Semicolon name.2
  Some (stmt.Goto at name.0, end.2)

unfoldable pub continue_at : ℕ → State → Reading Stmt
continue_at at s = do
  end ← expect mark.Semicolon s
  Some (stmt.Continue at, end.2)

unfoldable pub break_at : ℕ → State → Reading Stmt
break_at at s = do
  end ← expect mark.Semicolon s
  Some (stmt.Break at, end.2)

unfoldable pub return_at : Rules → ℕ → State → Reading Stmt
return_at r at s = do
  value ← optional_at r mark.Semicolon s
  end ← expect mark.Semicolon value.1
  Some (stmt.Return at value.0, end.2)

-- whether a name and a colon come next
abbrev pub is_name : TokenKind → Bool
is_name (kind.Identifier name) = true
is_name _ = false

abbrev pub next_colon : List Token → Bool
next_colon [] = false
next_colon (t ∷ rest) = is_punctuator mark.Colon t.kind

abbrev pub labelled : List Token → Bool
labelled [] = false
labelled (t ∷ rest) = is_name t.kind && next_colon rest

-- a statement that a keyword begins, behind the keyword; `whole` is the state at the keyword
abbrev pub keyword_statement : Turn → Rules → Inside → Keyword → ℕ → State → State → Reading Stmt
keyword_statement turn r inside keyword.Case at s whole = case_at turn r at s
keyword_statement turn r inside keyword.Default at s whole = default_at turn at s
keyword_statement turn r inside keyword.If at s whole = if_at turn r at s
keyword_statement turn r inside keyword.Switch at s whole = switch_at turn r at s
keyword_statement turn r inside keyword.While at s whole = while_at turn r at s
keyword_statement turn r inside keyword.Do at s whole = do_at turn r at s
keyword_statement turn r inside keyword.For at s whole = for_at turn r inside at s
keyword_statement turn r inside keyword.Goto at s whole = goto_at at s
keyword_statement turn r inside keyword.Continue at s whole = continue_at at s
keyword_statement turn r inside keyword.Break at s whole = break_at at s
keyword_statement turn r inside keyword.Return at s whole = return_at r at s
keyword_statement turn r inside _ at s whole = value_statement_at r whole

abbrev pub plain_by : Turn → Rules → Inside → TokenKind → ℕ → State → State → Reading Stmt
plain_by turn r inside (kind.Keyword k) at s whole = keyword_statement turn r inside k at s whole
plain_by turn r inside (kind.Punctuator mark.LeftBrace) at s whole = block_at turn at s
plain_by turn r inside _ at s whole = value_statement_at r whole

abbrev pub plain_in : Turn → Rules → Inside → List Token → Scope → Reading Stmt
plain_in turn r inside [] scope = None
plain_in turn r inside (t ∷ rest) scope = plain_by turn r inside t.kind t.start (rest, scope) (t ∷ rest, scope)

unfoldable pub declared_statement_at : Rules → Inside → State → Reading Stmt
declared_statement_at r inside s = do
  d ← declaration_at r inside s
  Some (stmt.Declared d.0, d.1)

abbrev pub declared_by : Rules → Inside → ℕ → State → Reading Stmt
declared_by r inside rank s = cond (nat_le 1 rank) (declared_statement_at r inside s) None

unfoldable pub stmt_by : Turn → Rules → Inside → ℕ → State → Reading Stmt
stmt_by turn r inside rank s =
    cond (labelled s.0) (label_at turn s) (cond (specifies_in false s.0 s.1) (declared_by r inside rank s)
    (plain_in turn r inside s.0 s.1))

-- a statement of at most this height
unfoldable pub stmt_at : ℕ → Turn
stmt_at zero rank s = None
stmt_at (suc below) rank s = stmt_by (stmt_at below) (rules below) (initializer_at below) rank s

-- ---- functions and units

abbrev pub Cut : Type 0
Cut = Option (List Token × List Token)

abbrev pub with_front : Token → Cut → Cut
with_front t None = None
with_front t (Some x) = Some (t ∷ x.0, x.1)

abbrev pub cut_by : Option Punctuator → Bool → Bool → (Punctuator → Cut) → Cut → Cut → Cut
cut_by (Some o) is_closing is_wanted deeper same out = deeper o
cut_by None true true deeper same out = out
cut_by None true false deeper same out = None
cut_by None false is_wanted deeper same out = same

-- the tokens up to the last of these closing brackets, and those behind
unfoldable pub cut : List Token → List Punctuator → Cut
cut ts [] = Some ([], ts)
cut [] (m ∷ ms) = None
cut (t ∷ ts) (m ∷ ms) =
    with_front t (cut_by (closer t.kind) (closing t.kind) (is_punctuator m t.kind) (λ o. cut ts (o ∷ m ∷ ms))
    (cut ts (m ∷ ms)) (cut ts ms))

-- the brace group that begins here
abbrev pub group_in : List Token → Cut
group_in [] = None
group_in (t ∷ ts) = cond (is_punctuator mark.LeftBrace t.kind) (with_front t (cut ts (mark.RightBrace ∷ []))) None

abbrev pub start_of : List Token → ℕ
start_of [] = 0
start_of (t ∷ rest) = t.start

-- the whole of the tokens as a block, if they are one
abbrev pub whole : ℕ → Reading Stmt → Body
whole at None = body.Unread at
whole at (Some (x, ([], scope))) = body.Read x
whole at (Some (x, (t ∷ rest, scope))) = body.Unread at

unfoldable pub body_at : State → Reading Body
body_at s =
    group_in s.0 >>= (λ g. Some (whole (start_of g.0) (stmt_at limit 0 (g.0, entered_function s.1)), (g.1, s.1)))

-- a definition or declaration whose specifiers and first declarator were read
abbrev pub behind_declarator_at : List Specifier → Declarator → State → Reading External
behind_declarator_at xs d s = cond (begins mark.LeftBrace s)
    (body_at s >>= (λ b. Some (external.Function xs d b.0, b.1)))
    (declaration_behind_at (rules limit) (initializer_at limit) xs d s >>= (λ x. Some (external.Declared x.0, x.1)))

unfoldable pub declared_external_at : State → Reading External
declared_external_at s = do
  xs ← specification_at (rules limit) s
  cond (begins mark.Semicolon xs.1)
      (expect mark.Semicolon xs.1 >>= (λ end. Some (external.Declared (no_declarators xs.0), end.2)))
      (declaring_at (rules limit) (makes_types xs.0) xs.1 >>= (λ d. behind_declarator_at xs.0 d.0 d.1))

unfoldable pub external_at : State → Reading External
external_at s =
    cond (begins mark.Semicolon s) (expect mark.Semicolon s >>= (λ end. Some (external.Empty end.1, end.2)))
    (declared_external_at s)

abbrev pub is_end : List Token → Bool
is_end [] = true
is_end (t ∷ rest) = false

unfoldable pub externals_at : ℕ → State → Option (List External)
externals_at zero s = None
externals_at (suc n) s =
    cond (is_end s.0) (Some []) (external_at s >>= (λ x. externals_at n x.1 >>= (λ more. Some (x.0 ∷ more))))

-- the external declarations that the tokens of a source are
abbrev pub read_unit : List Token → Option (List External)
read_unit tokens = externals_at (suc (length tokens)) (tokens, file_scope)
