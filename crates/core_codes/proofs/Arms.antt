-- What each function of the recursion makes is the core of the statement that it is handed, by the equations that hold
-- where it ends.
use Rattle.std.proofs.Common.{◌≡◌, ℕ, ℤ, Bool, true, false, List, [], ◌++◌, map, Option, Some, None, refl, sym}
use Rattle.std.proofs.Common.{ap, ap₂, ◌∙◌, subst}
use Rattle.std.specs.Prelude.{option_map}
use Rattle.c_language.specs.declared.expr.Expr.{Expr as CExpr}
use Rattle.c_language.specs.declared.unit.Declaration.{Declaration}
use Rattle.c_language.specs.declared.unit.ForStart.{ForStart}
use Rattle.c_language.specs.declared.unit.Stmt.{Stmt}
use Rattle.c_language.specs.declared.unit.Stmt.TheVariants as tree
use Rattle.c_language.specs.declared.ctype.IntegerKind.{IntegerKind}
use Rattle.c_language.specs.declared.tables.Tables.{Tables}
use Rattle.c_language.specs.Scopes.{Name, Scope, enter, leave}
use Rattle.c_language.specs.Typing.{type_in, value_in, used_told}
use Rattle.c_means.specs.Operators.{kind_in}
use Rattle.c_grammar.proofs.UnitEquations.{StmtSteps, of_stmt}
use Rattle.c_means.specs.Notes.{ExprNoted, noted}
use Rattle.c_means.specs.Items as runs
use Rattle.c_means.specs.Statements.{stmt}
use Rattle.c_means.specs.Statements as statements
use Rattle.c_means.proofs.RunEquations as eq
use Rattle.core_tree.specs.declared.code.Code.TheVariants as code
use Rattle.core_tree.specs.declared.expr.Expr.{Expr}
use Rattle.elaborate.specs.Means.{Numbering}
use Rattle.code_forms.specs.Nodes.{negative_node}
use Rattle.code_forms.specs.Contents.{case_values}
use Rattle.core_codes.specs.declared.context.Context.{Context}
use Rattle.core_codes.specs.declared.made.Body.{Body}
use Rattle.core_codes.specs.declared.made.Made.{Made}
use Rattle.core_codes.specs.declared.made.SubBlock.{SubBlock}
use Rattle.core_codes.specs.declared.parts.Begun.{Begun}
use Rattle.core_codes.specs.declared.parts.Valued.{Valued}
use Rattle.core_codes.specs.declared.pieces.ForBegun.{ForBegun}
use Rattle.core_codes.specs.declared.pieces.IfBegun.{IfBegun}
use Rattle.core_codes.specs.Made.{IsMade, IsContent, IsSub, MaybeSub, IsIfBegun}
use Rattle.core_codes.specs.Parts.{IsValued, IsBegun, IsForBegun, MaybeWorth, MaybeDone, alone, bare, effect_node}
use Rattle.core_codes.specs.Parts.{return_node, code_if, settings_if, labeled_made, case_made}
use Rattle.core_codes.proofs.LoopParts.{declaration_gives_none, begun_gives_none}
use Rattle.core_codes.proofs.Forms.{within, on_block, on_compound_content, on_other_content, on_sub, on_value}
use Rattle.core_codes.proofs.Forms.{on_return, on_goto, on_continue, on_break, on_label, on_default, on_case, on_if}
use Rattle.core_codes.proofs.Forms.{on_if_else, on_switch, on_while, on_do, on_for, body_of, block_around, switch_node}
use Rattle.core_codes.proofs.Forms.{for_node}

-- ---- what is no compound statement is one item of its block

record OneItem (x : Stmt) : Type 0 where
  content : (stmt x).content ≡ (stmt x).here
  block : (stmt x).is_block ≡ false

abbrev IsOther : Stmt → Type 0
IsOther x = ((at : ℕ) (items : List Stmt) → x ≡ tree.Block at items → ⊥) → OneItem x

by_step : (x : Stmt) (k : runs.Code) → stmt x ≡ k → k.content ≡ k.here → k.is_block ≡ false → OneItem x
by_step x k e h b = record {
  content = ap (λ (k : runs.Code). k.content) e ∙ h ∙ sym (ap (λ (k : runs.Code). k.here) e);
  block = ap (λ (k : runs.Code). k.is_block) e ∙ b;
}

others : StmtSteps IsOther
others = record {
  on_block = λ at items _ different. absurd (different at items refl);
  on_declared = λ d different. by_step _ _ (eq.does-Declared d) refl refl;
  on_value = λ at value different. by_step _ _ (eq.does-Value at value) refl refl;
  on_label = λ at name body _ different. by_step _ _ (eq.does-Label at name body) refl refl;
  on_case = λ at value body _ different. by_step _ _ (eq.does-Case at value body) refl refl;
  on_default = λ at body _ different. by_step _ _ (eq.does-Default at body) refl refl;
  on_if = λ at condition positive negative _ _ different. by_step _ _ (eq.does-If at condition positive negative) refl refl;
  on_switch = λ at value body _ different. by_step _ _ (eq.does-Switch at value body) refl refl;
  on_while = λ at condition body _ different. by_step _ _ (eq.does-While at condition body) refl refl;
  on_do = λ at body condition _ different. by_step _ _ (eq.does-Do at body condition) refl refl;
  on_for = λ at start condition step body _ different. by_step _ _ (eq.does-For at start condition step body) refl refl;
  on_goto = λ at name different. by_step _ _ (eq.does-Goto at name) refl refl;
  on_continue = λ at different. by_step _ _ (eq.does-Continue at) refl refl;
  on_break = λ at different. by_step _ _ (eq.does-Break at) refl refl;
  on_return = λ at value different. by_step _ _ (eq.does-Return at value) refl refl;
}

abbrev if_made : ℕ → IfBegun → Option SubBlock → Made
if_made at g n = alone (code.If at g.condition g.positive.code (negative_node (code_if n))) []
    (g.positive.settings ++ settings_if n)

module _ (numbering : Numbering) (x : Context) (s : Scope) where
  -- a statement, by the form that it is
  as_form : (st : Stmt) (k : runs.Code) (y : Made) (t : Scope) → stmt st ≡ k → IsMade numbering x s k.here y t
      → IsMade numbering x s (stmt st).here y t
  as_form st k y t e h = subst (λ (k : runs.Code). IsMade numbering x s k.here y t) (sym e) h

  -- ---- the arms of a statement

  pub of_block : (st : Stmt) (at : ℕ) (items items' : List Stmt) (y : Made) (t : Scope) → st ≡ tree.Block at items
      → items' ≡ items → IsMade numbering x s (statements.compound (map stmt items')).here y t
      → IsMade numbering x s (stmt st).here y t
  of_block st at items items' y t is c h = as_form st (statements.compound (map stmt items')) y t
      (ap stmt is ∙ eq.does-Block at items ∙ ap (λ is. statements.compound (map stmt is)) (sym c)) h

  pub of_declared : (st : Stmt) (d : Declaration) (z : Begun) (y : Made) (t : Scope) → st ≡ tree.Declared d
      → IsBegun numbering z (statements.declaration d s) t
      → y ≡ record { codes = z.codes; cases = []; settings = z.settings }
      → IsMade numbering x s (stmt st).here y t
  of_declared st d z y t is h made =
      as_form st (statements.code (λ c. statements.declaration d c.scope) []) y t (ap stmt is ∙ eq.does-Declared d)
      (subst (λ y. IsMade numbering x s (λ c. statements.declaration d c.scope) y t) (sym made) (record {
        codes = λ a r. h.codes;
        cases = λ a r. ap case_values (sym (declaration_gives_none d s));
        lasting = λ a r. h.lasting;
        after = λ a r. h.after;
        marks = λ a r. h.marks;
      }))

  pub of_value : (st : Stmt) (at : ℕ) (o : Option CExpr) (e : Option Expr) (y : Made) (t : Scope)
      → st ≡ tree.Value at o → MaybeDone numbering e (option_map noted o) s t → y ≡ bare (effect_node e)
      → IsMade numbering x s (stmt st).here y t
  of_value st at o e y t is h made =
      as_form st (statements.code (λ c. runs.node (statements.maybe_value (option_map noted o) c.scope)) []) y t
      (ap stmt is ∙ eq.does-Value at o) (on_value numbering x s e (option_map noted o) y t h made)

  pub of_label : (st : Stmt) (at : ℕ) (name : Name) (b b' : Stmt) (body y : Made) (t : Scope)
      → st ≡ tree.Label at name b → b' ≡ b → IsMade numbering x s (stmt b').here body t
      → y ≡ labeled_made (code.Label name) body.cases body → IsMade numbering x s (stmt st).here y t
  of_label st at name b b' body y t is c h w = as_form st (statements.labeled at name (stmt b')) y t
      (ap stmt is ∙ eq.does-Label at name b ∙ ap (λ b. statements.labeled at name (stmt b)) (sym c))
      (on_label numbering x s at name (stmt b') body y t h w)

  pub of_default : (st : Stmt) (at : ℕ) (b b' : Stmt) (body y : Made) (t : Scope) → st ≡ tree.Default at b
      → b' ≡ b → IsMade numbering x s (stmt b').here body t → y ≡ labeled_made code.Default body.cases body
      → IsMade numbering x s (stmt st).here y t
  of_default st at b b' body y t is c h w = as_form st (statements.default_labeled at (stmt b')) y t
      (ap stmt is ∙ eq.does-Default at b ∙ ap (λ b. statements.default_labeled at (stmt b)) (sym c))
      (on_default numbering x s at (stmt b') body y t h w)

  pub of_case : (st : Stmt) (at : ℕ) (e e' : CExpr) (b b' : Stmt) (y : Made) (t : Scope) → st ≡ tree.Case at e b
      → e' ≡ e → b' ≡ b → IsMade numbering x s (statements.case_labeled at (noted e') (stmt b')).here y t
      → IsMade numbering x s (stmt st).here y t
  of_case st at e e' b b' y t is c d h = as_form st (statements.case_labeled at (noted e') (stmt b')) y t
      (ap stmt is ∙ eq.does-Case at e b
      ∙ ap₂ (λ e b. statements.case_labeled at (noted e) (stmt b)) (sym c) (sym d)) h

  abbrev an_if_of : ℕ → CExpr → Stmt → Option Stmt → runs.Code
  an_if_of at e b o = statements.if_of at (noted e) (stmt b) (option_map stmt o)

  -- with or without `else`
  either : (at : ℕ) (f : ExprNoted) (b : runs.Code) (o : Option runs.Code) (g : IfBegun) (u : Scope)
      (n : Option SubBlock) (y : Made) (v : Scope) → IsIfBegun numbering x s f b g u → MaybeSub numbering x u o n v
      → y ≡ if_made at g n
      → IsMade numbering x s (statements.if_of at f b o).here y (leave v)
  either at f b None g u None y v h k is =
      on_if numbering x s at f b g y v (subst (λ w. IsIfBegun numbering x s f b g w) (sym k) h) is
  either at f b None g u (Some c) y v h k is = absurd k
  either at f b (Some o) g u None y v h k is = absurd k
  either at f b (Some o) g u (Some c) y v h k is = on_if_else numbering x s at f b g u o c y v h k is

  pub of_if : (st : Stmt) (at : ℕ) (e e' : CExpr) (b b' : Stmt) (o : Option Stmt) (g : IfBegun) (u : Scope)
      (n : Option SubBlock) (y : Made) (v w : Scope) → st ≡ tree.If at e b o → e' ≡ e → b' ≡ b
      → IsIfBegun numbering x s (noted e') (stmt b') g u → MaybeSub numbering x u (option_map stmt o) n v
      → w ≡ leave v → y ≡ if_made at g n
      → IsMade numbering x s (stmt st).here y w
  of_if st at e e' b b' o g u n y v w is c d h k left made = as_form st (an_if_of at e' b' o) y w
      (ap stmt is ∙ eq.does-If at e b o ∙ ap₂ (λ e b. an_if_of at e b o) (sym c) (sym d))
      (subst (λ w. IsMade numbering x s (an_if_of at e' b' o).here y w) (sym left)
      (either at (noted e') (stmt b') (option_map stmt o) g u n y v h k made))

  pub of_switch : (st : Stmt) (at : ℕ) (e e' : CExpr) (b b' : Stmt) (y : Made) (t : Scope)
      → st ≡ tree.Switch at e b → e' ≡ e → b' ≡ b
      → IsMade numbering x s (statements.switch_of at (noted e') (stmt b')).here y t
      → IsMade numbering x s (stmt st).here y t
  of_switch st at e e' b b' y t is c d h = as_form st (statements.switch_of at (noted e') (stmt b')) y t
      (ap stmt is ∙ eq.does-Switch at e b
      ∙ ap₂ (λ e b. statements.switch_of at (noted e) (stmt b)) (sym c) (sym d)) h

  pub of_while : (st : Stmt) (at : ℕ) (e e' : CExpr) (b b' : Stmt) (y : Made) (t : Scope)
      → st ≡ tree.While at e b → e' ≡ e → b' ≡ b
      → IsMade numbering x s (statements.while_of at (noted e') (stmt b')).here y t
      → IsMade numbering x s (stmt st).here y t
  of_while st at e e' b b' y t is c d h = as_form st (statements.while_of at (noted e') (stmt b')) y t
      (ap stmt is ∙ eq.does-While at e b
      ∙ ap₂ (λ e b. statements.while_of at (noted e) (stmt b)) (sym c) (sym d)) h

  pub of_do : (st : Stmt) (at : ℕ) (b b' : Stmt) (e e' : CExpr) (y : Made) (t : Scope) → st ≡ tree.Do at b e
      → b' ≡ b → e' ≡ e → IsMade numbering x s (statements.do_of at (stmt b') (noted e')).here y t
      → IsMade numbering x s (stmt st).here y t
  of_do st at b b' e e' y t is c d h = as_form st (statements.do_of at (stmt b') (noted e')) y t
      (ap stmt is ∙ eq.does-Do at b e
      ∙ ap₂ (λ b e. statements.do_of at (stmt b) (noted e)) (sym c) (sym d)) h

  abbrev a_for : ℕ → ForStart → Option CExpr → Option CExpr → Stmt → runs.Code
  a_for at first condition step b =
      statements.for_of at (statements.begun_by first) (option_map noted condition) (option_map noted step) (stmt b)

  pub of_for : (st : Stmt) (at : ℕ) (first : ForStart) (condition step : Option CExpr) (b b' : Stmt) (s' : Scope)
      (g : ForBegun) (t : Scope) (c : SubBlock) (y : Made) (u w : Scope) → st ≡ tree.For at first condition step b
      → b' ≡ b → s' ≡ enter s
      → IsForBegun numbering s' (statements.begun_by first) (option_map noted condition) (option_map noted step) g t
      → IsSub numbering x t (runs.sub (stmt b')) c u → w ≡ leave u
      → y ≡ alone (for_node at g c) [] (g.first.settings ++ c.settings)
      → IsMade numbering x s (stmt st).here y w
  of_for st at first condition step b b' s' g t c y u w is d inside h k left made =
      as_form st (a_for at first condition step b') y w
      (ap stmt is ∙ eq.does-For at first condition step b ∙ ap (a_for at first condition step) (sym d))
      (subst (λ w. IsMade numbering x s (a_for at first condition step b').here y w) (sym left)
      (on_for numbering x s at (statements.begun_by first) (option_map noted condition) (option_map noted step) g t
      (stmt b') c y u
      (subst (λ v. IsForBegun numbering v (statements.begun_by first) (option_map noted condition)
      (option_map noted step) g t) inside h)
      (begun_gives_none first (enter s)) k made))

  pub of_goto : (st : Stmt) (at : ℕ) (name : Name) (y : Made) → st ≡ tree.Goto at name
      → y ≡ bare (code.Goto name) → IsMade numbering x s (stmt st).here y s
  of_goto st at name y is made = as_form st (statements.code (statements.goto_of at name) []) y s
      (ap stmt is ∙ eq.does-Goto at name) (on_goto numbering x s at name y made)

  pub of_continue : (st : Stmt) (at : ℕ) (y : Made) → st ≡ tree.Continue at → y ≡ bare code.Continue
      → IsMade numbering x s (stmt st).here y s
  of_continue st at y is made = as_form st (statements.code (statements.continue_of at) []) y s
      (ap stmt is ∙ eq.does-Continue at) (on_continue numbering x s at y made)

  pub of_break : (st : Stmt) (at : ℕ) (y : Made) → st ≡ tree.Break at → y ≡ bare code.Break
      → IsMade numbering x s (stmt st).here y s
  of_break st at y is made = as_form st (statements.code (statements.break_of at) []) y s
      (ap stmt is ∙ eq.does-Break at) (on_break numbering x s at y made)

  pub of_return : (st : Stmt) (at : ℕ) (o : Option CExpr) (e : Option Expr) (y : Made) (t : Scope)
      → st ≡ tree.Return at o → MaybeWorth numbering e (option_map noted o) s t
      → y ≡ bare (return_node x.returned e) → IsMade numbering x s (stmt st).here y t
  of_return st at o e y t is h made =
      as_form st (statements.code (statements.return_of at (option_map noted o)) []) y t
      (ap stmt is ∙ eq.does-Return at o) (on_return numbering x s at e (option_map noted o) y t h made)

  -- ---- the other functions

  pub a_block : (items : List Stmt) (x' : Context) (s' : Scope) (made y : Made) (t w : Scope) → x' ≡ within x
      → s' ≡ enter s → IsMade numbering x' s' (runs.in_turn (map stmt items)) made t → w ≡ leave t
      → y ≡ alone (code.Block true made.codes) [] made.settings
      → IsMade numbering x s (statements.compound (map stmt items)).here y w
  a_block items x' s' made y t w inside entered h left is =
      subst (λ w. IsMade numbering x s (statements.compound (map stmt items)).here y w) (sym left)
      (on_block numbering x s (map stmt items) made y t
      (subst (λ x'. IsMade numbering x' (enter s) (runs.in_turn (map stmt items)) made t) inside
      (subst (λ s'. IsMade numbering x' s' (runs.in_turn (map stmt items)) made t) entered h)) is)

  pub block_content : (st : Stmt) (at : ℕ) (items items' : List Stmt) (made : Made) (z : Body) (t : Scope)
      → st ≡ tree.Block at items → items' ≡ items
      → IsMade numbering x s (runs.in_turn (map stmt items')) made t
      → z ≡ body_of true made
      → IsContent numbering x s (stmt st).content z t
  block_content st at items items' made z t is c h made_of =
      subst (λ (k : runs.Code). IsContent numbering x s k.content z t)
      (sym (ap stmt is ∙ eq.does-Block at items ∙ ap (λ is. statements.compound (map stmt is)) (sym c)))
      (on_compound_content numbering x s (map stmt items') made z t h made_of)

  pub other_content : (st : Stmt) (made : Made) (z : Body) (t : Scope)
      → ((at : ℕ) (items : List Stmt) → st ≡ tree.Block at items → ⊥)
      → IsMade numbering x s (stmt st).here made t
      → z ≡ body_of false made
      → IsContent numbering x s (stmt st).content z t
  other_content st made z t different h made_of =
      subst (λ f. IsContent numbering x s f z t) (sym (of_stmt IsOther others st different).content)
      (on_other_content numbering x s (stmt st).here made z t h made_of)

  pub block_is : (st : Stmt) (at : ℕ) (items : List Stmt) (b : Bool) → st ≡ tree.Block at items → b ≡ true
      → b ≡ (stmt st).is_block
  block_is st at items b is e = e ∙ sym (ap (λ (k : runs.Code). k.is_block) (ap stmt is ∙ eq.does-Block at items))

  pub other_is : (st : Stmt) (b : Bool) → ((at : ℕ) (items : List Stmt) → st ≡ tree.Block at items → ⊥) → b ≡ false
      → b ≡ (stmt st).is_block
  other_is st b different e = e ∙ sym (of_stmt IsOther others st different).block

  pub a_sub : (st : Stmt) (x' : Context) (s' : Scope) (z : Body) (y : SubBlock) (t w : Scope) → x' ≡ within x
      → s' ≡ enter s → IsContent numbering x' s' (stmt st).content z t → w ≡ leave t
      → y ≡ block_around z → IsSub numbering x s (runs.sub (stmt st)) y w
  a_sub st x' s' z y t w inside entered h left is =
      subst (λ w. IsSub numbering x s (runs.sub (stmt st)) y w) (sym left)
      (on_sub numbering x s (stmt st) z y t
      (subst (λ x'. IsContent numbering x' (enter s) (stmt st).content z t) inside
      (subst (λ s'. IsContent numbering x' s' (stmt st).content z t) entered h)) is)

  pub a_switch : (at : ℕ) (f : ExprNoted) (s' : Scope) (v : Valued) (t : Scope) (ts : Tables) (kind : IntegerKind)
      (x' : Context)
      (t' : Scope) (b : runs.Code) (z : Body) (u w w' : Scope) (y : Made) → s' ≡ enter s
      → IsValued numbering v (f s') t → ts ≡ t.tables
      → kind ≡ statements.compared_in (kind_in (type_in (used_told ts v.told).shown))
      → x' ≡ record x { compared = Some kind } → t' ≡ enter t → IsContent numbering x' t' b.content z u
      → w ≡ leave u → w' ≡ leave w
      → y ≡ alone (switch_node at kind v z) [] z.settings
      → IsMade numbering x s (statements.switch_of at f b).here y w'
  a_switch at f s' v t ts kind x' t' b z u w w' y entered g tabled q chooses inside h left out is =
      subst (λ w'. IsMade numbering x s (statements.switch_of at f b).here y w') (sym (out ∙ ap leave left))
      (on_switch numbering x s at f v t kind b z y u (subst (λ s'. IsValued numbering v (f s') t) entered g)
      (q ∙ ap (λ ts. statements.compared_in (kind_in (type_in (used_told ts v.told).shown))) tabled)
      (subst (λ x'. IsContent numbering x' (enter t) b.content z u) chooses
      (subst (λ t'. IsContent numbering x' t' b.content z u) inside h)) is)

  pub a_while : (at : ℕ) (f : ExprNoted) (s' : Scope) (v : Valued) (t : Scope) (b : runs.Code) (c : SubBlock)
      (u w : Scope) (y : Made) → s' ≡ enter s → IsValued numbering v (f s') t
      → IsSub numbering x t (runs.sub b) c u → w ≡ leave u
      → y ≡ alone (code.Loop at (Some v.value) None c.code) [] c.settings
      → IsMade numbering x s (statements.while_of at f b).here y w
  a_while at f s' v t b c u w y entered g h left is =
      subst (λ w. IsMade numbering x s (statements.while_of at f b).here y w) (sym left)
      (on_while numbering x s at f v t b c y u (subst (λ s'. IsValued numbering v (f s') t) entered g) h is)

  pub a_do : (at : ℕ) (s' : Scope) (b : runs.Code) (c : SubBlock) (t : Scope) (f : ExprNoted) (v : Valued) (u w : Scope)
      (y : Made) → s' ≡ enter s → IsSub numbering x s' (runs.sub b) c t → IsValued numbering v (f t) u → w ≡ leave u
      → y ≡ alone (code.Repeat at v.value c.code) [] c.settings
      → IsMade numbering x s (statements.do_of at b f).here y w
  a_do at s' b c t f v u w y entered h g left is =
      subst (λ w. IsMade numbering x s (statements.do_of at b f).here y w) (sym left)
      (on_do numbering x s at b c t f v y u (subst (λ s'. IsSub numbering x s' (runs.sub b) c t) entered h) g is)

  pub an_if : (f : ExprNoted) (s' : Scope) (v : Valued) (t : Scope) (b : runs.Code) (c : SubBlock) (u : Scope)
      (g : IfBegun) → s' ≡ enter s → IsValued numbering v (f s') t → IsSub numbering x t (runs.sub b) c u
      → g ≡ record { condition = v.value; positive = c } → IsIfBegun numbering x s f b g u
  an_if f s' v t b c u g entered k h is =
      let l = subst (λ s'. IsValued numbering v (f s') t) entered k in
      subst (λ g. IsIfBegun numbering x s f b g u) (sym is) (record {
        behind_condition = t;
        tests = record { value = l.value; after = l.after; marks = l.marks };
        positive = h;
      })

  pub no_else : (o : Option Stmt) (y : Option SubBlock) → o ≡ None → y ≡ None
      → MaybeSub numbering x s (option_map stmt o) y s
  no_else o y is made = subst (λ o. MaybeSub numbering x s (option_map stmt o) y s) (sym is)
      (subst (λ y. MaybeSub numbering x s None y s) (sym made) refl)

  pub an_else : (o : Option Stmt) (n n' : Stmt) (c : SubBlock) (t : Scope) → o ≡ Some n → n' ≡ n
      → IsSub numbering x s (runs.sub (stmt n')) c t → MaybeSub numbering x s (option_map stmt o) (Some c) t
  an_else o n n' c t is d h = subst (λ o. MaybeSub numbering x s (option_map stmt o) (Some c) t) (sym is)
      (subst (λ n. IsSub numbering x s (runs.sub (stmt n)) c t) d h)

  -- `case`, whose expression is evaluated in no run
  pub a_case : (at : ℕ) (f : ExprNoted) (v : Valued) (t : Scope) (o : Option ℤ) (b : runs.Code) (body y : Made)
      (u : Scope) → IsValued numbering v (f s) t
      → o ≡ statements.case_value x.compared (value_in v.told.shown)
      → IsMade numbering x t b.here body u → y ≡ case_made o v.value body
      → IsMade numbering x s (statements.case_labeled at f b).here y u
  a_case at f v t o b body y u g q h w = on_case numbering x s at f v t o b body y u g q h w
