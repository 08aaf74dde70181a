-- What each arm of the recursion notes is what is kept of the statement that it is handed.
use Rattle.std.proofs.Common.{◌≡◌, ℕ, true, List, [], ◌∷◌, ◌++◌, map, Option, Some, None, refl, sym, ap, ap₂, ◌∙◌}
use Rattle.std.specs.Prelude.{option_map}
use Rattle.c_language.specs.declared.expr.Expr.{Expr}
use Rattle.c_language.specs.declared.unit.Declaration.{Declaration}
use Rattle.c_language.specs.declared.unit.ForStart.{ForStart}
use Rattle.c_language.specs.declared.unit.Stmt.{Stmt}
use Rattle.c_language.specs.declared.unit.Stmt.TheVariants as tree
use Rattle.c_language.specs.declared.ctype.IntegerKind.{IntegerKind}
use Rattle.c_language.specs.Scopes.{Name, Scope, enter, leave}
use Rattle.c_language.specs.Typing.{constant_of}
use Rattle.c_grammar.proofs.UnitEquations.{StmtSteps, of_stmt}
use Rattle.c_means.specs.declared.breach.Breach.{Breach}
use Rattle.c_means.specs.Notes.{Noted, noted}
use Rattle.c_means.specs.Items.{Case, Code, Context, Item, Label}
use Rattle.c_means.specs.Items.{closed, followed, in_scope, in_turn, nothing, opened, sub, unchosen}
use Rattle.c_means.specs.Statements.{Test, begun_by, case_item, case_value, code, compound, declaration, for_from, for_of}
use Rattle.c_means.specs.Statements.{if_from, if_of, in_loop, left_scope, looped, maybe_sub, maybe_test, maybe_value}
use Rattle.c_means.specs.Statements.{return_of, stmt, switch_breaches, switch_context, switch_item, switch_kind}
use Rattle.c_means.specs.Statements.{switch_of, test_of, tested, while_from}
use Rattle.c_means.specs.Statements as form
use Rattle.c_means.proofs.RunEquations as eq
use Rattle.c_checks.specs.declared.statements.SwitchSaid.{SwitchSaid}
use Rattle.c_checks.specs.Refusals.{least_of}
use Rattle.c_checks.specs.Rules.{default_breaches, goto_breaches, label_breaches}
use Rattle.c_item_notes.specs.declared.items.ItemNotes.{ItemNotes}
use Rattle.c_item_notes.specs.Levels.{Judged}
use Rattle.c_item_notes.specs.ItemTellings.{Summed, both, item_notes, summed, summed_in}
use Rattle.c_item_notes.proofs.ItemLaws.{both_grouped, followed_is}
use Rattle.c_stmt_notes.specs.declared.gathering.Aside.{Aside}
use Rattle.c_stmt_notes.specs.StatementTellings.{block_of_items, broken, case_front, default_notes, gathered}
use Rattle.c_stmt_notes.specs.StatementTellings.{jump_breaches, taken_back}
use Rattle.c_stmt_notes.proofs.Alike.{case_alike, effect_gives_none, else_gives_none, if_alike, switch_alike}
use Rattle.c_stmt_notes.proofs.Alike.{test_gives_none, while_alike}
use Rattle.c_stmt_notes.proofs.Together.{left, none, same, then, within}

-- ---- what is no compound statement is one item of its block

abbrev IsOther : Stmt → Type 0
IsOther x = ((at : ℕ) (items : List Stmt) → x ≡ tree.Block at items → ⊥) → (stmt x).content ≡ (stmt x).here

by_step : (x : Stmt) (k : Code) → stmt x ≡ k → k.content ≡ k.here → (stmt x).content ≡ (stmt x).here
by_step x k e h = ap (λ (k : Code). k.content) e ∙ h ∙ sym (ap (λ (k : Code). k.here) e)

others : StmtSteps IsOther
others = record {
  on_block = λ at items _ different. absurd (different at items refl);
  on_declared = λ d different. by_step _ _ (eq.does-Declared d) refl;
  on_value = λ at value different. by_step _ _ (eq.does-Value at value) refl;
  on_label = λ at name body _ different. by_step _ _ (eq.does-Label at name body) refl;
  on_case = λ at value body _ different. by_step _ _ (eq.does-Case at value body) refl;
  on_default = λ at body _ different. by_step _ _ (eq.does-Default at body) refl;
  on_if = λ at condition positive negative _ _ different. by_step _ _ (eq.does-If at condition positive negative) refl;
  on_switch = λ at value body _ different. by_step _ _ (eq.does-Switch at value body) refl;
  on_while = λ at condition body _ different. by_step _ _ (eq.does-While at condition body) refl;
  on_do = λ at body condition _ different. by_step _ _ (eq.does-Do at body condition) refl;
  on_for = λ at start condition step body _ different. by_step _ _ (eq.does-For at start condition step body) refl;
  on_goto = λ at name different. by_step _ _ (eq.does-Goto at name) refl;
  on_continue = λ at different. by_step _ _ (eq.does-Continue at) refl;
  on_break = λ at different. by_step _ _ (eq.does-Break at) refl;
  on_return = λ at value different. by_step _ _ (eq.does-Return at value) refl;
}

module _ (j : Judged) (c : Context) (n : ItemNotes) where
  -- a statement, by the form that it is
  as_form : (st : Stmt) (k : Code) (z : Summed) → stmt st ≡ k → z ≡ gathered j n c.scope (k.here c) →
      z ≡ gathered j n c.scope ((stmt st).here c)
  as_form st k z e h = h ∙ sym (ap (λ (k : Code). gathered j n c.scope (k.here c)) e)

  -- ---- blocks

  pub of_block : (st : Stmt) (at : ℕ) (items items' : List Stmt) (l : List Label) (z : Summed) →
      st ≡ tree.Block at items → items' ≡ items → l ≡ c.labels ++ (stmt st).own →
      z ≡ gathered j n c.scope (block_of_items (map stmt items') l c) → z ≡ gathered j n c.scope ((stmt st).here c)
  of_block st at items items' l z is e ls h =
      let k : stmt st ≡ compound (map stmt items) = ap stmt is ∙ eq.does-Block at items in
      as_form st (compound (map stmt items)) z k
      (h ∙ ap₂ (λ (xs : List Stmt) (l : List Label). gathered j n c.scope (block_of_items (map stmt xs) l c)) e
      (ls ∙ ap (λ (k : Code). c.labels ++ k.own) k))

  pub block_content : (st : Stmt) (at : ℕ) (items items' : List Stmt) (z : Summed) → st ≡ tree.Block at items →
      items' ≡ items → z ≡ gathered j n c.scope (in_turn (map stmt items') c) →
      z ≡ gathered j n c.scope ((stmt st).content c)
  block_content st at items items' z is e h =
      h ∙ ap (λ (xs : List Stmt). gathered j n c.scope (in_turn (map stmt xs) c)) e
      ∙ sym (ap (λ (k : Code). gathered j n c.scope (k.content c)) (ap stmt is ∙ eq.does-Block at items))

  pub other_content : (st : Stmt) (z : Summed) → ((at : ℕ) (items : List Stmt) → st ≡ tree.Block at items → ⊥) →
      z ≡ gathered j n c.scope ((stmt st).here c) → z ≡ gathered j n c.scope ((stmt st).content c)
  other_content st z different h =
      h ∙ sym (ap (λ (f : Context → Item). gathered j n c.scope (f c)) (of_stmt IsOther others st different))

  pub a_compound : (bs : List Code) (l : List Label) (n1 n2 n3 : ItemNotes) (s1 s2 s3 : Scope) →
      n1 ≡ record n { cases = [] } → s1 ≡ enter c.scope →
      summed_in n2 s2 ≡ gathered j n1 s1 (in_turn bs (record (unchosen c) { scope = s1; labels = l })) →
      s3 ≡ leave s2 → n3 ≡ record n2 { cases = n.cases } →
      summed_in n3 s3 ≡ gathered j n c.scope (block_of_items bs l c)
  a_compound bs l n1 n2 n3 s1 s2 s3 emptied entered h out kept =
      within j n n1 n2 n3 c.scope s1 s2 s3 (in_turn bs (record (unchosen c) { scope = enter c.scope; labels = l }))
      emptied
      (h ∙ ap (λ (s : Scope). gathered j n1 s1 (in_turn bs (record (unchosen c) { scope = s; labels = l }))) entered)
      out kept

  -- ---- what has no substatement

  pub of_declared : (st : Stmt) (d : Declaration) (z : Summed) → st ≡ tree.Declared d →
      z ≡ gathered j n c.scope (declaration d c.scope) → z ≡ gathered j n c.scope ((stmt st).here c)
  of_declared st d z is h =
      as_form st (code (λ c. declaration d c.scope) []) z (ap stmt is ∙ eq.does-Declared d) h

  pub of_value : (st : Stmt) (at : ℕ) (o : Option Expr) (z : Summed) → st ≡ tree.Value at o →
      z ≡ gathered j n c.scope (maybe_value (option_map noted o) c.scope) →
      z ≡ gathered j n c.scope ((stmt st).here c)
  of_value st at o z is h = as_form st _ z (ap stmt is ∙ eq.does-Value at o) h

  pub of_goto : (st : Stmt) (at : ℕ) (name : Name) (m : ItemNotes) → st ≡ tree.Goto at name →
      m ≡ both n (broken (least_of (goto_breaches at name c.labels))) →
      summed_in m c.scope ≡ gathered j n c.scope ((stmt st).here c)
  of_goto st at name m is h =
      as_form st (code (form.goto_of at name) []) (summed_in m c.scope) (ap stmt is ∙ eq.does-Goto at name)
      (ap (λ (m : ItemNotes). summed_in m c.scope) h)

  pub of_continue : (st : Stmt) (at : ℕ) (m : ItemNotes) → st ≡ tree.Continue at →
      m ≡ both n (broken (least_of (jump_breaches c.continues at))) →
      summed_in m c.scope ≡ gathered j n c.scope ((stmt st).here c)
  of_continue st at m is h =
      as_form st (code (form.continue_of at) []) (summed_in m c.scope) (ap stmt is ∙ eq.does-Continue at)
      (ap (λ (m : ItemNotes). summed_in m c.scope) h)

  pub of_break : (st : Stmt) (at : ℕ) (m : ItemNotes) → st ≡ tree.Break at →
      m ≡ both n (broken (least_of (jump_breaches c.breaks at))) →
      summed_in m c.scope ≡ gathered j n c.scope ((stmt st).here c)
  of_break st at m is h =
      as_form st (code (form.break_of at) []) (summed_in m c.scope) (ap stmt is ∙ eq.does-Break at)
      (ap (λ (m : ItemNotes). summed_in m c.scope) h)

  pub of_return : (st : Stmt) (at : ℕ) (o : Option Expr) (z : Summed) → st ≡ tree.Return at o →
      z ≡ gathered j n c.scope (return_of at (option_map noted o) c) → z ≡ gathered j n c.scope ((stmt st).here c)
  of_return st at o z is h =
      as_form st (code (return_of at (option_map noted o)) []) z (ap stmt is ∙ eq.does-Return at o) h

  -- ---- labels

  pub of_label : (st : Stmt) (at : ℕ) (name : Name) (b b' : Stmt) (m : ItemNotes) (z : Summed) →
      st ≡ tree.Label at name b → m ≡ both n (broken (least_of (label_breaches at name c.every))) → b' ≡ b →
      z ≡ gathered j m c.scope ((stmt b').here c) → z ≡ gathered j n c.scope ((stmt st).here c)
  of_label st at name b b' m z is front e h =
      let first : Item = record (nothing c.scope) { breaches = label_breaches at name c.every } in
      as_form st (form.labeled at name (stmt b)) z (ap stmt is ∙ eq.does-Label at name b)
      (then j n m c.scope c.scope first (λ s. (stmt b).here (in_scope s c)) z
      (ap (λ (m : ItemNotes). summed_in m c.scope) front)
      (h ∙ ap (λ (b : Stmt). gathered j m c.scope ((stmt b).here c)) e))

  pub of_default : (st : Stmt) (at : ℕ) (b b' : Stmt) (m : ItemNotes) (z : Summed) →
      st ≡ tree.Default at b → m ≡ both n (default_notes at (least_of (default_breaches at c.chooses))) → b' ≡ b →
      z ≡ gathered j m c.scope ((stmt b').here c) → z ≡ gathered j n c.scope ((stmt st).here c)
  of_default st at b b' m z is front e h =
      let first : Item = record (nothing c.scope) {
        breaches = default_breaches at c.chooses;
        cases = record { at = at; value = None } ∷ [];
      } in
      as_form st (form.default_labeled at (stmt b)) z (ap stmt is ∙ eq.does-Default at b)
      (then j n m c.scope c.scope first (λ s. (stmt b).here (in_scope s c)) z
      (ap (λ (m : ItemNotes). summed_in m c.scope) front)
      (h ∙ ap (λ (b : Stmt). gathered j m c.scope ((stmt b).here c)) e))

  pub of_case : (st : Stmt) (at : ℕ) (e e' : Expr) (b b' : Stmt) (m : ItemNotes) (t : Scope) (z : Summed) →
      st ≡ tree.Case at e b → e' ≡ e → b' ≡ b →
      summed_in m t ≡ gathered j n c.scope (case_front at (noted e' c.scope) c.chooses) →
      z ≡ gathered j m t ((stmt b').here (in_scope t c)) → z ≡ gathered j n c.scope ((stmt st).here c)
  of_case st at e e' b b' m t z is ee be front h =
      let x = noted e c.scope in
      let y : Scope → Item = λ s. (stmt b).here (in_scope s c) in
      let v = case_value c.chooses (constant_of x.part.typed) in
      as_form st (form.case_labeled at (noted e) (stmt b)) z (ap stmt is ∙ eq.does-Case at e b)
      (same j n c.scope c.scope (followed (case_front at x c.chooses) (y x.part.typed.after)) (case_item at x (stmt b) c) z
      (then j n m c.scope t (case_front at x c.chooses) y z
      (front ∙ ap (λ (e : Expr). gathered j n c.scope (case_front at (noted e c.scope) c.chooses)) ee)
      (h ∙ ap (λ (b : Stmt). gathered j m t ((stmt b).here (in_scope t c))) be))
      (case_alike j at x c (y x.part.typed.after) v))

  -- ---- selection

  pub of_if : (st : Stmt) (at : ℕ) (e e' : Expr) (p p' : Stmt) (o : Option Stmt) (n1 n2 n3 : ItemNotes)
      (s1 s2 s3 s4 s5 : Scope) → st ≡ tree.If at e p o → s1 ≡ enter c.scope → e' ≡ e → p' ≡ p →
      summed_in n1 s2 ≡ gathered j n s1 (test_of at (noted e' s1)).item →
      summed_in n2 s3 ≡ gathered j n1 s2 (sub (stmt p') (in_scope s2 c)) →
      summed_in n3 s4 ≡ gathered j n2 s3 (maybe_sub (option_map stmt o) (in_scope s3 c)) → s5 ≡ leave s4 →
      summed_in n3 s5 ≡ gathered j n c.scope ((stmt st).here c)
  of_if st at e e' p p' o n1 n2 n3 s1 s2 s3 s4 s5 is entered ee pe tests first second out =
      let x = noted e (enter c.scope) in
      let k = option_map stmt o in
      let t = (test_of at x).item in
      let a : Scope → Item = λ s. sub (stmt p) (in_scope s c) in
      let b : Scope → Item = λ s. maybe_sub k (in_scope s c) in
      let ab : Scope → Item = λ s. followed (a s) (b (a s).after) in
      let whole = left j n n3 s1 s4 s5 (followed t (ab t.after))
      (then j n n1 s1 s2 t ab (summed_in n3 s4)
      (tests ∙ ap₂ (λ (e : Expr) (s : Scope). gathered j n s1 (test_of at (noted e s)).item) ee entered)
      (then j n1 n2 s2 s3 (a s2) b (summed_in n3 s4)
      (first ∙ ap (λ (p : Stmt). gathered j n1 s2 (sub (stmt p) (in_scope s2 c))) pe) second)) out in
      as_form st (if_of at (noted e) (stmt p) k) (summed_in n3 s5)
      (ap stmt is ∙ eq.does-If at e p o)
      (same j n s1 c.scope (left_scope (followed t (ab t.after))) (if_from at x (stmt p) k (in_scope (enter c.scope) c))
      (summed_in n3 s5) whole
      (ap (λ (m : ItemNotes). summed_in m (leave (b (a t.after).after).after))
      (if_alike j at x (a t.after) (b (a t.after).after) (else_gives_none k (in_scope (a t.after).after c)))))

  pub no_else : (o : Option Stmt) → o ≡ None →
      summed_in n c.scope ≡ gathered j n c.scope (maybe_sub (option_map stmt o) c)
  no_else o is =
      none j n c.scope ∙ ap (λ (o : Option Stmt). gathered j n c.scope (maybe_sub (option_map stmt o) c)) (sym is)

  pub an_else : (o : Option Stmt) (p p' : Stmt) (z : Summed) → o ≡ Some p → p' ≡ p →
      z ≡ gathered j n c.scope (sub (stmt p') c) → z ≡ gathered j n c.scope (maybe_sub (option_map stmt o) c)
  an_else o p p' z is e h =
      h ∙ ap (λ (p : Stmt). gathered j n c.scope (sub (stmt p) c)) e
      ∙ ap (λ (o : Option Stmt). gathered j n c.scope (maybe_sub (option_map stmt o) c)) (sym is)

  -- ---- `switch`

  switch_from_parts : (at : ℕ) (x : Noted) (b : Code) (n1 n2 n3 n4 : ItemNotes) (s2 s3 s4 s5 s6 : Scope)
      (l : List Label) (kind : IntegerKind) (breach : Option Breach) (aside : Aside) →
      summed_in n1 s2 ≡ gathered j n c.scope (tested x) → breach ≡ least_of (switch_breaches at x) →
      kind ≡ switch_kind x → l ≡ c.labels ++ b.own → aside ≡ record { breach = n1.breach; cases = n1.cases } →
      n2 ≡ record n1 { breach = None; cases = [] } → s3 ≡ enter s2 →
      summed_in n3 s4 ≡ gathered j n2 s3
      (b.content (record c { scope = s3; labels = l; breaks = true; chooses = Some kind })) →
      s5 ≡ leave s4 → s6 ≡ leave s5 → n4 ≡ taken_back aside breach n3 →
      summed_in n4 s6 ≡ gathered j n c.scope (form.switch_from at x b c)
  switch_from_parts at x b n1 n2 n3 n4 s2 s3 s4 s5 s6 l kind breach aside said fault chosen ls put emptied entered h out
      out' back =
      let y = b.content (opened b.own (switch_context x c)) in
      let m = both n (item_notes j (tested x)) in
      let e1 : n1 ≡ m = ap (λ (z : Summed). z.notes) said in
      let e2 : s3 ≡ enter x.part.typed.after = entered ∙ ap enter (ap (λ (z : Summed). z.after) said) in
      let inside : summed_in n3 s4 ≡ gathered j n2 s3 y =
      h ∙ ap₂ (λ (s : Scope) (l : List Label). gathered j n2 s3
      (b.content (record c { scope = s; labels = l; breaks = true; chooses = Some kind }))) e2 ls
      ∙ ap (λ (kind : IntegerKind). gathered j n2 s3 (b.content (record c {
        scope = enter x.part.typed.after;
        labels = c.labels ++ b.own;
        breaks = true;
        chooses = Some kind;
      }))) chosen in
      let e3 : n3 ≡ both (record m { breach = None; cases = [] }) (item_notes j y) =
      ap (λ (z : Summed). z.notes) inside ∙ ap (λ (k : ItemNotes). both k (item_notes j y))
      (emptied ∙ ap (λ (k : ItemNotes). record k { breach = None; cases = [] }) e1) in
      let e4 : n4 ≡ both n (item_notes j (switch_item at x (closed y))) =
      back
      ∙ ap (λ (a : Aside). taken_back a breach n3)
      (put ∙ ap (λ (k : ItemNotes). record { breach = k.breach; cases = k.cases }) e1)
      ∙ ap₂ (λ (b : Option Breach) (k : ItemNotes). taken_back (record { breach = m.breach; cases = m.cases }) b k)
      fault e3
      ∙ switch_alike j at x n y in
      ap₂ (λ (k : ItemNotes) (s : Scope). summed_in k s) e4
      (out' ∙ ap leave (out ∙ ap leave (ap (λ (z : Summed). z.after) inside)))

  pub a_switch : (at : ℕ) (e : Expr) (b : Code) (n1 n2 n3 n4 : ItemNotes) (s1 s2 s3 s4 s5 s6 : Scope)
      (l : List Label) (said : SwitchSaid) (aside : Aside) → s1 ≡ enter c.scope →
      summed_in n1 s2 ≡ gathered j n s1 (tested (noted e s1)) →
      said.breach ≡ least_of (switch_breaches at (noted e s1)) → said.kind ≡ switch_kind (noted e s1) →
      l ≡ c.labels ++ b.own → aside ≡ record { breach = n1.breach; cases = n1.cases } →
      n2 ≡ record n1 { breach = None; cases = [] } → s3 ≡ enter s2 →
      summed_in n3 s4 ≡ gathered j n2 s3
      (b.content (record c { scope = s3; labels = l; breaks = true; chooses = Some said.kind })) →
      s5 ≡ leave s4 → s6 ≡ leave s5 → n4 ≡ taken_back aside said.breach n3 →
      summed_in n4 s6 ≡ gathered j n c.scope ((switch_of at (noted e) b).here c)
  a_switch at e b n1 n2 n3 n4 s1 s2 s3 s4 s5 s6 l said aside begun notes fault chosen ls put emptied entered h out out'
      back =
      switch_from_parts at (noted e (enter c.scope)) b n1 n2 n3 n4 s2 s3 s4 s5 s6 l said.kind said.breach aside
      (notes ∙ ap (λ (s : Scope). gathered j n s1 (tested (noted e s))) begun)
      (fault ∙ ap (λ (s : Scope). least_of (switch_breaches at (noted e s))) begun)
      (chosen ∙ ap (λ (s : Scope). switch_kind (noted e s)) begun) ls put emptied entered h out out' back

  pub of_switch : (st : Stmt) (at : ℕ) (e e' : Expr) (b b' : Stmt) (z : Summed) → st ≡ tree.Switch at e b →
      e' ≡ e → b' ≡ b → z ≡ gathered j n c.scope ((switch_of at (noted e') (stmt b')).here c) →
      z ≡ gathered j n c.scope ((stmt st).here c)
  of_switch st at e e' b b' z is ee be h =
      as_form st (switch_of at (noted e) (stmt b)) z (ap stmt is ∙ eq.does-Switch at e b)
      (h ∙ ap₂ (λ (e : Expr) (b : Stmt). gathered j n c.scope ((switch_of at (noted e) (stmt b)).here c)) ee be)

  -- ---- iteration

  pub of_while : (st : Stmt) (at : ℕ) (e e' : Expr) (b b' : Stmt) (n1 n2 : ItemNotes) (s1 s2 s3 s4 : Scope) →
      st ≡ tree.While at e b → s1 ≡ enter c.scope → e' ≡ e → b' ≡ b →
      summed_in n1 s2 ≡ gathered j n s1 (test_of at (noted e' s1)).item →
      summed_in n2 s3 ≡ gathered j n1 s2 (sub (stmt b') (in_loop s2 c)) → s4 ≡ leave s3 →
      summed_in n2 s4 ≡ gathered j n c.scope ((stmt st).here c)
  of_while st at e e' b b' n1 n2 s1 s2 s3 s4 is entered ee be tests body out =
      let x = noted e (enter c.scope) in
      let t = (test_of at x).item in
      let a : Scope → Item = λ s. sub (stmt b) (in_loop s c) in
      let whole = left j n n2 s1 s3 s4 (followed t (a t.after))
      (then j n n1 s1 s2 t a (summed_in n2 s3)
      (tests ∙ ap₂ (λ (e : Expr) (s : Scope). gathered j n s1 (test_of at (noted e s)).item) ee entered)
      (body ∙ ap (λ (b : Stmt). gathered j n1 s2 (sub (stmt b) (in_loop s2 c))) be)) out in
      as_form st (form.while_of at (noted e) (stmt b)) (summed_in n2 s4)
      (ap stmt is ∙ eq.does-While at e b)
      (same j n s1 c.scope (left_scope (followed t (a t.after))) (while_from at (test_of at x) (stmt b) c)
      (summed_in n2 s4) whole
      (ap (λ (m : ItemNotes). summed_in m (leave (a t.after).after)) (while_alike j at x (a t.after) refl)))

  pub of_do : (st : Stmt) (at : ℕ) (e e' : Expr) (b b' : Stmt) (n1 n2 : ItemNotes) (s1 s2 s3 s4 : Scope) →
      st ≡ tree.Do at b e → s1 ≡ enter c.scope → b' ≡ b → e' ≡ e →
      summed_in n1 s2 ≡ gathered j n s1 (sub (stmt b') (in_loop s1 c)) →
      summed_in n2 s3 ≡ gathered j n1 s2 (test_of at (noted e' s2)).item → s4 ≡ leave s3 →
      summed_in n2 s4 ≡ gathered j n c.scope ((stmt st).here c)
  of_do st at e e' b b' n1 n2 s1 s2 s3 s4 is entered be ee body tests out =
      let a = sub (stmt b) (in_loop (enter c.scope) c) in
      let t : Scope → Item = λ s. (test_of at (noted e s)).item in
      as_form st (form.do_of at (stmt b) (noted e)) (summed_in n2 s4) (ap stmt is ∙ eq.does-Do at b e)
      (left j n n2 s1 s3 s4 (followed a (t a.after))
      (then j n n1 s1 s2 a t (summed_in n2 s3)
      (body ∙ ap₂ (λ (b : Stmt) (s : Scope). gathered j n s1 (sub (stmt b) (in_loop s c))) be entered)
      (tests ∙ ap (λ (e : Expr). gathered j n1 s2 (test_of at (noted e s2)).item) ee)) out)

  -- the body and the step, which stands before it
  a_turn : (n2 n3 n4 k : ItemNotes) (s3 s4 s5 : Scope) (d : Item) (a : Scope → Item) →
      summed_in k s4 ≡ summed j d → summed_in n3 s5 ≡ gathered j n2 s4 (a s4) → n4 ≡ both n3 k →
      summed_in n4 s5 ≡ gathered j n2 s3 (record (followed (a d.after) d) { after = (a d.after).after })
  a_turn n2 n3 n4 k s3 s4 s5 d a step body more =
      let i = a d.after in
      let inside : summed_in n3 s5 ≡ gathered j n2 s4 i =
      body ∙ ap (λ (s : Scope). gathered j n2 s4 (a s)) (ap (λ (z : Summed). z.after) step) in
      ap₂ summed_in
      (more ∙ ap₂ both (ap (λ (z : Summed). z.notes) inside) (ap (λ (z : Summed). z.notes) step)
      ∙ both_grouped n2 (item_notes j i) (item_notes j d) ∙ ap (both n2) (sym (followed_is j i d)))
      (ap (λ (z : Summed). z.after) inside)

  for_alike : (at : ℕ) (f i d : Item) (test : Test) → test.item.cases ≡ [] → i.cases ≡ [] → d.cases ≡ [] →
      item_notes j (followed f (followed test.item (record (followed i d) { after = i.after })))
      ≡ item_notes j (followed f (record (looped at test i d) { after = i.after }))
  for_alike at f i d test none none' none'' =
      ap (λ (cs : List Case). record (item_notes j (followed f (followed test.item (followed i d)))) {
        cases = f.cases ++ cs;
      })
      (ap₂ (λ (xs : List Case) (ys : List Case). xs ++ ys) none
      (ap₂ (λ (xs : List Case) (ys : List Case). xs ++ ys) none' none''))

  pub of_for : (st : Stmt) (at : ℕ) (start : ForStart) (o p : Option Expr) (b b' : Stmt) (n1 n2 n3 n4 k : ItemNotes)
      (s1 s2 s3 s4 s5 s6 : Scope) → st ≡ tree.For at start o p b → s1 ≡ enter c.scope → b' ≡ b →
      summed_in n1 s2 ≡ gathered j n s1 (begun_by start s1) →
      summed_in n2 s3 ≡ gathered j n1 s2 (maybe_test at (option_map noted o) s2).item →
      summed_in k s4 ≡ summed j (maybe_value (option_map noted p) s3) →
      summed_in n3 s5 ≡ gathered j n2 s4 (sub (stmt b') (in_loop s4 c)) → n4 ≡ both n3 k → s6 ≡ leave s5 →
      summed_in n4 s6 ≡ gathered j n c.scope ((stmt st).here c)
  of_for st at start o p b b' n1 n2 n3 n4 k s1 s2 s3 s4 s5 s6 is entered be begun tests step body more out =
      let f = begun_by start (enter c.scope) in
      let t : Scope → Item = λ s. (maybe_test at (option_map noted o) s).item in
      let d : Scope → Item = λ s. maybe_value (option_map noted p) s in
      let a : Scope → Item = λ s. sub (stmt b) (in_loop s c) in
      let r : Scope → Item = λ s. record (followed (a (d s).after) (d s)) { after = (a (d s).after).after } in
      let tr : Scope → Item = λ s. followed (t s) (r (t s).after) in
      let u = (t f.after).after in
      let whole = left j n n4 s1 s5 s6 (followed f (tr f.after))
      (then j n n1 s1 s2 f tr (summed_in n4 s5)
      (begun ∙ ap (λ (s : Scope). gathered j n s1 (begun_by start s)) entered)
      (then j n1 n2 s2 s3 (t s2) r (summed_in n4 s5) tests
      (a_turn n2 n3 n4 k s3 s4 s5 (d s3) a step
      (body ∙ ap (λ (b : Stmt). gathered j n2 s4 (sub (stmt b) (in_loop s4 c))) be) more))) out in
      as_form st (for_of at (begun_by start) (option_map noted o) (option_map noted p) (stmt b))
      (summed_in n4 s6) (ap stmt is ∙ eq.does-For at start o p b)
      (same j n s1 c.scope (left_scope (followed f (tr f.after)))
      (for_from at f (option_map noted o) (option_map noted p) (stmt b) c) (summed_in n4 s6) whole
      (ap (λ (m : ItemNotes). summed_in m (leave (a (d u).after).after))
      (for_alike at f (a (d u).after) (d u) (maybe_test at (option_map noted o) f.after)
      (test_gives_none at (option_map noted o) f.after) refl (effect_gives_none (option_map noted p) u))))
