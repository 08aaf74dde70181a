-- What code prints.
use Rattle.std.proofs.Common.{◌≡◌, ◌+◌, ℕ, zero, suc, ℤ, Bool, true, false, cond, List, [], ◌∷◌, ◌++◌, length, map, Option, Some, None, refl, sym, ap, subst, ◌∙◌}
use Rattle.std.proofs.lemmas.List.{append-nil}
use Rattle.c_means.specs.declared.kind.Kind.{Kind}
use Rattle.c_means.specs.Parts.{Env}
use Rattle.c_means.specs.Items.{Made, known, past_switch}
use Rattle.c_means.specs.Initials.{text_byte}
use Rattle.c_means.specs.Statements.{no_env}
use Rattle.c_store.specs.Store.{Store, start, lay}
use Rattle.core_tree.specs.declared.code.Setting.{Setting}
use Rattle.core_tree.specs.declared.code.Setting.TheVariants as setting
use Rattle.core_tree.specs.declared.expr.Expr.{Expr}
use Rattle.core_tree.specs.declared.program.Function.{Function}
use Rattle.core_tree.specs.declared.program.Parameter.{Parameter}
use Rattle.core_tree.specs.declared.types.ValueType.{ValueType}
use Rattle.core_tree.specs.declared.types.WordType.{WordType}
use Rattle.core_tree.specs.Codes.{Item, acting, nothing, followed, in_turn, lived, evaluated, value_of, jump, returns, return_of, block, arrived, if_of, if_runs, is_among, chosen_at, switch_of, switch_runs, sets, sets_all, setting_needs, zeroed_if, declared, code}
use Rattle.core_tree.specs.Memory.{stored}
use Rattle.core_tree.specs.Numbers.{wrapped}
use Rattle.core_tree.specs.Programs.{body_of, by_body, back, frame, passed}
use Rattle.core_tree.specs.States.{Output, plain, Done, Acts, Arrow, Needs, Measures, onward, running, arrive, become, with_value, on_branch, one_of, born, dead, entered, with_store}
use Rattle.core_tree.specs.Values.{Value, value}
use Rattle.log_language.specs.declared.tree.LogExpr.{LogExpr}
use Rattle.log_language.specs.declared.tree.LogExpr.TheVariants as tree
use Rattle.log_language.specs.Language as says
use Rattle.log_language.specs.Tells.{Site, Talk, level_by, texts, Prints, Wider, EndsIn, InEnd, SaysEnd, TellsValue, TellsActs, setting_acts}
use Rattle.log_language.proofs.Says.{wider_same, wider_then, prints_wider, prints_same, end_wider, through, where_it_runs, with_found, branching}

born_printed : (ms : List Made) (d : Done Output) → (born plain ms d).out.printed ≡ d.out.printed
born_printed [] d = refl
born_printed (m ∷ ms) d = born_printed ms _

dead_printed : (ms : List Made) (d : Done Output) → (dead ms d).out.printed ≡ d.out.printed
dead_printed [] d = refl
dead_printed (m ∷ ms) d = dead_printed ms _

passed_printed : (base : ℕ) (ps : List Parameter) (vs : List ℤ) (d : Done Output) → (passed base ps vs d).out.printed ≡ d.out.printed
passed_printed base [] vs d = refl
passed_printed base (p ∷ ps) [] d = refl
passed_printed base (p ∷ ps) (v ∷ vs) d = passed_printed (suc base) ps vs _

pub says_passes : (a : LogExpr) (i : Acts Output) → i ≡ (λ l env base d. Some d) → TellsActs i a a
says_passes a i q = subst (λ z. TellsActs z a a) (sym q) (record { wider = wider_same a; says = λ x p before env base d m. record { is = m } })

pub says_running : (f : Acts Output) (a b : LogExpr) → TellsActs f a b → TellsActs (λ l env base. running (f l env base)) a b
says_running f a b c = record {
  wider = c.wider;
  says = λ x p before env base d m. where_it_runs x a b before (f (level_by x p) env base) d c.wider m (c.says x p before env base d m);
}

pub says_followed : (i j : Item Output) (a m b : LogExpr) → TellsActs i.run a m → TellsActs j.run m b → TellsActs (followed i j).run a b
says_followed i j a m b c e = record {
  wider = wider_then a m b c.wider e.wider;
  says = λ x p before env base d n. through x m b before (i.run (level_by x p) env base d) (j.run (level_by x p) env (base + i.needs.room (level_by x p).measures))
      (c.says x p before env base d n) (λ d g. e.says x p before env (base + i.needs.room (level_by x p).measures) d g);
}

pub says_lived : (i : Item Output) (a b : LogExpr) → TellsActs i.run a b → TellsActs (lived i) a b
says_lived i a b c = record {
  wider = c.wider;
  says = λ x p before env base d m.
      let l = level_by x p in
      let ms : List Made = i.objects l.measures base in
      let first : Done Output = born plain ms d in
      through x b b before (i.run l (known ms env) base first) (λ r. Some (dead ms r)) (c.says x p before (known ms env) base first (prints_same x a before d first (born_printed ms d) m))
      (λ r n. record { is = prints_same x b before r (dead ms r) (dead_printed ms r) n });
}

pub says_value : (v : Value Output) (a b : LogExpr) → TellsValue v a b → TellsActs (value_of v) a b
says_value v a b c = record {
  wider = c.wider;
  says = λ x p before env base d m. with_found x b b before (v.run (level_by x p) env base d) (λ z d. Some d) (wider_same b) (c.says x p before env base d m) (λ z d n. record { is = n });
}

pub says_jump : (kind : Kind) (a : LogExpr) → TellsActs (jump {O = Output} kind).run a a
says_jump kind a = says_running (λ l env base d. Some (become kind d)) a a (record { wider = wider_same a; says = λ x p before env base d m. record { is = prints_same x a before d (become kind d) refl m } })

pub says_returns : (v : Value Output) (a b : LogExpr) → TellsValue v a b → TellsActs (returns v) a b
says_returns v a b c = record {
  wider = c.wider;
  says = λ x p before env base d m. with_found x b b before (v.run (level_by x p) env base d) _ (wider_same b) (c.says x p before env base d m) (λ z d n. record { is = prints_same x b before d _ refl n });
}

pub says_arrived : (f : Kind → Kind) (more : Measures → ℕ) (i : Item Output) (a b : LogExpr) → TellsActs i.run a b → TellsActs (arrived f more i).run a b
says_arrived f more i a b c = record { wider = c.wider; says = λ x p before env base d m. c.says x p before env base (arrive f d) (prints_same x a before d (arrive f d) refl m) }

pub says_if : (at : ℕ) (q : Value Output) (i j : Item Output) (a m l r b : LogExpr) → TellsValue q a m → TellsActs i.run m l → TellsActs j.run m r → Wider l b → Wider r b → TellsActs (if_runs at q i j) a b
says_if at q i j a m l r b c e f wl wr = record {
  wider = wider_then a m b c.wider (wider_then m l b e.wider wl);
  says = λ x p before env base d n.
      let left : ℕ = base + q.needs.room (level_by x p).measures in
      let right : ℕ = base + (q.needs.room (level_by x p).measures + i.needs.room (level_by x p).measures) in
      with_found x m b before (q.run (level_by x p) env base d) (λ v. on_branch plain at v (λ s. one_of s (i.run (level_by x p) env left) (j.run (level_by x p) env right))) (wider_then m l b e.wider wl) (c.says x p before env base d n)
      (λ v d g. branching x m b before at v (λ s. one_of s (i.run (level_by x p) env left) (j.run (level_by x p) env right)) d g (side x p before env left right));
}
  where
    side : (x : Site) (p : Talk x) (before : List ℕ) (env : Env) (left right : ℕ) (s : Bool) (d : Done Output) → Prints x m before d → SaysEnd x b before (one_of s (i.run (level_by x p) env left) (j.run (level_by x p) env right) d)
    side x p before env left right true d g = end_wider x l b before (i.run (level_by x p) env left d) wl (e.says x p before env left d g)
    side x p before env left right false d g = end_wider x r b before (j.run (level_by x p) env right d) wr (f.says x p before env right d g)

pub says_switch : (at : ℕ) (word : WordType) (cases : List ℤ) (q : Value Output) (i : Item Output) (a m b : LogExpr) → TellsValue q a m → TellsActs i.run m b → TellsActs (switch_runs at word cases q i) a b
says_switch at word cases q i a m b c e = record {
  wider = wider_then a m b c.wider e.wider;
  says = λ x p before env base d n.
      let l = level_by x p in
      let second : ℕ = base + q.needs.room l.measures in
      with_found x m b before (q.run l env base d) (λ v d. onward (lived i l env second (chosen_at plain at cases (wrapped word v) d)) (λ r. Some (arrive past_switch r))) e.wider (c.says x p before env base d n)
      (λ v d g. through x b b before (lived i l env second (chosen_at plain at cases (wrapped word v) d)) (λ r. Some (arrive past_switch r))
      ((says_lived i m b e).says x p before env second (chosen_at plain at cases (wrapped word v) d) (prints_same x m before d (chosen_at plain at cases (wrapped word v) d) refl g))
      (λ r h. record { is = prints_same x b before r (arrive past_switch r) refl h }));
}

-- ---- declarations

pub says_set_none : (n : ℕ) (a : LogExpr) → TellsActs (setting_acts [] n) a a
says_set_none n a = record { wider = wider_same a; says = λ x p before env base d m. record { is = m } }

pub says_set_text : (offset size : ℕ) (bytes : List ℕ) (rest : List Setting) (n : ℕ) (a b : LogExpr) → TellsActs (setting_acts rest n) a b → TellsActs (setting_acts (setting.Text offset size bytes ∷ rest) n) a b
says_set_text offset size bytes rest n a b c = record {
  wider = c.wider;
  says = λ x p before env base d m.
      let l = level_by x p in
      let e : Done Output = with_store (lay (n + offset) size (text_byte bytes) d.store) d in
      let next : ℕ = base + (setting_needs Output (setting.Text offset size bytes)).room l.measures in
      let g : Prints x a before e = prints_same x a before d e refl m in
      where_it_runs x a b before (sets_all rest n l env next) e c.wider g (c.says x p before env next e g);
}

pub says_set_value : (offset : ℕ) (type : ValueType) (e : Expr) (rest : List Setting) (n : ℕ) (a m b : LogExpr) → TellsValue (value e) a m → TellsActs (setting_acts rest n) m b
    → TellsActs (setting_acts (setting.Value offset type e ∷ rest) n) a b
says_set_value offset type e rest n a m b v c = record {
  wider = wider_then a m b v.wider c.wider;
  says = λ x p before env base d i.
      let l = level_by x p in
      let next : ℕ = base + (setting_needs Output (setting.Value offset type e)).room l.measures in
      through x m b before (sets (setting.Value offset type e) n l env base d) (running (sets_all rest n l env next))
      (with_found x m m before ((value e).run l env base d) (λ z d. Some (stored type (n + offset) z d)) (wider_same m) (v.says x p before env base d i) (λ z d g. record { is = prints_same x m before d (stored type (n + offset) z d) refl g }))
      (λ d g. where_it_runs x m b before (sets_all rest n l env next) d c.wider g (c.says x p before env next d g));
}

pub says_declared : (at n : ℕ) (zeroed : Bool) (xs : List Setting) (a b : LogExpr) → ((q : ℕ) → TellsActs (setting_acts xs q) a b) → TellsActs (declared {O = Output} at n zeroed xs).run a b
says_declared at n zeroed xs a b c = record {
  wider = (c 0).wider;
  says = λ x p before env base d m.
      let f : Arrow Output = λ d. sets_all xs (start (env at)) (level_by x p) env (base + 1) (zeroed_if zeroed (start (env at)) n d) in
      where_it_runs x a b before f d (c 0).wider m ((c (start (env at))).says x p before env (base + 1) (zeroed_if zeroed (start (env at)) n d) (prints_same x a before d (zeroed_if zeroed (start (env at)) n d) (zeroed_printed zeroed (start (env at)) n d) m));
}
  where
    zeroed_printed : (z : Bool) (q n : ℕ) (d : Done Output) → (zeroed_if z q n d).out.printed ≡ d.out.printed
    zeroed_printed true q n d = refl
    zeroed_printed false q n d = refl

-- ---- bodies

pub body_says : (fn : Function) (b : LogExpr) → TellsActs (in_turn (map code fn.items)).run tree.Silent b → (x : Site) (p : Talk x) (vs : List ℤ) (base : ℕ) (s : Store) (o : Output)
    → EndsIn (texts x b) (by_body (level_by x p) (body_of fn) vs base s o)
body_says fn b c x p vs base s o =
    let ps : List Parameter = fn.parameters in
    let ms : List Made = frame base ps in
    let first : Done Output = entered plain s o in
    let e : Done Output = born plain ms first in
    let d : Done Output = passed base ps vs e in
    let quiet : d.out.printed ≡ [] = passed_printed base ps vs e ∙ born_printed ms first in
    by ms (lived (in_turn (map code fn.items)) (level_by x p) (known ms no_env) (base + length ps) d)
    ((says_lived (in_turn (map code fn.items)) tree.Silent b c).says x p [] (known ms no_env) (base + length ps) d (record { text = []; is = quiet; said = says.silent })).is
  where
    by : (ms : List Made) (q : Option (Done Output)) → InEnd x b [] q → EndsIn (texts x b) (onward q (λ r. Some (back (dead ms r))))
    by ms None h = tt
    by ms (Some r) h = subst (texts x b) (sym (dead_printed ms r ∙ h.is)) h.said
