-- What expressions print.
use Rattle.std.proofs.Common.{◌≡◌, ◌+◌, ℕ, ℤ, pos, Bool, true, false, List, [], ◌∷◌, refl, sym, subst}
use Rattle.std.specs.Prelude.{unsigned_abs, not, Some, None, Option}
use Rattle.plain_data.specs.declared.run.Happening.TheVariants as happening
use Rattle.c_means.specs.Parts.{Env}
use Rattle.c_language.specs.Integers.{is_zero, number_of}
use Rattle.core_tree.specs.declared.expr.Callee.{Callee}
use Rattle.core_tree.specs.declared.types.Access.{Access}
use Rattle.core_tree.specs.declared.types.Answered.{Answered}
use Rattle.core_tree.specs.declared.types.Operator.{Operator}
use Rattle.core_tree.specs.declared.types.ValueType.{ValueType}
use Rattle.core_tree.specs.declared.types.ValueType.TheVariants as v
use Rattle.core_tree.specs.Callees.{called}
use Rattle.core_tree.specs.Memory.{load, put, operated}
use Rattle.core_tree.specs.States.{Output, plain, Done, Outcome, ◌>>=◌, found, on_branch, Needs, note, returned}
use Rattle.core_tree.specs.Values.{Value, constant, local, on_value, comma, operate, store, update, step, both, either, choose, call, and_then, or_else, one_run, truth_of, either_value, arguments, all_rooms, acting, needed}
use Rattle.log_language.specs.declared.tree.LogExpr.{LogExpr}
use Rattle.log_language.specs.Tells.{Site, Talk, level_by, texts, Prints, Wider, SaysOutcome, TellsValue, TellsValues, TellsCall}
use Rattle.log_language.proofs.CallTexts.{call_returns}
use Rattle.log_language.proofs.Says.{wider_same, wider_then, prints_wider, prints_same, outcome_wider, bind, branched, Keeps, kept_says, keeps_found, keeps_stop, keeps_load, keeps_put, keeps_operated}

pub says_constant : (z : ℤ) (a : LogExpr) → TellsValue (constant z) a a
says_constant z a = record { wider = wider_same a; says = λ x p before env base d m. record { is = m } }

pub says_local : (at : ℕ) (a : LogExpr) → TellsValue (local at) a a
says_local at a = record { wider = wider_same a; says = λ x p before env base d m. record { is = m } }

-- a step that prints nothing
pub says_on : (needs : Needs) (f : ℤ → Done Output → Outcome Output ℤ) (y : Value Output) (a b : LogExpr) → ((z : ℤ) (d : Done Output) → Keeps d (f z d)) → TellsValue y a b → TellsValue (on_value needs f y) a b
says_on needs f y a b keeps c = record {
  wider = c.wider;
  says = λ x p before env base d m. bind x b b before (y.run (level_by x p) env base d) (λ u. f u.0 u.1) (wider_same b) (c.says x p before env base d m)
      (λ u n. kept_says x b before u.1 (f u.0 u.1) (keeps u.0 u.1) n);
}

pub says_comma : (y z : Value Output) (a m b : LogExpr) → TellsValue y a m → TellsValue z m b → TellsValue (comma y z) a b
says_comma y z a m b c e = record {
  wider = wider_then a m b c.wider e.wider;
  says = λ x p before env base d i. bind x m b before (y.run (level_by x p) env base d) (λ u. z.run (level_by x p) env (base + y.needs.room (level_by x p).measures) u.1) e.wider
      (c.says x p before env base d i) (λ u n. e.says x p before env (base + y.needs.room (level_by x p).measures) u.1 n);
}

module _ (f : ℤ → ℤ → Done Output → Outcome Output ℤ) (keeps : (s t : ℤ) (d : Done Output) → Keeps d (f s t d)) (y z : Value Output) (a m b : LogExpr) (c : TellsValue y a m) (e : TellsValue z m b) where
  pub both_say : (x : Site) (p : Talk x) (before : List ℕ) (env : Env) (base : ℕ) (d : Done Output) → Prints x a before d
      → SaysOutcome x b before (y.run (level_by x p) env base d >>= λ u. z.run (level_by x p) env (base + y.needs.room (level_by x p).measures) u.1 >>= λ w. f u.0 w.0 w.1)
  both_say x p before env base d i =
      bind x m b before (y.run (level_by x p) env base d) (λ u. z.run (level_by x p) env (base + y.needs.room (level_by x p).measures) u.1 >>= λ w. f u.0 w.0 w.1) e.wider (c.says x p before env base d i)
      (λ u n. bind x b b before (z.run (level_by x p) env (base + y.needs.room (level_by x p).measures) u.1) (λ w. f u.0 w.0 w.1) (wider_same b) (e.says x p before env (base + y.needs.room (level_by x p).measures) u.1 n)
      (λ w o. kept_says x b before w.1 (f u.0 w.0 w.1) (keeps u.0 w.0 w.1) o))

pub says_operate : (at : ℕ) (o : Operator) (y z : Value Output) (a m b : LogExpr) → TellsValue y a m → TellsValue z m b → TellsValue (operate at o y z) a b
says_operate at o y z a m b c e = record { wider = wider_then a m b c.wider e.wider; says = both_say (operated at o) (keeps_operated at o) y z a m b c e }

pub says_store : (at : ℕ) (access : Access) (y z : Value Output) (a m b : LogExpr) → TellsValue y a m → TellsValue z m b → TellsValue (store at access y z) a b
says_store at access y z a m b c e = record {
  wider = wider_then a m b c.wider e.wider;
  says = both_say (λ s t. put at access (unsigned_abs s) t) (λ s t. keeps_put at access (unsigned_abs s) t) y z a m b c e;
}

pub says_update : (at : ℕ) (o : Operator) (access : Access) (y z : Value Output) (a m b : LogExpr) → TellsValue y a m → TellsValue z m b → TellsValue (update at o access y z) a b
says_update at o access y z a m b c e = record {
  wider = wider_then a m b c.wider e.wider;
  says = λ x p before env base d i.
      let l = level_by x p in
      let third : ℤ → ℤ × Done Output → ℤ × Done Output → Outcome Output ℤ = λ s w u. operated at o w.0 u.0 u.1 >>= λ q. put at access (unsigned_abs s) q.0 q.1 in
      let second : ℤ → ℤ × Done Output → Outcome Output ℤ = λ s w. z.run l env (base + y.needs.room l.measures) w.1 >>= third s w in
      let first : ℤ × Done Output → Outcome Output ℤ = λ s. load access (unsigned_abs s.0) s.1 >>= second s.0 in
      bind x m b before (y.run l env base d) first e.wider (c.says x p before env base d i)
      (λ s n. bind x m b before (load access (unsigned_abs s.0) s.1) (second s.0) e.wider (kept_says x m before s.1 (load access (unsigned_abs s.0) s.1) (keeps_load access (unsigned_abs s.0) s.1) n)
      (λ w g. bind x b b before (z.run l env (base + y.needs.room l.measures) w.1) (third s.0 w) (wider_same b) (e.says x p before env (base + y.needs.room l.measures) w.1 g)
      (λ u h. bind x b b before (operated at o w.0 u.0 u.1) (λ q. put at access (unsigned_abs s.0) q.0 q.1) (wider_same b) (kept_says x b before u.1 (operated at o w.0 u.0 u.1) (keeps_operated at o w.0 u.0 u.1) h)
      (λ q j. kept_says x b before q.1 (put at access (unsigned_abs s.0) q.0 q.1) (keeps_put at access (unsigned_abs s.0) q.0 q.1) j))));
}

pub says_step : (at : ℕ) (o : Operator) (access : Access) (answer : Answered) (y : Value Output) (a b : LogExpr) → TellsValue y a b → TellsValue (step at o access answer y) a b
says_step at o access answer y a b c = record {
  wider = c.wider;
  says = λ x p before env base d i.
      let l = level_by x p in
      let third : ℤ → ℤ × Done Output → ℤ × Done Output → Outcome Output ℤ = λ s w u. put at access (unsigned_abs s) u.0 u.1 >>= λ q. found (either_value answer w.0 q.0) q.1 in
      let second : ℤ → ℤ × Done Output → Outcome Output ℤ = λ s w. operated at o w.0 (pos 1) w.1 >>= third s w in
      let first : ℤ × Done Output → Outcome Output ℤ = λ s. load access (unsigned_abs s.0) s.1 >>= second s.0 in
      bind x b b before (y.run l env base d) first (wider_same b) (c.says x p before env base d i)
      (λ s n. bind x b b before (load access (unsigned_abs s.0) s.1) (second s.0) (wider_same b) (kept_says x b before s.1 (load access (unsigned_abs s.0) s.1) (keeps_load access (unsigned_abs s.0) s.1) n)
      (λ w g. bind x b b before (operated at o w.0 (pos 1) w.1) (third s.0 w) (wider_same b) (kept_says x b before w.1 (operated at o w.0 (pos 1) w.1) (keeps_operated at o w.0 (pos 1) w.1) g)
      (λ u h. bind x b b before (put at access (unsigned_abs s.0) u.0 u.1) (λ q. found (either_value answer w.0 q.0) q.1) (wider_same b) (kept_says x b before u.1 (put at access (unsigned_abs s.0) u.0 u.1) (keeps_put at access (unsigned_abs s.0) u.0 u.1) h)
      (λ q j. record { is = j }))));
}

-- ---- branches

module _ (y z : Value Output) (a m b : LogExpr) (c : TellsValue y a m) (e : TellsValue z m b) where
  truth_says : (x : Site) (p : Talk x) (before : List ℕ) (env : Env) (base : ℕ) (d : Done Output) → Prints x m before d → SaysOutcome x b before (truth_of z (level_by x p) env base d)
  truth_says x p before env base d i =
      bind x b b before (z.run (level_by x p) env base d) (λ u. found (number_of (not (is_zero u.0))) u.1) (wider_same b) (e.says x p before env base d i) (λ u n. record { is = n })

  pub says_both : (at : ℕ) → TellsValue (both at y z) a b
  says_both at = record {
    wider = wider_then a m b c.wider e.wider;
    says = λ x p before env base d i.
        let l = level_by x p in
        let second : ℕ = base + y.needs.room l.measures in
        bind x m b before (y.run l env base d) (λ u. on_branch plain at u.0 (and_then z l env second) u.1) e.wider (c.says x p before env base d i)
        (λ u n. branched x m b before at u.0 (and_then z l env second) u.1 n (arm x p before env second));
  }
    where
      arm : (x : Site) (p : Talk x) (before : List ℕ) (env : Env) (base : ℕ) (s : Bool) (i : Done Output) → Prints x m before i → SaysOutcome x b before (and_then z (level_by x p) env base s i)
      arm x p before env base true i n = truth_says x p before env base i n
      arm x p before env base false i n = record { is = prints_wider x m b before i e.wider n }

  pub says_either : (at : ℕ) → TellsValue (either at y z) a b
  says_either at = record {
    wider = wider_then a m b c.wider e.wider;
    says = λ x p before env base d i.
        let l = level_by x p in
        let second : ℕ = base + y.needs.room l.measures in
        bind x m b before (y.run l env base d) (λ u. on_branch plain at u.0 (or_else z l env second) u.1) e.wider (c.says x p before env base d i)
        (λ u n. branched x m b before at u.0 (or_else z l env second) u.1 n (arm x p before env second));
  }
    where
      arm : (x : Site) (p : Talk x) (before : List ℕ) (env : Env) (base : ℕ) (s : Bool) (i : Done Output) → Prints x m before i → SaysOutcome x b before (or_else z (level_by x p) env base s i)
      arm x p before env base true i n = record { is = prints_wider x m b before i e.wider n }
      arm x p before env base false i n = truth_says x p before env base i n

pub says_choose : (at : ℕ) (q y z : Value Output) (a m l r b : LogExpr) → TellsValue q a m → TellsValue y m l → TellsValue z m r → Wider l b → Wider r b → TellsValue (choose at q y z) a b
says_choose at q y z a m l r b c e f wl wr = record {
  wider = wider_then a m b c.wider (wider_then m l b e.wider wl);
  says = λ x p before env base d i.
      let n : ℕ = base + q.needs.room (level_by x p).measures in
      bind x m b before (q.run (level_by x p) env base d) (λ u. on_branch plain at u.0 (one_run y z (level_by x p) env n) u.1) (wider_then m l b e.wider wl) (c.says x p before env base d i)
      (λ u g. branched x m b before at u.0 (one_run y z (level_by x p) env n) u.1 g (arm x p before env n));
}
  where
    arm : (x : Site) (p : Talk x) (before : List ℕ) (env : Env) (base : ℕ) (s : Bool) (i : Done Output) → Prints x m before i → SaysOutcome x b before (one_run y z (level_by x p) env base s i)
    arm x p before env base true i g = outcome_wider x l b before (y.run (level_by x p) env base i) wl (e.says x p before env base i g)
    arm x p before env base false i g = outcome_wider x r b before (z.run (level_by x p) env (base + y.needs.room (level_by x p).measures) i) wr (f.says x p before env (base + y.needs.room (level_by x p).measures) i g)

-- ---- calls

pub says_none : (a : LogExpr) → TellsValues [] a a
says_none a = record { wider = wider_same a; says = λ x p before env base d m. record { is = m } }

pub says_more : (y : Value Output) (ys : List (Value Output)) (a m b : LogExpr) → TellsValue y a m → TellsValues ys m b → TellsValues (y ∷ ys) a b
says_more y ys a m b c e = record {
  wider = wider_then a m b c.wider e.wider;
  says = λ x p before env base d i.
      let l = level_by x p in
      let n : ℕ = base + y.needs.room l.measures in
      bind x m b before (y.run l env base d) (λ u. arguments ys l env n u.1 >>= λ w. found (u.0 ∷ w.0) w.1) e.wider (c.says x p before env base d i)
      (λ u g. bind x b b before (arguments ys l env n u.1) (λ w. found (u.0 ∷ w.0) w.1) (wider_same b) (e.says x p before env n u.1 g) (λ w h. record { is = h }));
}

needed_keeps : (used : Bool) (at : ℕ) (type : ValueType) (z : Option ℤ) (d : Done Output) → Keeps d (needed used at type z d)
needed_keeps used at type (Some z) d = keeps_found z d
needed_keeps false at type None d = keeps_found (pos 0) d
needed_keeps true at v.Void None d = keeps_found (pos 0) d
needed_keeps true at v.Truth None d = keeps_stop _ _ d
needed_keeps true at (v.Word w) None d = keeps_stop _ _ d
needed_keeps true at v.Pointer None d = keeps_stop _ _ d
needed_keeps true at (v.Block n) None d = keeps_stop _ _ d

pub says_call : (at : ℕ) (ys : List (Value Output)) (q : Callee) (type : ValueType) (used : Bool) (a m b : LogExpr) → TellsValues ys a m → TellsCall q m b → TellsValue (call at ys q type used) a b
says_call at ys q type used a m b c e = record {
  wider = wider_then a m b c.wider e.wider;
  says = λ x p before env base d i.
      let l = level_by x p in
      let n : ℕ = base + all_rooms ys l.measures in
      let second : List ℤ × Done Output → Outcome Output ℤ = λ vs. acting q at type l env vs.0 n (note plain (happening.Call at) vs.1) >>= λ w. needed used at type w.0 w.1 in
      bind x m b before (arguments ys l env base d) second e.wider (c.says x p before env base d i)
      (λ vs g.
      let noted : Done Output = note plain (happening.Call at) vs.1 in
      bind x b b before (acting q at type l env vs.0 n noted) (λ w. needed used at type w.0 w.1) (wider_same b)
      (call_returns x m b before noted (called l q at type env vs.0 n noted.store noted.out) (e.says x p at type env vs.0 n noted.store noted.out) (prints_same x m before vs.1 noted refl g))
      (λ w h. kept_says x b before w.1 (needed used at type w.0 w.1) (needed_keeps used at type w.0 w.1) h));
}
