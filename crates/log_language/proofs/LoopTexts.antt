-- What loops print.
use Rattle.std.proofs.Common.{◌≡◌, ◌+◌, ◌≤◌, ◌<◌, ℕ, zero, suc, ℤ, Bool, true, false, List, [], ◌++◌, Option, Some, None, cond, refl, sym, ap, subst, ◌∙◌, append_assoc, arith}
use Rattle.std.specs.Prelude.{Ok, Err}
use Rattle.std.proofs.lemmas.List.{append-nil}
use Rattle.c_means.specs.declared.kind.Kind.{Kind}
use Rattle.c_means.specs.declared.kind.Kind.TheVariants as k
use Rattle.c_language.specs.Integers.{is_zero}
use Rattle.plain_data.specs.declared.run.Finish.TheVariants as finish
use Rattle.c_means.specs.Parts.{Env}
use Rattle.c_means.specs.Items.{past_break, past_continue}
use Rattle.core_tree.specs.Codes.{Item, left_at, tested, test_needs, turn_needs, turns_from, broken_out, looped, rounds_from, repeated, maybe_evaluated, evaluated, nothing}
use Rattle.core_tree.specs.States.{Output, plain, Done, Acts, Arrow, Level, onward, running, where_running, stay, with_value, Outcome, arrive, finished, on_branch, one_of}
use Rattle.core_tree.specs.Values.{Value}
use Rattle.log_language.specs.declared.tree.LogExpr.{LogExpr}
use Rattle.log_language.specs.declared.tree.LogExpr.TheVariants as tree
use Rattle.log_language.specs.Language.{times}
use Rattle.log_language.specs.Language as says
use Rattle.log_language.specs.Tells.{Site, Talk, level_by, texts, Prints, Wider, InOutcome, InEnd, SaysEnd, TellsValue, TellsMaybe, TellsActs}
use Rattle.log_language.proofs.CodeTexts.{says_running, says_value}
use Rattle.log_language.proofs.Says.{wider_same, wider_then, prints_wider, prints_same, end_wider, through, where_it_runs, with_found, branching}

pub maybe_wider : (v : Option (Value Output)) (a b : LogExpr) → TellsMaybe v a b → Wider a b
maybe_wider None a b h = subst (Wider a) (sym h) (wider_same a)
maybe_wider (Some v) a b h = h.wider

pub says_maybe : (v : Option (Value Output)) (a b : LogExpr) → TellsMaybe v a b → TellsActs (maybe_evaluated v).run a b
says_maybe None a b h = subst (λ z. TellsActs (nothing {O = Output}).run a z) (sym h) (record { wider = wider_same a; says = λ x p before env base d m. record { is = m } })
says_maybe (Some v) a b h = says_running _ a b (says_value v a b h)

-- a test whose text stands behind a known one: its own texts are those behind it
tested_says : (v : Option (Value Output)) (a m : LogExpr) → TellsMaybe v a m → (x : Site) (p : Talk x) (before : List ℕ) (env : Env) (base : ℕ) (d : Done Output) → Prints x a before d → (at : ℕ) (b : LogExpr) (q : List ℕ) (go : Bool → Arrow Output)
    → ((s : Bool) (e : Done Output) → Prints x m before e → SaysEnd x b q (go s e)) → ((e : Done Output) → Prints x m before e → Prints x b q e) → SaysEnd x b q (tested at v (level_by x p) env base go d)
tested_says None a m h x p before env base d i at b q go f g = f true d (subst (λ z. Prints x z before d) (sym h) i)
tested_says (Some v) a m h x p before env base d i at b q go f g = by (v.run (level_by x p) env base d) (h.says x p before env base d i).is
  where
    branch : (z : Bool) (u w : Option (Done Output)) → SaysEnd x b q u → SaysEnd x b q w → SaysEnd x b q (cond z u w)
    branch true u w k l = k
    branch false u w k l = l

    by : (o : Outcome Output ℤ) → InOutcome x m before o → SaysEnd x b q (with_value o (λ z. on_branch plain at z go))
    by None k = record { is = tt }
    by (Some (Ok r)) k = branch (is_zero r.0) _ _ (f false _ (prints_same x m before r.1 _ refl k)) (f true _ (prints_same x m before r.1 _ refl k))
    by (Some (Err e)) k = record { is = g e k }

-- a run stands behind so many turns of a loop that begins behind `a`, each of which prints a text of `t`
record AtTurn (x : Site) (a t : LogExpr) (k : ℕ) (before : List ℕ) (d : Done Output) : Type 0 where
  first : List ℕ
  turns : List ℕ
  is : d.out.printed ≡ before ++ (first ++ turns)
  begun : texts x a first
  taken : texts x (times k t) turns

module _ (a t : LogExpr) where
  abbrev pub loop : LogExpr
  loop = tree.Sequence a (tree.Repetition t)

  loop_wider : Wider a loop
  loop_wider x u m = subst (texts x loop) (append-nil u) (says.sequence a (tree.Repetition t) u [] m (says.repeats t 0 [] (omega arith) says.silent))

  module _ (x : Site) (before : List ℕ) where
    -- behind some of its turns
    behind : (k : ℕ) (d : Done Output) → k ≤ x.turns → AtTurn x a t k before d → Prints x loop before d
    behind k d h m = record {
      text = m.first ++ m.turns;
      is = m.is;
      said = says.sequence a (tree.Repetition t) m.first m.turns m.begun (says.repeats t k m.turns h m.taken);
    }

    -- and with another turn, of which this was printed
    again : (k : ℕ) (d e : Done Output) → AtTurn x a t k before d → Prints x t d.out.printed e → AtTurn x a t (suc k) before e
    again k d e m h = record {
      first = m.first;
      turns = m.turns ++ h.text;
      is = h.is ∙ ap (λ z. z ++ h.text) m.is ∙ append_assoc before (m.first ++ m.turns) h.text ∙ ap (λ z. before ++ z) (append_assoc m.first m.turns h.text);
      begun = m.begun;
      taken = says.sequence (times k t) t m.turns h.text m.taken h.said;
    }

    begins : (d : Done Output) → Prints x a before d → AtTurn x a t 0 before d
    begins d h = record { first = h.text; turns = []; is = h.is ∙ ap (λ z. before ++ z) (sym (append-nil h.text)); begun = h.said; taken = says.silent }

-- a run that isn't running passes
passes : (x : Site) (b : LogExpr) (before : List ℕ) (f : Arrow Output) (d : Done Output) → Prints x b before d → SaysEnd x b before (f d) → SaysEnd x b before (running f d)
passes x b before f d h n = where_it_runs x b b before f d (wider_same b) h n

-- where a turn begins nothing of it is printed
turn_begins : (x : Site) (d : Done Output) → Prints x tree.Silent d.out.printed d
turn_begins x d = record { text = []; is = sym (append-nil d.out.printed); said = says.silent }

module _ (at : ℕ) (c after : Option (Value Output)) (body : Item Output) (a m1 m2 t b : LogExpr) (test : TellsMaybe c tree.Silent m1) (inner : TellsActs body.run m1 m2) (step : TellsMaybe after m2 t)
    (last : TellsMaybe c (loop a t) b) where
  t_wider : Wider m2 t
  t_wider = maybe_wider after m2 t step

  b_wider : Wider (loop a t) b
  b_wider = maybe_wider c (loop a t) b last

  -- a turn, with what the others print
  turn_says : (x : Site) (p : Talk x) (before : List ℕ) (env : Env) (n k : ℕ) (base : ℕ) (d : Done Output) → suc k ≤ x.turns → AtTurn x a t k before d
      → ((e : Done Output) → AtTurn x a t (suc k) before e
      → SaysEnd x b before (turns_from at c body (maybe_evaluated after) (level_by x p) env n (base + (turn_needs c body (maybe_evaluated after)).room (level_by x p).measures) e))
      → SaysEnd x b before (turns_from at c body (maybe_evaluated after) (level_by x p) env (suc n) base d)
  turn_says x p before env n k base d q m more =
      tested_says c tree.Silent m1 test x p d.out.printed env base d (turn_begins x d) at b before
      (λ s. one_of s (λ d. onward (body.run l env second d) (λ r. running on (arrive past_continue r))) stay) side (λ e h. out m1 e (wider_then m1 m2 t inner.wider t_wider) h)
    where
      l : Level Output
      l = level_by x p

      second : ℕ
      second = base + (test_needs c).room l.measures

      third : ℕ
      third = base + ((test_needs c).room l.measures + body.needs.room l.measures)

      next : ℕ
      next = base + (turn_needs c body (maybe_evaluated after)).room l.measures

      on : Arrow Output
      on r = onward ((maybe_evaluated after).run l env third r) (running (turns_from at c body (maybe_evaluated after) l env n next))

      out : (y : LogExpr) (e : Done Output) → Wider y t → Prints x y d.out.printed e → Prints x b before e
      out y e w h = prints_wider x (loop a t) b before e b_wider (behind a t x before (suc k) e q (again a t x before k d e m (prints_wider x y t d.out.printed e w h)))

      stepped : (e : Done Output) → Prints x m2 d.out.printed e → SaysEnd x b before (on e)
      stepped e h = by ((maybe_evaluated after).run l env third e) ((says_maybe after m2 t step).says x p d.out.printed env third e h).is
        where
          by : (o : Option (Done Output)) → InEnd x t d.out.printed o → SaysEnd x b before (onward o (running (turns_from at c body (maybe_evaluated after) l env n next)))
          by None i = record { is = tt }
          by (Some r) i = passes x b before (turns_from at c body (maybe_evaluated after) l env n next) r (out t r (wider_same t) i) (more r (again a t x before k d r m i))

      side : (s : Bool) (e : Done Output) → Prints x m1 d.out.printed e → SaysEnd x b before (one_of s (λ d. onward (body.run l env second d) (λ r. running on (arrive past_continue r))) stay e)
      side false e h = record { is = out m1 e (wider_then m1 m2 t inner.wider t_wider) h }
      side true e h = by (body.run l env second e) (inner.says x p d.out.printed env second e h).is
        where
          by : (o : Option (Done Output)) → InEnd x m2 d.out.printed o → SaysEnd x b before (onward o (λ r. running on (arrive past_continue r)))
          by None i = record { is = tt }
          by (Some r) i =
              let j : Prints x m2 d.out.printed (arrive past_continue r) = prints_same x m2 d.out.printed r (arrive past_continue r) refl i in
              passes x b before on (arrive past_continue r) (out m2 (arrive past_continue r) t_wider j) (stepped (arrive past_continue r) j)

  turns_say : (x : Site) (p : Talk x) (before : List ℕ) (env : Env) (n k : ℕ) (base : ℕ) (d : Done Output) → n + k ≡ x.turns → AtTurn x a t k before d
      → SaysEnd x b before (turns_from at c body (maybe_evaluated after) (level_by x p) env n base d)
  turns_say x p before env zero k base d q m =
      tested_says c (loop a t) b last x p before env base d (behind a t x before k d (omega (arith, q)) m) at b before (λ s. one_of s (left_at at) stay) ends (λ e h. h)
    where
      ends : (s : Bool) (e : Done Output) → Prints x b before e → SaysEnd x b before (one_of s (left_at at) stay e)
      ends true e h = record { is = prints_same x b before e (finished (finish.Left at) e) refl h }
      ends false e h = record { is = h }
  turns_say x p before env (suc n) k base d q m =
      turn_says x p before env n k base d (omega (arith, q)) m
      (λ e h. turns_say x p before env n (suc k) (base + (turn_needs c body (maybe_evaluated after)).room (level_by x p).measures) e (omega (arith, q)) h)

  pub says_looped : TellsActs (looped at c after body).run a b
  says_looped =
      let f : Acts Output = λ l env base d. broken_out (turns_from at c body (maybe_evaluated after) l env l.measures.turns base d) in
      says_running f a b (record {
        wider = wider_then a (loop a t) b (loop_wider a t) b_wider;
        says = λ x p before env base d m. through x b b before (turns_from at c body (maybe_evaluated after) (level_by x p) env x.turns base d) (λ r. Some (arrive past_break r))
            (turns_say x p before env x.turns 0 base d (omega arith) (begins a t x before d m)) (λ r h. record { is = prints_same x b before r (arrive past_break r) refl h });
      })

module _ (at : ℕ) (body : Item Output) (c : Value Output) (a m t : LogExpr) (inner : TellsActs body.run tree.Silent m) (test : TellsValue c m t) where
  -- a round, with what the others print
  round_says : (x : Site) (p : Talk x) (before : List ℕ) (env : Env) (n k : ℕ) (base : ℕ) (d : Done Output) → suc k ≤ x.turns → AtTurn x a t k before d
      → ((e : Done Output) → AtTurn x a t (suc k) before e
      → SaysEnd x (loop a t) before (rounds_from at body c (level_by x p) env n (base + (body.needs.room (level_by x p).measures + c.needs.room (level_by x p).measures)) e))
      → SaysEnd x (loop a t) before (rounds_from at body c (level_by x p) env (suc n) base d)
  round_says x p before env n k base d q h more = by (body.run l env base d) (inner.says x p d.out.printed env base d (turn_begins x d)).is
    where
      l : Level Output
      l = level_by x p

      second : ℕ
      second = base + body.needs.room l.measures

      next : ℕ
      next = base + (body.needs.room l.measures + c.needs.room l.measures)

      go : Bool → Arrow Output
      go s = one_of s (rounds_from at body c l env n next) stay

      out : (y : LogExpr) (e : Done Output) → Wider y t → Prints x y d.out.printed e → Prints x (loop a t) before e
      out y e w i = behind a t x before (suc k) e q (again a t x before k d e h (prints_wider x y t d.out.printed e w i))

      side : (s : Bool) (e : Done Output) → Prints x t d.out.printed e → SaysEnd x (loop a t) before (go s e)
      side false e i = record { is = out t e (wider_same t) i }
      side true e i = more e (again a t x before k d e h i)

      by : (o : Option (Done Output)) → InEnd x m d.out.printed o → SaysEnd x (loop a t) before (onward o (λ r. running (tested at (Some c) l env second go) (arrive past_continue r)))
      by None i = record { is = tt }
      by (Some r) i =
          let j : Prints x m d.out.printed (arrive past_continue r) = prints_same x m d.out.printed r (arrive past_continue r) refl i in
          passes x (loop a t) before (tested at (Some c) l env second go) (arrive past_continue r) (out m (arrive past_continue r) test.wider j)
          (tested_says (Some c) m t test x p d.out.printed env second (arrive past_continue r) j at (loop a t) before go side (λ e g. out t e (wider_same t) g))

  rounds_say : (x : Site) (p : Talk x) (before : List ℕ) (env : Env) (n k : ℕ) (base : ℕ) (d : Done Output) → n + k ≡ x.turns → AtTurn x a t k before d
      → SaysEnd x (loop a t) before (rounds_from at body c (level_by x p) env n base d)
  rounds_say x p before env zero k base d q h = record { is = prints_same x (loop a t) before d (finished (finish.Left at) d) refl (behind a t x before k d (omega (arith, q)) h) }
  rounds_say x p before env (suc n) k base d q h =
      round_says x p before env n k base d (omega (arith, q)) h
      (λ e i. rounds_say x p before env n (suc k) (base + (body.needs.room (level_by x p).measures + c.needs.room (level_by x p).measures)) e (omega (arith, q)) i)

  pub says_repeated : TellsActs (repeated at body c).run a (loop a t)
  says_repeated =
      let f : Acts Output = λ l env base d. broken_out (rounds_from at body c l env l.measures.turns base d) in
      says_running f a (loop a t) (record {
        wider = loop_wider a t;
        says = λ x p before env base d i. through x (loop a t) (loop a t) before (rounds_from at body c (level_by x p) env x.turns base d) (λ r. Some (arrive past_break r))
            (rounds_say x p before env x.turns 0 base d (omega arith) (begins a t x before d i)) (λ r g. record { is = prints_same x (loop a t) before r (arrive past_break r) refl g });
      })
