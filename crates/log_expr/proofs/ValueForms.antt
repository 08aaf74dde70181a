-- What holds an expression holds the forms over it.
use Rattle.std.proofs.Common.{◌≡◌, ◌+◌, ℕ, ℤ, pos, Bool, true, false, List, refl, sym, subst}
use Rattle.std.specs.Prelude.{unsigned_abs, not}
use Rattle.c_means.specs.declared.kind.Kind.TheVariants as k
use Rattle.c_means.specs.Parts.{Env}
use Rattle.c_language.specs.Integers.{is_zero, number_of}
use Rattle.core_tree.specs.declared.types.Access.{Access}
use Rattle.core_tree.specs.declared.types.Answered.{Answered}
use Rattle.core_tree.specs.declared.types.Operator.{Operator}
use Rattle.core_tree.specs.Memory.{load, put, operated}
use Rattle.core_tree.specs.States.{Done, Outcome, ◌>>=◌, found, on_branch, Needs}
use Rattle.core_tree.specs.Values.{Value, constant, local, on_value, comma, operate, store, update, step, both, either, choose, and_then, or_else, one_run, truth_of, either_value}
use Rattle.positions.specs.Sets.{has}
use Rattle.log_expr.specs.Covers.{Whole, Pair, one, two, ValueAlike, CoversValue}
use Rattle.log_expr.specs.Flows.{Wider}
use Rattle.log_expr.specs.Tables.{Known}
use Rattle.log_expr.proofs.Outcomes.{bind, wider_value, Keeps, kept_alike, keeps_load, keeps_put, keeps_operated, branched}

module _ (w : Whole) (turns : ℕ) (t : Known) where
  pub covers_wider : (v : Value ℕ) (from to to' ended ended' : List ℕ) → Wider to to' → Wider ended ended' → CoversValue w turns t v from to ended → CoversValue w turns t v from to' ended'
  covers_wider v from to to' ended ended' x e c = record { alike = λ p env base d r m. wider_value to to' ended ended' _ _ x e (c.alike p env base d r m) }

  pub covers_constant : (z : ℤ) (from ended : List ℕ) → CoversValue w turns t (constant z) from from ended
  covers_constant z from ended = record { alike = λ p env base d r m. record { same = refl; is = (r, m) } }

  pub covers_local : (at : ℕ) (from ended : List ℕ) → CoversValue w turns t (local at) from from ended
  covers_local at from ended = record { alike = λ p env base d r m. record { same = refl; is = (r, m) } }

  -- a step that always finds a value
  pub covers_plain : (needs : Needs) (f : ℤ → ℤ) (v : Value ℕ) (from to ended : List ℕ) → CoversValue w turns t v from to ended → CoversValue w turns t (on_value needs (λ z d. found (f z) d) v) from to ended
  covers_plain needs f v from to ended c = record { alike = λ p env base d r m. bind to to ended _ _ (λ u. found (f u.0) u.1) (λ u. found (f u.0) u.1) (c.alike p env base d r m) (λ u q n. record { same = refl; is = (q, n) }) }

  -- a step that may end the run
  pub covers_on : (needs : Needs) (f : ℤ → Done ℕ → Outcome ℕ ℤ) (v : Value ℕ) (from to ended : List ℕ) → ((z : ℤ) (d : Done ℕ) → Keeps d (f z d)) → Wider to ended
      → CoversValue w turns t v from to ended → CoversValue w turns t (on_value needs f v) from to ended
  covers_on needs f v from to ended keeps x c = record {
    alike = λ p env base d r m. bind to to ended _ _ (λ u. f u.0 u.1) (λ u. f u.0 u.1) (c.alike p env base d r m) (λ u q n. kept_alike to ended u.1 (f u.0 u.1) (keeps u.0 u.1) q n (x u.1.out n));
  }

  pub covers_comma : (x y : Value ℕ) (from mid to ended : List ℕ) → CoversValue w turns t x from mid ended → CoversValue w turns t y mid to ended → CoversValue w turns t (comma x y) from to ended
  covers_comma x y from mid to ended c e = record {
    alike = λ p env base d r m. bind mid to ended _ _ (λ u. y.run (one w turns p) env (base + x.needs.room (one w turns p).measures) u.1) (λ u. y.run (two w turns p) env (base + x.needs.room (two w turns p).measures) u.1)
        (c.alike p env base d r m) (λ u q n. e.alike p env (base + x.needs.room (one w turns p).measures) u.1 q n);
  }

  module _ (f : ℤ → ℤ → Done ℕ → Outcome ℕ ℤ) (keeps : (a b : ℤ) (d : Done ℕ) → Keeps d (f a b d)) (x y : Value ℕ) (from mid to ended : List ℕ) (wide : Wider to ended)
      (c : CoversValue w turns t x from mid ended) (e : CoversValue w turns t y mid to ended) where
    pub both_alike : (p : Pair t) (env : Env) (base : ℕ) (d : Done ℕ) → d.kind ≡ k.Running → has from d.out ≡ true
        → ValueAlike to ended (x.run (one w turns p) env base d >>= λ u. y.run (one w turns p) env (base + x.needs.room (one w turns p).measures) u.1 >>= λ v. f u.0 v.0 v.1)
        (x.run (two w turns p) env base d >>= λ u. y.run (two w turns p) env (base + x.needs.room (two w turns p).measures) u.1 >>= λ v. f u.0 v.0 v.1)
    both_alike p env base d r m =
        bind mid to ended _ _ (λ u. y.run (one w turns p) env (base + x.needs.room (one w turns p).measures) u.1 >>= λ v. f u.0 v.0 v.1) (λ u. y.run (two w turns p) env (base + x.needs.room (two w turns p).measures) u.1 >>= λ v. f u.0 v.0 v.1)
        (c.alike p env base d r m)
        (λ u q n. bind to to ended _ _ (λ v. f u.0 v.0 v.1) (λ v. f u.0 v.0 v.1) (e.alike p env (base + x.needs.room (one w turns p).measures) u.1 q n)
        (λ v s o. kept_alike to ended v.1 (f u.0 v.0 v.1) (keeps u.0 v.0 v.1) s o (wide v.1.out o)))

  pub covers_operate : (at : ℕ) (o : Operator) (x y : Value ℕ) (from mid to ended : List ℕ) → Wider to ended → CoversValue w turns t x from mid ended → CoversValue w turns t y mid to ended
      → CoversValue w turns t (operate at o x y) from to ended
  covers_operate at o x y from mid to ended wide c e = record { alike = both_alike (operated at o) (keeps_operated at o) x y from mid to ended wide c e }

  pub covers_store : (at : ℕ) (access : Access) (x y : Value ℕ) (from mid to ended : List ℕ) → Wider to ended → CoversValue w turns t x from mid ended → CoversValue w turns t y mid to ended
      → CoversValue w turns t (store at access x y) from to ended
  covers_store at access x y from mid to ended wide c e = record { alike = both_alike (λ a b. put at access (unsigned_abs a) b) (λ a b. keeps_put at access (unsigned_abs a) b) x y from mid to ended wide c e }

  pub covers_update : (at : ℕ) (o : Operator) (access : Access) (x y : Value ℕ) (from mid to ended : List ℕ) → Wider mid ended → Wider to ended → CoversValue w turns t x from mid ended → CoversValue w turns t y mid to ended
      → CoversValue w turns t (update at o access x y) from to ended
  covers_update at o access x y from mid to ended left wide c e = record {
    alike = λ p env base d r m.
        let l = one w turns p in
        let l' = two w turns p in
        bind mid to ended _ _
        (λ a. load access (unsigned_abs a.0) a.1 >>= λ v. y.run l env (base + x.needs.room l.measures) v.1 >>= λ u. operated at o v.0 u.0 u.1 >>= λ z. put at access (unsigned_abs a.0) z.0 z.1)
        (λ a. load access (unsigned_abs a.0) a.1 >>= λ v. y.run l' env (base + x.needs.room l'.measures) v.1 >>= λ u. operated at o v.0 u.0 u.1 >>= λ z. put at access (unsigned_abs a.0) z.0 z.1)
        (c.alike p env base d r m)
        (λ a q n. bind mid to ended _ _
        (λ v. y.run l env (base + x.needs.room l.measures) v.1 >>= λ u. operated at o v.0 u.0 u.1 >>= λ z. put at access (unsigned_abs a.0) z.0 z.1)
        (λ v. y.run l' env (base + x.needs.room l'.measures) v.1 >>= λ u. operated at o v.0 u.0 u.1 >>= λ z. put at access (unsigned_abs a.0) z.0 z.1)
        (kept_alike mid ended a.1 (load access (unsigned_abs a.0) a.1) (keeps_load access (unsigned_abs a.0) a.1) q n (left a.1.out n))
        (λ v s g. bind to to ended _ _
        (λ u. operated at o v.0 u.0 u.1 >>= λ z. put at access (unsigned_abs a.0) z.0 z.1)
        (λ u. operated at o v.0 u.0 u.1 >>= λ z. put at access (unsigned_abs a.0) z.0 z.1)
        (e.alike p env (base + x.needs.room l.measures) v.1 s g)
        (λ u i j. bind to to ended _ _ (λ z. put at access (unsigned_abs a.0) z.0 z.1) (λ z. put at access (unsigned_abs a.0) z.0 z.1)
        (kept_alike to ended u.1 (operated at o v.0 u.0 u.1) (keeps_operated at o v.0 u.0 u.1) i j (wide u.1.out j))
        (λ z a' b'. kept_alike to ended z.1 (put at access (unsigned_abs a.0) z.0 z.1) (keeps_put at access (unsigned_abs a.0) z.0 z.1) a' b' (wide z.1.out b')))));
  }

  pub covers_step : (at : ℕ) (o : Operator) (access : Access) (answer : Answered) (x : Value ℕ) (from to ended : List ℕ) → Wider to ended → CoversValue w turns t x from to ended
      → CoversValue w turns t (step at o access answer x) from to ended
  covers_step at o access answer x from to ended wide c = record {
    alike = λ p env base d r m.
        let f : ℤ × Done ℕ → Outcome ℕ ℤ = λ a. load access (unsigned_abs a.0) a.1 >>= λ v. operated at o v.0 (pos 1) v.1 >>= λ u. put at access (unsigned_abs a.0) u.0 u.1 >>= λ z. found (either_value answer v.0 z.0) z.1 in
        bind to to ended _ _ f f (c.alike p env base d r m)
        (λ a q n.
        let g : ℤ × Done ℕ → Outcome ℕ ℤ = λ v. operated at o v.0 (pos 1) v.1 >>= λ u. put at access (unsigned_abs a.0) u.0 u.1 >>= λ z. found (either_value answer v.0 z.0) z.1 in
        bind to to ended _ _ g g (kept_alike to ended a.1 (load access (unsigned_abs a.0) a.1) (keeps_load access (unsigned_abs a.0) a.1) q n (wide a.1.out n))
        (λ v s j.
        let h : ℤ × Done ℕ → Outcome ℕ ℤ = λ u. put at access (unsigned_abs a.0) u.0 u.1 >>= λ z. found (either_value answer v.0 z.0) z.1 in
        bind to to ended _ _ h h (kept_alike to ended v.1 (operated at o v.0 (pos 1) v.1) (keeps_operated at o v.0 (pos 1) v.1) s j (wide v.1.out j))
        (λ u i o'.
        let b : ℤ × Done ℕ → Outcome ℕ ℤ = λ z. found (either_value answer v.0 z.0) z.1 in
        bind to to ended _ _ b b (kept_alike to ended u.1 (put at access (unsigned_abs a.0) u.0 u.1) (keeps_put at access (unsigned_abs a.0) u.0 u.1) i o' (wide u.1.out o'))
        (λ z a' b'. record { same = refl; is = (a', b') }))));
  }

  -- ---- branches

  module _ (x y : Value ℕ) (from mid right to ended : List ℕ) (l : Wider mid to) (r : Wider right to) (c : CoversValue w turns t x from mid ended) (e : CoversValue w turns t y mid right ended) where
    truth_alike : (p : Pair t) (env : Env) (base : ℕ) (d : Done ℕ) → d.kind ≡ k.Running → has mid d.out ≡ true
        → ValueAlike to ended (truth_of y (one w turns p) env base d) (truth_of y (two w turns p) env base d)
    truth_alike p env base d q m =
        let f : ℤ × Done ℕ → Outcome ℕ ℤ = λ u. found (number_of (not (is_zero u.0))) u.1 in
        bind right to ended _ _ f f (e.alike p env base d q m) (λ u s n. record { same = refl; is = (s, r u.1.out n) })

    pub covers_both : (at : ℕ) → CoversValue w turns t (both at x y) from to ended
    covers_both at = record {
      alike = λ p env base d q m.
          let b : ℕ = base + x.needs.room (one w turns p).measures in
          bind mid to ended _ _ (λ u. on_branch (one w turns p).taking at u.0 (and_then y (one w turns p) env b) u.1) (λ u. on_branch (two w turns p).taking at u.0 (and_then y (two w turns p) env b) u.1)
          (c.alike p env base d q m)
          (λ u s n. branched w.log at u.0 to ended (and_then y (one w turns p) env b) (and_then y (two w turns p) env b) u.1 s
          (λ z i g h. arm p env b z i g (subst (λ n. has mid n ≡ true) (sym h) n)));
    }
      where
        arm : (p : Pair t) (env : Env) (b : ℕ) (z : Bool) (i : Done ℕ) → i.kind ≡ k.Running → has mid i.out ≡ true → ValueAlike to ended (and_then y (one w turns p) env b z i) (and_then y (two w turns p) env b z i)
        arm p env b true i g h = truth_alike p env b i g h
        arm p env b false i g h = record { same = refl; is = (g, l i.out h) }

    pub covers_either : (at : ℕ) → CoversValue w turns t (either at x y) from to ended
    covers_either at = record {
      alike = λ p env base d q m.
          let b : ℕ = base + x.needs.room (one w turns p).measures in
          bind mid to ended _ _ (λ u. on_branch (one w turns p).taking at u.0 (or_else y (one w turns p) env b) u.1) (λ u. on_branch (two w turns p).taking at u.0 (or_else y (two w turns p) env b) u.1)
          (c.alike p env base d q m)
          (λ u s n. branched w.log at u.0 to ended (or_else y (one w turns p) env b) (or_else y (two w turns p) env b) u.1 s
          (λ z i g h. arm p env b z i g (subst (λ n. has mid n ≡ true) (sym h) n)));
    }
      where
        arm : (p : Pair t) (env : Env) (b : ℕ) (z : Bool) (i : Done ℕ) → i.kind ≡ k.Running → has mid i.out ≡ true → ValueAlike to ended (or_else y (one w turns p) env b z i) (or_else y (two w turns p) env b z i)
        arm p env b false i g h = truth_alike p env b i g h
        arm p env b true i g h = record { same = refl; is = (g, l i.out h) }

  pub covers_choose : (at : ℕ) (c x y : Value ℕ) (from mid left right to ended : List ℕ) → Wider left to → Wider right to → CoversValue w turns t c from mid ended → CoversValue w turns t x mid left ended → CoversValue w turns t y mid right ended
      → CoversValue w turns t (choose at c x y) from to ended
  covers_choose at c x y from mid left right to ended lw rw' cc' cx cy = record {
    alike = λ p env base d q m.
        let b : ℕ = base + c.needs.room (one w turns p).measures in
        bind mid to ended _ _ (λ u. on_branch (one w turns p).taking at u.0 (one_run x y (one w turns p) env b) u.1) (λ u. on_branch (two w turns p).taking at u.0 (one_run x y (two w turns p) env b) u.1)
        (cc'.alike p env base d q m)
        (λ u s n. branched w.log at u.0 to ended (one_run x y (one w turns p) env b) (one_run x y (two w turns p) env b) u.1 s
        (λ z i g h. arm p env b z i g (subst (λ n. has mid n ≡ true) (sym h) n)));
  }
    where
      arm : (p : Pair t) (env : Env) (b : ℕ) (z : Bool) (i : Done ℕ) → i.kind ≡ k.Running → has mid i.out ≡ true → ValueAlike to ended (one_run x y (one w turns p) env b z i) (one_run x y (two w turns p) env b z i)
      arm p env b true i g h = wider_value left to ended ended _ _ lw (λ n e. e) (cx.alike p env b i g h)
      arm p env b false i g h = wider_value right to ended ended _ _ rw' (λ n e. e) (cy.alike p env (b + x.needs.room (one w turns p).measures) i g h)
