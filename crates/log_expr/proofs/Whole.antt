-- A closed table that has the call of `main` is sound.
use Rattle.std.proofs.Common.{◌≡◌, ◌+◌, ◌<◌, ◌⊎◌, inl, inr, ℕ, zero, suc, ℤ, cond, List, [], Option, Some, None, refl, sym, ap, subst, ◌∙◌, arith}
use Rattle.std.specs.Prelude.{slice_get, IfSome, IsSome}
use Rattle.plain_data.specs.declared.bounds.Bounds.{Bounds}
use Rattle.c_means.specs.Parts.{World, Limits}
use Rattle.c_means.specs.Units.{limits_of}
use Rattle.c_store.specs.Store.{Store}
use Rattle.core_tree.specs.declared.program.Core.{Core}
use Rattle.core_tree.specs.declared.program.Function.{Function}
use Rattle.core_tree.specs.Programs.{Machine, machine, maybe_body, measures_of, calls_of, called_at, level_with, body_of, by_body, turns_in}
use Rattle.core_tree.specs.States.{along, Done, Calls, Measures}
use Rattle.log_expr.specs.declared.table.Ends.{Ends}
use Rattle.log_expr.specs.declared.table.Entry.{Entry}
use Rattle.log_expr.specs.Below.{Site, Extends, FoundEnds}
use Rattle.log_expr.specs.Bodies.{WalksBody, WalksCall, PutsOnce, whole_of}
use Rattle.log_expr.specs.Covers.{Whole, IsAmong, CallAlike, AgreeAt, Agree, Pair, one, two, CoversBody, CoversKey, IsClosed}
use Rattle.log_expr.specs.Sound.{where_known, but_for, run_at, IsSound}
use Rattle.log_expr.specs.Tables.{Known, ends_at, known_at, Grows, Puts}
use Rattle.log_expr.proofs.Growing.{extends_then, extends_same, body_grown}

-- ---- entries

pub key_grown : (w : Whole) (old now : List (List Entry)) (f d start : ℕ) (e : Ends) → Grows old now → CoversKey w old f d start e → CoversKey w now f d start e
key_grown w old now f zero start e g h = h
key_grown w old now f (suc n) start e g h = by (slice_get w.core.functions f) h
  where
    by : (o : Option Function) → IfSome o (λ fn. CoversBody w (known_at old n) fn start e) → IfSome o (λ fn. CoversBody w (known_at now n) fn start e)
    by None h = tt
    by (Some fn) h = body_grown w n old now g fn start e h

-- what was walked is put in
pub puts_extend : (w : Whole) (old now : List (List Entry)) (f d start : ℕ) (ends e : Ends) → PutsOnce f d start ends old now e → CoversKey w old f d start ends → Extends w old now
puts_extend w old now f d start ends e p k = record {
  grows = p.grows;
  closed = λ c. record { covers = λ g b i h m. by c g b i h (p.others g b i h m) };
}
  where
    by : IsClosed w old → (g b i : ℕ) (h : Ends) → (ends_at old g b i ≡ Some h) ⊎ ((g ≡ f) × (b ≡ d) × (i ≡ start) × (h ≡ ends)) → CoversKey w now g b i h
    by c g b i h (inl m) = key_grown w old now g b i h p.grows (c.covers g b i h m)
    by c g b i h (inr q) =
        subst (λ z. CoversKey w now z b i h) (sym q.0) (subst (λ z. CoversKey w now f z i h) (sym q.1) (subst (λ z. CoversKey w now f d z h) (sym q.2)
        (subst (λ z. CoversKey w now f d start z) (sym q.3) (key_grown w old now f d start ends p.grows k))))

pub puts_new : {f d start : ℕ} {ends copy : Ends} {old now : List (List Entry)} → copy ≡ ends → Puts f d start copy old now → PutsOnce f d start ends old now ends
puts_new {f} {d} {start} {ends} {copy} {old} {now} q h =
    let p : Puts f d start ends old now = subst (λ z. Puts f d start z old now) q h in
    record { grows = p.grows; there = p.there; others = p.others }

pub puts_known : {f d start : ℕ} {ends e : Ends} {rows : List (List Entry)} → ends_at rows f d start ≡ Some e → PutsOnce f d start ends rows rows e
puts_known {f} {d} {start} {ends} {e} {rows} m = record { grows = λ g c i h n. n; there = m; others = λ g c i h n. inl n }

-- ---- a call

pub call_walked : {x y : Site} {old now : List (List Entry)} {fn : Function} {f start : ℕ} {e : Ends} → y.left + 1 ≡ x.left → y.whole ≡ x.whole → y.turns ≡ turns_in x.whole.limits fn
    → slice_get x.whole.core.functions f ≡ Some fn → WalksBody y old now fn start e → WalksCall x old now f start e
call_walked {x} {y} {old} {now} {fn} {f} {start} {e} l q t s w = record {
  extends_ = subst (λ z. Extends z old now) q w.extends_;
  covers = λ n m. subst (λ o. IfSome o (λ fn. CoversBody x.whole (known_at now n) fn start e)) (sym s)
      (subst (λ z. CoversBody z (known_at now n) fn start e) q
      (subst (λ z. CoversBody y.whole (known_at now z) fn start e) (omega (arith, l, m)) (w.covers (t ∙ ap (λ z. turns_in z.limits fn) (sym q)))));
}

pub call_nowhere : {x : Site} {rows : List (List Entry)} {f start : ℕ} {e : Ends} → slice_get x.whole.core.functions f ≡ None → WalksCall x rows rows f start e
call_nowhere {x} {rows} {f} {start} {e} s = record {
  extends_ = extends_same x.whole rows;
  covers = λ n m. subst (λ o. IfSome o (λ fn. CoversBody x.whole (known_at rows n) fn start e)) (sym s) tt;
}

pub call_known : {x : Site} {rows : List (List Entry)} {f start : ℕ} {e : Ends} → ends_at rows f x.left start ≡ Some e → FoundEnds x rows rows f start e
call_known {x} {rows} {f} {start} {e} m = record { extends_ = extends_same x.whole rows; there = m }

pub call_found : {x : Site} {old mid now : List (List Entry)} {f start : ℕ} {ends e : Ends} → 0 < x.left → WalksCall x old mid f start ends → PutsOnce f x.left start ends mid now e → FoundEnds x old now f start e
call_found {x} {old} {mid} {now} {f} {start} {ends} {e} l w p = record {
  extends_ = extends_then x.whole old mid now w.extends_ (puts_extend x.whole mid now f x.left start ends e p (by x.left refl));
  there = p.there;
}
  where
    by : (n : ℕ) → x.left ≡ n → CoversKey x.whole mid f n start ends
    by zero q = absurd (omega (arith, l, q))
    by (suc n) q = w.covers n q

-- ---- the whole

none_closed : (w : Whole) (rows : List (List Entry)) → rows ≡ [] → IsClosed w rows
none_closed w rows q = subst (IsClosed w) (sym q) (record { covers = λ f d start e m. absurd cc })

module _ (p : Core) (log : List ℕ) (limits : Limits) (depth : ℕ) (rows : List (List Entry)) where
  abbrev w : Whole
  w = record { core = p; log = log; limits = limits }

  module _ (c : IsClosed w rows) (world : World) where
    abbrev m : Machine ℕ
    m = machine (along log) p world limits depth

    abbrev now_of : (n : ℕ) (fn : Function) → Measures
    now_of n fn = measures_of m n fn

    turns_same : (n : ℕ) (fn : Function) → measures_of m n fn ≡ record { turns = turns_in limits fn; size = (now_of n fn).size; room = (now_of n fn).room }
    unfolding measures_of
    turns_same zero fn = refl
    turns_same (suc n) fn = refl

    none_below : calls_of m 0 ≡ None
    unfolding calls_of
    none_below = refl

    some_below : (n : ℕ) → calls_of m (suc n) ≡ Some (λ f. called_at (level_with m n (calls_of m n)) (m.body f))
    unfolding calls_of
    some_below n = refl

    -- calls in two ways that agree
    pair : (n : ℕ) (fn : Function) (a b : Option (Calls ℕ)) → Agree (known_at rows n) a b → Pair (known_at rows n)
    pair n fn a b h = record { size = (now_of n fn).size; room = (now_of n fn).room; world = world; first = a; second = b; agree = h }

    -- a key's run, in either way
    key_alike : (f n start : ℕ) (e : Ends) → ends_at rows f (suc n) start ≡ Some e → (a b : Option (Calls ℕ)) → Agree (known_at rows n) a b → (vs : List ℤ) (base : ℕ) (s : Store)
        → CallAlike e.back e.ended (run_at m n a f vs base s start) (run_at m n b f vs base s start)
    unfolding pair
    key_alike f n start e h a b g vs base s = by (slice_get p.functions f) (c.covers f (suc n) start e h)
      where
        by : (o : Option Function) → IfSome o (λ fn. CoversBody w (known_at rows n) fn start e)
            → CallAlike e.back e.ended (called_at (level_with m n a) (maybe_body o) vs base s start) (called_at (level_with m n b) (maybe_body o) vs base s start)
        by None k = record { same = refl; is = tt }
        by (Some fn) k =
            subst (λ z. CallAlike e.back e.ended
            (by_body (record { measures = z; taking = along log; world = world; limits = limits; call = a }) (body_of fn) vs base s start)
            (by_body (record { measures = z; taking = along log; world = world; limits = limits; call = b }) (body_of fn) vs base s start))
            (sym (turns_same n fn)) (k.alike (pair n fn a b g) vs base s)

    agree_some : (n : ℕ) (a b : Calls ℕ) → ((f o : ℕ) (e : Ends) → ends_at rows f (suc n) o ≡ Some e → (vs : List ℤ) (base : ℕ) (s : Store) → CallAlike e.back e.ended (a f vs base s o) (b f vs base s o))
        → Agree (known_at rows (suc n)) (Some a) (Some b)
    agree_some n a b h = λ f vs base s o. by f vs base s o (ends_at rows f (suc n) o) refl
      where
        by : (f : ℕ) (vs : List ℤ) (base : ℕ) (s : Store) (o : ℕ) (z : Option Ends) → ends_at rows f (suc n) o ≡ z → AgreeAt z (a f vs base s o) (b f vs base s o)
        by f vs base s o None q = tt
        by f vs base s o (Some e) q = h f o e q vs base s

    agree_calls : (n : ℕ) → Agree (known_at rows n) (calls_of m n) (calls_of m n)
    agree_calls zero = subst (λ z. Agree None z z) (sym none_below) tt
    agree_calls (suc n) =
        subst (λ z. Agree (known_at rows (suc n)) z z) (sym (some_below n))
        (agree_some n (λ f. called_at (level_with m n (calls_of m n)) (m.body f)) (λ f. called_at (level_with m n (calls_of m n)) (m.body f))
        (λ f o e q vs base s. key_alike f n o e q (calls_of m n) (calls_of m n) (agree_calls n) vs base s))

    -- calls without an entry may do something else
    agree_but : (n : ℕ) (other : Calls ℕ) → Agree (known_at rows n) (but_for (λ g o. ends_at rows g n o) other (calls_of m n)) (calls_of m n)
    agree_but zero other = subst (λ z. Agree None (but_for (λ g o. ends_at rows g 0 o) other z) z) (sym none_below) tt
    agree_but (suc n) other =
        let a : Calls ℕ = λ f. called_at (level_with m n (calls_of m n)) (m.body f) in
        subst (λ z. Agree (known_at rows (suc n)) (but_for (λ g o. ends_at rows g (suc n) o) other z) z) (sym (some_below n))
        (agree_some n (λ f vs base s o. where_known (ends_at rows f (suc n) o) (a f vs base s o) (other f vs base s o)) a
        (λ f o e q vs base s. subst (λ z. CallAlike e.back e.ended (where_known z (a f vs base s o) (other f vs base s o)) (a f vs base s o)) (sym q)
        (key_alike f n o e q (calls_of m n) (calls_of m n) (agree_calls n) vs base s)))

  pub sound : (e : Ends) → IsClosed w rows → ends_at rows p.main depth 0 ≡ Some e → IsSound p log limits depth rows
  sound e c h = record {
    begins = subst (λ (z : Option Ends). IsSome z) (sym h) refl;
    ends = λ world f n start e q vs base s. (key_alike c world f n start e q _ _ (agree_calls c world n) vs base s).is;
    calls = λ world f n start e q other vs base s. (key_alike c world f n start e q _ _ (agree_but c world n other) vs base s).same;
  }

pub sound_from : {p : Core} {log : List ℕ} (b : Bounds) {old now : List (List Entry)} {x : Site} {e : Ends} → old ≡ [] → x.whole ≡ whole_of p log b → x.left ≡ b.depth → FoundEnds x old now p.main 0 e → IsSound p log (limits_of b) b.depth now
sound_from {p} {log} b {old} {now} {x} {e} q wh l f =
    sound p log (limits_of b) b.depth now e
    (subst (λ z. IsClosed z now) wh (f.extends_.closed (none_closed x.whole old q)))
    (subst (λ d. ends_at now p.main d 0 ≡ Some e) l f.there)
