-- What a function's body is walked to.
use Rattle.std.proofs.Common.{◌≡◌, ◌+◌, ◌||◌, ℕ, zero, suc, ℤ, Bool, true, false, cond, eqb, List, [], ◌∷◌, length, map, Some, None, refl, sym, ap, subst, ◌∙◌}
use Rattle.std.proofs.lemmas.Bool.{or_left, eq-eqb}
use Rattle.c_means.specs.declared.kind.Kind.{Kind}
use Rattle.c_means.specs.declared.kind.Kind.TheVariants as k
use Rattle.c_means.specs.Items.{Made, known}
use Rattle.c_means.specs.Runs.{comes_back}
use Rattle.c_means.specs.Statements.{no_env}
use Rattle.c_store.specs.Store.{Store}
use Rattle.core_tree.specs.declared.code.Code.{Code}
use Rattle.core_tree.specs.declared.program.Function.{Function}
use Rattle.core_tree.specs.declared.program.Parameter.{Parameter}
use Rattle.core_tree.specs.Codes.{code, in_turn, lived}
use Rattle.core_tree.specs.Programs.{body_of, by_body, back, frame, passed}
use Rattle.core_tree.specs.Programs as programs
use Rattle.core_tree.specs.States.{along, Done, onward, entered, born, dead}
use Rattle.positions.specs.Sets.{has}
use Rattle.log_expr.specs.declared.course.Course.{Course}
use Rattle.log_expr.specs.declared.flow.Flow.{Flow}
use Rattle.log_expr.specs.declared.table.Ends.{Ends}
use Rattle.log_expr.specs.declared.table.Entry.{Entry}
use Rattle.log_expr.specs.Below.{Site}
use Rattle.log_expr.specs.Bodies.{IsEndOf, WalksBody}
use Rattle.log_expr.specs.CodeWalks.{WalksCode}
use Rattle.log_expr.specs.Courses.{only_running}
use Rattle.log_expr.specs.Covers.{Pair, one, two, Whole, InFlow, FlowAlike, IsAmong, CallAlike, CoversCode, CoversBody}
use Rattle.log_expr.specs.Flows.{Wider, place, Holds, is_ended}
use Rattle.log_expr.specs.Trails.{IsPut}
use Rattle.log_expr.proofs.Enough.{put_wider, put_kept}
use Rattle.log_expr.specs.Tables.{Known, known_at}
use Rattle.log_expr.proofs.CodeForms.{covers_lived, born_out, born_kind, dead_out, dead_kind, holds_same}
use Rattle.log_expr.proofs.FlowWays.{holds_as}

passed_out : {O : Type 0} (base : ℕ) (ps : List Parameter) (vs : List ℤ) (d : Done O) → (passed base ps vs d).out ≡ d.out
passed_out base [] vs d = refl
passed_out base (p ∷ ps) [] d = refl
passed_out base (p ∷ ps) (v ∷ vs) d = passed_out (suc base) ps vs _

passed_kind : {O : Type 0} (base : ℕ) (ps : List Parameter) (vs : List ℤ) (d : Done O) → (passed base ps vs d).kind ≡ d.kind
passed_kind base [] vs d = refl
passed_kind base (p ∷ ps) [] d = refl
passed_kind base (p ∷ ps) (v ∷ vs) d = passed_kind (suc base) ps vs _

module _ (w : Whole) (turns : ℕ) (t : Known) where
  back_in : (u : Flow) (e : Ends) (a b : _) → IsEndOf u e → FlowAlike u a b → (ms : List Made) → CallAlike e.back e.ended (onward a (λ r. Some (back (dead ms r)))) (onward b (λ r. Some (back (dead ms r))))
  back_in u e a b h f ms = record { same = ap (λ z. onward z (λ r. Some (back (dead ms r)))) f.same; is = by a f.is }
    where
      at : (z : Kind) (d : Done ℕ) → has (cond (is_ended z) e.ended e.back) d.out ≡ true → cond (is_ended (comes_back z)) (has e.ended d.out) (has e.back d.out) ≡ true
      at k.Running d m = m
      at k.Breaking d m = m
      at k.Continuing d m = m
      at k.Returning d m = m
      at (k.Going l) d m = m
      at (k.Choosing v) d m = m
      at k.Defaulting d m = m
      at (k.Ended f) d m = m

      by : (a : _) → InFlow u a → IsAmong e.back e.ended (onward a (λ r. Some (back (dead ms r))))
      by None i = tt
      by (Some d) i =
          let r : Done ℕ = dead ms d in
          at r.kind r (h.holds r.kind r.out (holds_same u d r (dead_kind ms d) (dead_out ms d) i))

  pub covers_body_of : (fn : Function) (start : ℕ) (u : Flow) (e : Ends) → CoversCode w turns t (in_turn (map code fn.items)) (only_running (start ∷ [])) u → IsEndOf u e → (p : Pair t) (vs : List ℤ) (base : ℕ) (s : Store)
      → CallAlike e.back e.ended (by_body (one w turns p) (body_of fn) vs base s start) (by_body (two w turns p) (body_of fn) vs base s start)
  covers_body_of fn start u e c h p vs base s =
      let ps : List Parameter = fn.parameters in
      let ms : List Made = frame base ps in
      let first : Done ℕ = entered (along w.log) s start in
      let b : Done ℕ = born (along w.log) ms first in
      let d : Done ℕ = passed base ps vs b in
      let at : d.out ≡ start = passed_out base ps vs b ∙ born_out w.log ms first in
      let runs : d.kind ≡ k.Running = passed_kind base ps vs b ∙ born_kind w.log ms first in
      back_in u e (lived (in_turn (map code fn.items)) (one w turns p) (known ms no_env) (base + length ps) d) (lived (in_turn (map code fn.items)) (two w turns p) (known ms no_env) (base + length ps) d) h
      ((covers_lived w turns t (in_turn (map code fn.items)) (only_running (start ∷ [])) u c).alike p (known ms no_env) (base + length ps) d
      (holds_as (only_running (start ∷ [])) d k.Running runs (subst (λ n. has (start ∷ []) n ≡ true) (sym at) (here start)))) ms
    where
      here : (n : ℕ) → has (n ∷ []) n ≡ true
      here n = or_left (eqb n n) false (eq-eqb n n refl)

pub body_walked : {x : Site} {t t' : List (List Entry)} {fn : Function} {items : List Code} {start : ℕ} {a b : Course} {at : Flow} {e : Ends} → items ≡ fn.items → a.at ≡ only_running (start ∷ []) → WalksCode x t t' (in_turn (map code items)) a b → at ≡ b.at → IsEndOf at e
    → WalksBody x t t' fn start e
body_walked {x} {t} {t'} {fn} {items} {start} {a} {b} {at} {e} i q u r k =
    let h : IsEndOf b.at e = subst (λ f. IsEndOf f e) r k in
    let w : WalksCode x t t' (in_turn (map code fn.items)) a b = subst (λ z. WalksCode x t t' (in_turn (map code z)) a b) i u in
    record {
      extends_ = w.code.extends_;
      covers = λ n. record {
        alike = λ p vs base s. subst (λ j. CallAlike e.back e.ended (by_body (one x.whole j p) (body_of fn) vs base s start) (by_body (two x.whole j p) (body_of fn) vs base s start)) n
            (covers_body_of x.whole x.turns (known_at t' x.left) fn start b.at e (subst (λ s. CoversCode x.whole x.turns (known_at t' x.left) (in_turn (map code fn.items)) s b.at) q w.code.covers) h p vs base s);
      };
    }

-- ---- the ends of a flow

pub ends_put : (s : Flow) (b1 b2 b3 b4 b5 : List ℕ) → IsPut s.running s.breaking b1 → IsPut b1 s.continuing b2 → IsPut b2 s.returning b3 → IsPut b3 s.going b4 → IsPut b4 s.choosing b5
    → IsEndOf s (record { back = b5; ended = s.ended })
ends_put s b1 b2 b3 b4 b5 p1 p2 p3 p4 p5 = record { holds = by }
  where
    from4 : Wider b4 b5
    from4 = put_kept b4 s.choosing b5 p5

    from3 : Wider b3 b5
    from3 y m = from4 y (put_kept b3 s.going b4 p4 y m)

    from2 : Wider b2 b5
    from2 y m = from3 y (put_kept b2 s.returning b3 p3 y m)

    from1 : Wider b1 b5
    from1 y m = from2 y (put_kept b1 s.continuing b2 p2 y m)

    by : (kind : Kind) → Wider (place s kind) (cond (is_ended kind) s.ended b5)
    by k.Running y m = from1 y (put_kept s.running s.breaking b1 p1 y m)
    by k.Breaking y m = from1 y (put_wider s.running s.breaking b1 p1 y m)
    by k.Continuing y m = from2 y (put_wider b1 s.continuing b2 p2 y m)
    by k.Returning y m = from3 y (put_wider b2 s.returning b3 p3 y m)
    by (k.Going l) y m = from4 y (put_wider b3 s.going b4 p4 y m)
    by (k.Choosing z) y m = put_wider b4 s.choosing b5 p5 y m
    by k.Defaulting y m = put_wider b4 s.choosing b5 p5 y m
    by (k.Ended f) y m = m
