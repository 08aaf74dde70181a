-- Flows, step by step.
use Rattle.std.proofs.Common.{◌≡◌, ℕ, zero, suc, ℤ, Bool, true, false, cond, List, [], ◌∷◌, Option, Some, None, refl, sym, subst, ◌∙◌}
use Rattle.std.specs.Prelude.{Ok, Err}
use Rattle.plain_data.specs.declared.run.Finish.{Finish}
use Rattle.c_means.specs.declared.kind.Kind.{Kind}
use Rattle.c_means.specs.declared.kind.Kind.TheVariants as k
use Rattle.c_language.specs.Integers.{is_zero}
use Rattle.core_tree.specs.States.{along, Done, Outcome, Arrow, onward, running, where_running, arrive, become, with_value, on_branch}
use Rattle.positions.specs.Sets.{has}
use Rattle.c_means.specs.Items.{past_break, past_continue}
use Rattle.log_expr.specs.declared.course.Course.{Course}
use Rattle.log_expr.specs.declared.flow.Flow.{Flow}
use Rattle.log_expr.specs.Courses.{only_running, but_running, jumps, turned, EndsBody}
use Rattle.log_expr.specs.Covers.{InFlow, FlowAlike, InValue, ValueAlike}
use Rattle.log_expr.specs.Flows.{Wider, place, Holds, Arrives, unchanged, is_ended}

pub arrives_then : (s t u : Flow) → Arrives unchanged s t → Arrives unchanged t u → Arrives unchanged s u
arrives_then s t u x y kind n m = y kind n (x kind n m)

pub flow_wider : (u v : Flow) (a b : Option (Done ℕ)) → Arrives unchanged u v → FlowAlike u a b → FlowAlike v a b
flow_wider u v a b x h = record { same = h.same; is = by a h.is }
  where
    by : (a : Option (Done ℕ)) → InFlow u a → InFlow v a
    by None i = tt
    by (Some d) i = x d.kind d.out i

pub flow_here : (u : Flow) (d : Done ℕ) → Holds u d → FlowAlike u (Some d) (Some d)
flow_here u d h = record { same = refl; is = h }

pub through : (m u : Flow) (a b : Option (Done ℕ)) (f g : Arrow ℕ) → FlowAlike m a b
    → ((d : Done ℕ) → Holds m d → FlowAlike u (f d) (g d)) → FlowAlike u (onward a f) (onward b g)
through m u a b f g h n = subst (λ z. FlowAlike u (onward a f) (onward z g)) h.same (by a h.is)
  where
    by : (a : Option (Done ℕ)) → InFlow m a → FlowAlike u (onward a f) (onward a g)
    by None i = record { same = refl; is = tt }
    by (Some d) i = n d i

pub arriving : (f : Kind → Kind) (m u : Flow) (a b : Option (Done ℕ)) → Arrives f m u → FlowAlike m a b
    → FlowAlike u (onward a (λ r. Some (arrive f r))) (onward b (λ r. Some (arrive f r)))
arriving f m u a b x h =
    through m u a b (λ r. Some (arrive f r)) (λ r. Some (arrive f r)) h (λ d i. record { same = refl; is = x d.kind d.out i })

-- ---- a run of a known kind

pub held_as : (s : Flow) (d : Done ℕ) (z : Kind) → d.kind ≡ z → Holds s d → has (place s z) d.out ≡ true
held_as s d z e h = subst (λ z. has (place s z) d.out ≡ true) e h

pub holds_as : (s : Flow) (d : Done ℕ) (z : Kind) → d.kind ≡ z → has (place s z) d.out ≡ true → Holds s d
holds_as s d z e h = subst (λ z. has (place s z) d.out ≡ true) (sym e) h

-- runs that are running take a step, the others pass
pub where_it_runs : (s u : Flow) (f g : Arrow ℕ) (d : Done ℕ) → Holds s d → Arrives unchanged (but_running s) u
    → (d.kind ≡ k.Running → has s.running d.out ≡ true → FlowAlike u (f d) (g d)) → FlowAlike u (running f d) (running g d)
where_it_runs s u f g d i x h = by d.kind refl
  where
    kept : (z : Kind) → d.kind ≡ z → Wider (place s z) (place u z) → FlowAlike u (Some d) (Some d)
    kept z e y = flow_here u d (holds_as u d z e (y d.out (held_as s d z e i)))

    by : (z : Kind) → d.kind ≡ z → FlowAlike u (where_running z (f d) (Some d)) (where_running z (g d) (Some d))
    by k.Running e = h e (held_as s d k.Running e i)
    by k.Breaking e = kept k.Breaking e (x k.Breaking)
    by k.Continuing e = kept k.Continuing e (x k.Continuing)
    by k.Returning e = kept k.Returning e (x k.Returning)
    by (k.Going l) e = kept (k.Going l) e (x (k.Going l))
    by (k.Choosing v) e = kept (k.Choosing v) e (x (k.Choosing v))
    by k.Defaulting e = kept k.Defaulting e (x k.Defaulting)
    by (k.Ended v) e = kept (k.Ended v) e (x (k.Ended v))

-- nothing runs in the flow of one that isn't running
pub no_more_running : (kind : Kind) (s u : Flow) → Arrives (jumps kind) s u → Arrives unchanged (but_running s) u
no_more_running kind s u x k.Running y m = absurd cc
no_more_running kind s u x k.Breaking y m = x k.Breaking y m
no_more_running kind s u x k.Continuing y m = x k.Continuing y m
no_more_running kind s u x k.Returning y m = x k.Returning y m
no_more_running kind s u x (k.Going l) y m = x (k.Going l) y m
no_more_running kind s u x (k.Choosing z) y m = x (k.Choosing z) y m
no_more_running kind s u x k.Defaulting y m = x k.Defaulting y m
no_more_running kind s u x (k.Ended f) y m = x (k.Ended f) y m

-- a run that only the running are held of is running
pub only_held : (xs : List ℕ) (d : Done ℕ) → Holds (only_running xs) d → (d.kind ≡ k.Running) × (has xs d.out ≡ true)
only_held xs d h = by d.kind refl
  where
    none : (z : Kind) → d.kind ≡ z → place (only_running xs) z ≡ [] → (d.kind ≡ k.Running) × (has xs d.out ≡ true)
    none z e q =
        let m : has [] d.out ≡ true = subst (λ l. has l d.out ≡ true) q (held_as (only_running xs) d z e h) in
        absurd cc

    by : (z : Kind) → d.kind ≡ z → (d.kind ≡ k.Running) × (has xs d.out ≡ true)
    by k.Running e = (e, held_as (only_running xs) d k.Running e h)
    by k.Breaking e = none k.Breaking e refl
    by k.Continuing e = none k.Continuing e refl
    by k.Returning e = none k.Returning e refl
    by (k.Going l) e = none (k.Going l) e refl
    by (k.Choosing v) e = none (k.Choosing v) e refl
    by k.Defaulting e = none k.Defaulting e refl
    by (k.Ended v) e = none (k.Ended v) e refl

-- ---- values

pub held_ended : (u : Flow) (d : Done ℕ) → is_ended d.kind ≡ true → has u.ended d.out ≡ true → Holds u d
held_ended u d e h = by d.kind refl e
  where
    by : (z : Kind) → d.kind ≡ z → is_ended z ≡ true → Holds u d
    by k.Running q i = absurd cc
    by k.Breaking q i = absurd cc
    by k.Continuing q i = absurd cc
    by k.Returning q i = absurd cc
    by (k.Going l) q i = absurd cc
    by (k.Choosing v) q i = absurd cc
    by k.Defaulting q i = absurd cc
    by (k.Ended v) q i = holds_as u d (k.Ended v) q h

pub with_found : (to ended : List ℕ) (u : Flow) (a b : Outcome ℕ ℤ) (f g : ℤ → Arrow ℕ) → ValueAlike to ended a b → Wider ended u.ended
    → ((z : ℤ) (d : Done ℕ) → d.kind ≡ k.Running → has to d.out ≡ true → FlowAlike u (f z d) (g z d)) → FlowAlike u (with_value a f) (with_value b g)
with_found to ended u a b f g h w n = subst (λ z. FlowAlike u (with_value a f) (with_value z g)) h.same (by a h.is)
  where
    by : (a : Outcome ℕ ℤ) → InValue to ended a → FlowAlike u (with_value a f) (with_value a g)
    by None i = record { same = refl; is = tt }
    by (Some (Ok v)) i = n v.0 v.1 i.0 i.1
    by (Some (Err d)) i = flow_here u d (held_ended u d i.0 (w d.out i.1))

pub branching : (log : List ℕ) (at : ℕ) (z : ℤ) (u : Flow) (f g : Bool → Arrow ℕ) (d : Done ℕ) → d.kind ≡ k.Running
    → ((b : Bool) (e : Done ℕ) → e.kind ≡ k.Running → e.out ≡ d.out → FlowAlike u (f b e) (g b e))
    → FlowAlike u (on_branch (along log) at z f d) (on_branch (along log) at z g d)
branching log at z u f g d r h = by (is_zero z) _ _ _ _ (h false _ r refl) (h true _ r refl)
  where
    by : (b : Bool) (x y v w : Option (Done ℕ)) → FlowAlike u x y → FlowAlike u v w → FlowAlike u (cond b x v) (cond b y w)
    by true x y v w p q = p
    by false x y v w p q = q

-- ---- the end of a loop's body

flow_is : (u : Flow) (xs : List ℕ) → u.running ≡ xs → u.breaking ≡ [] → u.continuing ≡ [] → u.returning ≡ [] → u.going ≡ [] → u.choosing ≡ [] → u.ended ≡ [] → u ≡ only_running xs
flow_is u xs a b c d e f g = λ i. record { running = a i; breaking = b i; continuing = c i; returning = d i; going = e i; choosing = f i; ended = g i }

pub body_ended : (a : Course) (s1 s2 s3 p u : Flow) (next : List ℕ) → Arrives past_continue a.at s1 → next ≡ s1.running → s2 ≡ but_running s1 → Arrives past_break s2 s3 → Arrives unchanged a.passing p → Arrives unchanged s3 p
    → u.running ≡ next → u.breaking ≡ [] → u.continuing ≡ [] → u.returning ≡ [] → u.going ≡ [] → u.choosing ≡ [] → u.ended ≡ []
    → EndsBody a (record { at = u; passing = p; starts = a.starts; outer = a.outer })
body_ended a s1 s2 s3 p u next on taken left out old more r b c d e f g = record {
  at = flow_is u u.running refl b c d e f g;
  held = λ kind y m. held (past_continue kind) y (on kind y m);
  rest = record { passing = old; starts = refl; outer = refl };
}
  where
    gone : Arrives past_break (but_running s1) s3
    gone = subst (λ z. Arrives past_break z s3) left out

    held : (z : Kind) → Wider (place s1 z) (place (turned u.running p) z)
    held k.Running y m = subst (λ l. has l y ≡ true) (sym (r ∙ taken)) m
    held k.Breaking y m = more k.Running y (gone k.Breaking y m)
    held k.Continuing y m = more k.Continuing y (gone k.Continuing y m)
    held k.Returning y m = more k.Returning y (gone k.Returning y m)
    held (k.Going l) y m = more (k.Going l) y (gone (k.Going l) y m)
    held (k.Choosing z) y m = more (k.Choosing z) y (gone (k.Choosing z) y m)
    held k.Defaulting y m = more k.Defaulting y (gone k.Defaulting y m)
    held (k.Ended f) y m = more (k.Ended f) y (gone (k.Ended f) y m)
