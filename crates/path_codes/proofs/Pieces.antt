-- The pieces of which statements are made: states that are running, an expression, a branch.
use Rattle.std.proofs.Common.{◌≡◌, ℕ, ◌+◌, ℤ, List, ◌++◌, Bool, true, false, cond, Option, Some, None, refl, ap, ◌∙◌, append-nil}
use Rattle.std.specs.Prelude.{Ok, Err}
use Rattle.plain_data.specs.declared.run.Side.TheVariants as side
use Rattle.c_means.specs.declared.kind.Kind.{Kind}
use Rattle.c_means.specs.declared.kind.Kind.TheVariants as k
use Rattle.c_language.specs.Integers.{is_zero}
use Rattle.core_tree.specs.declared.expr.Expr.{Expr}
use Rattle.core_tree.specs.States.{Done, Arrow, Outcome, along, running, where_running, with_value, on_branch, one_of}
use Rattle.core_tree.specs.Values.{value}
use Rattle.term_bank.specs.declared.shape.Shape.{Shape}
use Rattle.term_bank.specs.Values.{Environment}
use Rattle.path_states.specs.declared.state.State.{State}
use Rattle.path_states.specs.declared.state.Walked.{Walked}
use Rattle.path_states.specs.States.{Held}
use Rattle.path_states.specs.Ways.{Goes, to_list, ◌>>=◌, going, ending}
use Rattle.path_states.proofs.Paths.{goes_then}
use Rattle.path_steps.specs.declared.parting.Parted.{Parted}
use Rattle.path_steps.specs.Branches.{PartsAll, takes, skips, noted_at}
use Rattle.path_steps.specs.Operands.{pushed, top}
use Rattle.path_arrows.specs.declared.sifting.Sifted.{Sifted}
use Rattle.path_arrows.specs.Arrows.{bare, bared, by_arrow, while_running, unless_running, Sifts}
use Rattle.path_forms.specs.declared.frame.Placed.{Placed}
use Rattle.path_forms.specs.Around.{Around, level_at, env_at}
use Rattle.path_forms.specs.Reaching.{WalksValue, value_way}
use Rattle.path_forms.proofs.Reached.{goes_grown}
use Rattle.path_forms.proofs.SideLemmas.{goes_beside}
use Rattle.path_codes.specs.Courses.{Splits, on_top}
use Rattle.path_states.proofs.Growth.{states_joined, states_grown}
use Rattle.path_codes.specs.Walks.{value_arrow, EvaluatesTo}
use Rattle.path_codes.proofs.Courses.{splits_then}

-- ---- states that are running

by_kind : (kind : Kind) (h : Held) (g f : Arrow ℕ) → (kind ≡ k.Running → g h.done ≡ f h.done)
    → to_list (where_running kind None (Some (bare h.done))) ++ to_list (where_running kind (Some h) None >>= (λ x. bared (g x.done)))
    ≡ to_list (bared (where_running kind (f h.done) (Some h.done)))
by_kind k.Running h g f same = ap (λ o. to_list (bared o)) (same refl)
by_kind k.Breaking h g f same = refl
by_kind k.Continuing h g f same = refl
by_kind k.Returning h g f same = refl
by_kind (k.Going label) h g f same = refl
by_kind (k.Choosing value) h g f same = refl
by_kind k.Defaulting h g f same = refl
by_kind (k.Ended finish) h g f same = refl

-- those that are running go on by an arrow that is the other one where they do
pub splits_running : (room : ℕ) (a : List Shape) (ss : List State) (x : Sifted) (g f : Environment → Arrow ℕ) → Sifts a ss x
    → ((e : Environment) (d : Done ℕ) → d.kind ≡ k.Running → g e d ≡ f e d)
    → Splits room a a ss x.others x.running (by_arrow g) (by_arrow (λ e. running (f e)))
splits_running room a ss x g f h same = record {
  over_way = unless_running;
  on_way = while_running;
  over = h.others room;
  on = h.running room;
  leads = λ e v y. by_kind y.done.kind y (g e) (f e) (same e y.done);
}

pub splits_sift : (room : ℕ) (a : List Shape) (ss : List State) (x : Sifted) (f : Environment → Arrow ℕ) → Sifts a ss x
    → Splits room a a ss x.others x.running (by_arrow f) (by_arrow (λ e. running (f e)))
splits_sift room a ss x f h = splits_running room a ss x f f h (λ e d r. refl)

-- where it is running, a step acts
pub where_it_runs : (d : Done ℕ) (f : Arrow ℕ) → d.kind ≡ k.Running → running f d ≡ f d
where_it_runs d f h = ap (λ kind. where_running kind (f d) (Some d)) h

-- ---- an expression

valued : (zs : List ℤ) (o : Outcome ℕ ℤ) (g : ℤ → Arrow ℕ)
    → to_list (ending (pushed zs o)) ++ to_list (going (pushed zs o) >>= (λ h. bared (g (top h.operands) h.done)))
    ≡ to_list (bared (with_value o g))
valued zs None g = refl
valued zs (Some (Ok x)) g = refl
valued zs (Some (Err d)) g = refl

pub splits_value : (x : Around) (frame : List Placed) (room : ℕ) (t : Expr) (a b : List Shape) (ss : List State) (u : Walked)
    (place next : ℕ) (f : Environment → ℤ → Arrow ℕ) → WalksValue x frame room t a b ss u place next
    → Splits room a b ss u.ended u.going (on_top f) (by_arrow (value_arrow x frame place t f))
splits_value x frame room t a b ss u place next f h = record {
  over_way = λ e v y. ending (value_way x frame place t e v y);
  on_way = λ e v y. going (value_way x frame place t e v y);
  over = h.walks.ended;
  on = h.walks.going;
  leads = λ e v y.
      valued y.operands ((value t).run (level_at x e) (env_at frame e) (e.base + place) y.done) (f e);
}

-- ---- a branch

module _ (c : Bool) (p q : Held) (f g : Held → Option Held) where
  by_side : to_list (cond c (Some q) None >>= g) ++ to_list (cond c None (Some p) >>= f) ≡ to_list (cond c (g q) (f p))
  by_side = elim c as (λ b. to_list (cond b (Some q) None >>= g) ++ to_list (cond b None (Some p) >>= f) ≡ to_list (cond b (g q) (f p))) [
    | true ↦ append-nil (to_list (g q))
    | false ↦ refl
  ]

  by_other_side : to_list (cond c None (Some p) >>= f) ++ to_list (cond c (Some q) None >>= g) ≡ to_list (cond c (g q) (f p))
  by_other_side = elim c as (λ b. to_list (cond b None (Some p) >>= f) ++ to_list (cond b (Some q) None >>= g) ≡ to_list (cond b (g q) (f p))) [
    | true ↦ refl
    | false ↦ append-nil (to_list (f p))
  ]

bared_cond : (c : Bool) (x y : Option (Done ℕ)) → cond c (bared x) (bared y) ≡ bared (cond c x y)
bared_cond true x y = refl
bared_cond false x y = refl

abbrev pub branched : ℕ → List ℕ → (Environment → Arrow ℕ) → (Environment → Arrow ℕ) → Environment → ℤ → Arrow ℕ
branched at log y n e z = on_branch (along log) at z (λ b. one_of b (y e) (n e))

-- those that take it go on, and the others are over
pub splits_branch : (room at : ℕ) (log : List ℕ) (a b c : List Shape) (ss ns : List State) (p : Parted) (y n : Environment → Arrow ℕ)
    → PartsAll a b ss at p → Goes room b c p.no ns (by_arrow n)
    → Splits room a c ss ns p.yes (by_arrow y) (on_top (branched at log y n))
splits_branch room at log a b c ss ns p y n h i = record {
  over_way = λ e v x. skips at e v x >>= by_arrow n e v;
  on_way = takes at;
  over = goes_then room a b c ss p.no ns (skips at) (by_arrow n) (h.no room) i;
  on = goes_grown room a b c i.grows ss p.yes (takes at) (h.yes room);
  leads = λ e v x.
      by_side (is_zero (top x.operands)) (noted_at at side.Yes x) (noted_at at side.No x) (by_arrow y e v) (by_arrow n e v)
      ∙ ap to_list (bared_cond (is_zero (top x.operands)) (n e (noted_at at side.No x).done) (y e (noted_at at side.Yes x).done));
}

-- both sides are done
pub goes_branch : (room at : ℕ) (log : List ℕ) (a b c d : List Shape) (ss ys ns : List State) (p : Parted) (y n : Environment → Arrow ℕ)
    → PartsAll a b ss at p → Goes room b c p.yes ys (by_arrow y) → Goes room c d p.no ns (by_arrow n)
    → Goes room a d ss (ys ++ ns) (on_top (branched at log y n))
goes_branch room at log a b c d ss ys ns p y n h i j =
    goes_beside room a d ss ys ns (λ e v x. takes at e v x >>= by_arrow y e v) (λ e v x. skips at e v x >>= by_arrow n e v)
    (on_top (branched at log y n))
    (λ e v x.
    by_other_side (is_zero (top x.operands)) (noted_at at side.Yes x) (noted_at at side.No x) (by_arrow y e v) (by_arrow n e v)
    ∙ ap to_list (bared_cond (is_zero (top x.operands)) (n e (noted_at at side.No x).done) (y e (noted_at at side.Yes x).done)))
    (goes_grown room a c d j.grows ss ys (λ e v x. takes at e v x >>= by_arrow y e v)
    (goes_then room a b c ss p.yes ys (takes at) (by_arrow y) (h.yes room) i))
    (goes_then room a c d ss p.no ns (skips at) (by_arrow n) (goes_grown room a b c i.grows ss p.no (skips at) (h.no room)) j)

-- ---- an expression that the states evaluate which are running

pub evaluates : (x : Around) (frame : List Placed) (room : ℕ) (t : Expr) (a b : List Shape) (ss : List State) (place next : ℕ)
    (p : Sifted) (u : Walked) → Sifts a ss p → WalksValue x frame room t a b p.running u place next
    → EvaluatesTo x frame room t a b ss place (record { over = p.others ++ u.ended; on = u.going; next = next })
evaluates x frame room t a b ss place next p u h i = record {
  grows = i.grows;
  over = states_joined b p.others u.ended (states_grown i.grows p.others h.other_states) i.ended;
  on = i.going;
  after = i.after;
  splits = λ f.
      let valued_by = value_arrow x frame place t f in
      splits_then room a a b ss p.others p.running (by_arrow valued_by) (by_arrow (λ e. running (valued_by e)))
      u.ended u.going (on_top f) (splits_sift room a ss p valued_by h)
      (splits_value x frame room t a b p.running u place next f i);
}
