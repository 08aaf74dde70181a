-- What is printed, step by step.
use Rattle.std.proofs.Common.{◌≡◌, ◌+◌, ℕ, zero, suc, ℤ, pos, negsuc, Bool, true, false, cond, List, [], ◌∷◌, ◌++◌, Option, Some, None, refl, sym, ap, subst, ◌∙◌, append_assoc}
use Rattle.std.specs.Prelude.{Ok, Err}
use Rattle.std.proofs.lemmas.List.{append-nil}
use Rattle.plain_data.specs.declared.run.Undefined.{Undefined}
use Rattle.c_means.specs.declared.kind.Kind.{Kind}
use Rattle.c_means.specs.declared.kind.Kind.TheVariants as k
use Rattle.c_language.specs.Integers.{is_zero}
use Rattle.c_language.specs.Operators.{Answer}
use Rattle.core_tree.specs.declared.types.Access.{Access}
use Rattle.core_tree.specs.declared.types.Operator.{Operator}
use Rattle.core_tree.specs.declared.types.Operator.TheVariants as op
use Rattle.core_tree.specs.Memory.{load, put, moved_to, operated}
use Rattle.core_tree.specs.Numbers.{worked}
use Rattle.core_tree.specs.States.{Output, plain, Done, Outcome, ◌>>=◌, Arrow, found, stop, or_stop, on_branch, onward, running, where_running, with_value}
use Rattle.log_language.specs.declared.tree.LogExpr.{LogExpr}
use Rattle.log_language.specs.Tells.{Site, texts, Prints, Wider, InOutcome, InEnd, SaysOutcome, SaysEnd}

pub wider_same : (a : LogExpr) → Wider a a
wider_same a x t m = m

pub wider_then : (a b c : LogExpr) → Wider a b → Wider b c → Wider a c
wider_then a b c v w x t m = w x t (v x t m)

module _ (x : Site) where
  pub prints_wider : (a b : LogExpr) (p : List ℕ) (d : Done Output) → Wider a b → Prints x a p d → Prints x b p d
  prints_wider a b p d w h = record { text = h.text; is = h.is; said = w x h.text h.said }

  pub prints_same : (a : LogExpr) (p : List ℕ) (d e : Done Output) → e.out.printed ≡ d.out.printed → Prints x a p d → Prints x a p e
  prints_same a p d e q h = record { text = h.text; is = q ∙ h.is; said = h.said }

  pub outcome_wider : {A : Type 0} (a b : LogExpr) (p : List ℕ) (o : Outcome Output A) → Wider a b → SaysOutcome x a p o → SaysOutcome x b p o
  outcome_wider {A} a b p o w h = record { is = by o h.is }
    where
      by : (o : Outcome Output A) → InOutcome x a p o → InOutcome x b p o
      by None i = tt
      by (Some (Ok v)) i = prints_wider a b p v.1 w i
      by (Some (Err d)) i = prints_wider a b p d w i

  pub end_wider : (a b : LogExpr) (p : List ℕ) (o : Option (Done Output)) → Wider a b → SaysEnd x a p o → SaysEnd x b p o
  end_wider a b p o w h = record { is = by o h.is }
    where
      by : (o : Option (Done Output)) → InEnd x a p o → InEnd x b p o
      by None i = tt
      by (Some d) i = prints_wider a b p d w i

  pub bind : {A B : Type 0} (a b : LogExpr) (p : List ℕ) (o : Outcome Output A) (f : A × Done Output → Outcome Output B) → Wider a b → SaysOutcome x a p o
      → ((v : A × Done Output) → Prints x a p v.1 → SaysOutcome x b p (f v)) → SaysOutcome x b p (o >>= f)
  bind {A} {B} a b p o f w h n = by o h.is
    where
      by : (o : Outcome Output A) → InOutcome x a p o → SaysOutcome x b p (o >>= f)
      by None i = record { is = tt }
      by (Some (Ok v)) i = n v i
      by (Some (Err d)) i = record { is = prints_wider a b p d w i }

  pub branched : {A : Type 0} (a b : LogExpr) (p : List ℕ) (at : ℕ) (z : ℤ) (f : Bool → Done Output → Outcome Output A) (d : Done Output) → Prints x a p d
      → ((s : Bool) (e : Done Output) → Prints x a p e → SaysOutcome x b p (f s e)) → SaysOutcome x b p (on_branch plain at z f d)
  branched {A} a b p at z f d h n = by (is_zero z) _ _ (n false _ (prints_same a p d _ refl h)) (n true _ (prints_same a p d _ refl h))
    where
      by : (s : Bool) (u v : Outcome Output A) → SaysOutcome x b p u → SaysOutcome x b p v → SaysOutcome x b p (cond s u v)
      by true u v i j = i
      by false u v i j = j

  -- ---- arrows

  pub through : (a b : LogExpr) (p : List ℕ) (o : Option (Done Output)) (f : Arrow Output) → SaysEnd x a p o → ((d : Done Output) → Prints x a p d → SaysEnd x b p (f d)) → SaysEnd x b p (onward o f)
  through a b p o f h n = by o h.is
    where
      by : (o : Option (Done Output)) → InEnd x a p o → SaysEnd x b p (onward o f)
      by None i = record { is = tt }
      by (Some d) i = n d i

  -- a run that isn't running passes
  pub where_it_runs : (a b : LogExpr) (p : List ℕ) (f : Arrow Output) (d : Done Output) → Wider a b → Prints x a p d → SaysEnd x b p (f d) → SaysEnd x b p (running f d)
  where_it_runs a b p f d w h n = by d.kind
    where
      stays : SaysEnd x b p (Some d)
      stays = record { is = prints_wider a b p d w h }

      by : (z : Kind) → SaysEnd x b p (where_running z (f d) (Some d))
      by k.Running = n
      by k.Breaking = stays
      by k.Continuing = stays
      by k.Returning = stays
      by (k.Going l) = stays
      by (k.Choosing v) = stays
      by k.Defaulting = stays
      by (k.Ended v) = stays

  pub with_found : (a b : LogExpr) (p : List ℕ) (o : Outcome Output ℤ) (f : ℤ → Arrow Output) → Wider a b → SaysOutcome x a p o → ((z : ℤ) (d : Done Output) → Prints x a p d → SaysEnd x b p (f z d)) → SaysEnd x b p (with_value o f)
  with_found a b p o f w h n = by o h.is
    where
      by : (o : Outcome Output ℤ) → InOutcome x a p o → SaysEnd x b p (with_value o f)
      by None i = record { is = tt }
      by (Some (Ok v)) i = n v.0 v.1 i
      by (Some (Err d)) i = record { is = prints_wider a b p d w i }

  pub branching : (a b : LogExpr) (p : List ℕ) (at : ℕ) (z : ℤ) (f : Bool → Arrow Output) (d : Done Output) → Prints x a p d
      → ((s : Bool) (e : Done Output) → Prints x a p e → SaysEnd x b p (f s e)) → SaysEnd x b p (on_branch plain at z f d)
  branching a b p at z f d h n = by (is_zero z) _ _ (n false _ (prints_same a p d _ refl h)) (n true _ (prints_same a p d _ refl h))
    where
      by : (s : Bool) (u v : Option (Done Output)) → SaysEnd x b p u → SaysEnd x b p v → SaysEnd x b p (cond s u v)
      by true u v i j = i
      by false u v i j = j

-- ---- steps that print nothing

abbrev pub Kept : {A : Type 0} → Done Output → Outcome Output A → Type 0
Kept d None = Unit {0}
Kept d (Some (Ok v)) = v.1.out.printed ≡ d.out.printed
Kept d (Some (Err e)) = e.out.printed ≡ d.out.printed

pub record Keeps {A : Type 0} (d : Done Output) (o : Outcome Output A) : Type 0 where
  pub is : Kept d o

pub kept_says : {A : Type 0} (x : Site) (a : LogExpr) (p : List ℕ) (d : Done Output) (o : Outcome Output A) → Keeps d o → Prints x a p d → SaysOutcome x a p o
kept_says {A} x a p d o h m = record { is = by o h.is }
  where
    by : (o : Outcome Output A) → Kept d o → InOutcome x a p o
    by None i = tt
    by (Some (Ok v)) i = prints_same x a p d v.1 i m
    by (Some (Err e)) i = prints_same x a p d e i m

pub keeps_found : {A : Type 0} (v : A) (d : Done Output) → Keeps d (found v d)
keeps_found v d = record { is = refl }

keeps_done : {A : Type 0} (v : A) (d e : Done Output) → e.out.printed ≡ d.out.printed → Keeps d (found v e)
keeps_done v d e q = record { is = q }

pub keeps_stop : {A : Type 0} (at : ℕ) (u : Undefined) (d : Done Output) → Keeps {A = A} d (stop at u d)
keeps_stop at u d = record { is = refl }

keeps_cond : {A : Type 0} (b : Bool) (d : Done Output) (o p : Outcome Output A) → Keeps d o → Keeps d p → Keeps d (cond b o p)
keeps_cond true d o p u v = u
keeps_cond false d o p u v = v

pub keeps_or_stop : (at : ℕ) (a : Answer) (d : Done Output) → Keeps d (or_stop at a d)
keeps_or_stop at (Ok z) d = keeps_found z d
keeps_or_stop at (Err u) d = keeps_stop at u d

pub keeps_load : (y : Access) (a : ℕ) (d : Done Output) → Keeps d (load y a d)
keeps_load y a d = keeps_cond _ d _ _ (keeps_found _ d) (keeps_stop _ _ d)

pub keeps_put : (at : ℕ) (y : Access) (a : ℕ) (z : ℤ) (d : Done Output) → Keeps d (put at y a z d)
keeps_put at y a z d = keeps_cond _ d _ _ (keeps_cond _ d _ _ (keeps_done _ d _ refl) (keeps_stop _ _ d)) (keeps_stop _ _ d)

keeps_moved : (at from : ℕ) (z : ℤ) (d : Done Output) → Keeps d (moved_to at from z d)
keeps_moved at from (negsuc n) d = keeps_stop _ _ d
keeps_moved at from (pos n) d = keeps_cond _ d _ _ (keeps_found _ d) (keeps_stop _ _ d)

pub keeps_operated : (at : ℕ) (o : Operator) (u v : ℤ) (d : Done Output) → Keeps d (operated at o u v d)
keeps_operated at (op.Numbers o t) u v d = keeps_or_stop at (worked o t u v) d
keeps_operated at (op.Forward size) u v d = keeps_moved at _ _ d
keeps_operated at (op.ForwardBy size) u v d = keeps_moved at _ _ d
keeps_operated at (op.Back size) u v d = keeps_moved at _ _ d
keeps_operated at (op.Distance size) u v d = keeps_cond _ d _ _ (keeps_found _ d) (keeps_stop _ _ d)
keeps_operated at (op.Order r) u v d = keeps_cond _ d _ _ (keeps_found _ d) (keeps_stop _ _ d)
keeps_operated at op.Same u v d = keeps_found _ d
keeps_operated at op.Different u v d = keeps_found _ d
