-- Outcomes of expressions along a log, step by step.
use Rattle.std.proofs.Common.{◌≡◌, ℕ, ℤ, pos, negsuc, Bool, true, false, cond, List, Some, None, refl, sym, subst, ◌∙◌}
use Rattle.std.specs.Prelude.{Ok, Err}
use Rattle.plain_data.specs.declared.run.Undefined.{Undefined}
use Rattle.c_means.specs.declared.kind.Kind.TheVariants as k
use Rattle.c_language.specs.Integers.{is_zero}
use Rattle.c_language.specs.Operators.{Answer}
use Rattle.core_tree.specs.declared.types.Access.{Access}
use Rattle.core_tree.specs.declared.types.Operator.{Operator}
use Rattle.core_tree.specs.declared.types.Operator.TheVariants as op
use Rattle.core_tree.specs.Memory.{load, put, moved_to, operated}
use Rattle.core_tree.specs.Numbers.{worked}
use Rattle.core_tree.specs.States.{along, Done, Outcome, ◌>>=◌, found, stop, or_stop, on_branch}
use Rattle.positions.specs.Sets.{has}
use Rattle.log_expr.specs.Covers.{InValue, ValueAlike}
use Rattle.log_expr.specs.Flows.{Wider, is_ended}

pub bind : {A B : Type 0} (mid to ended : List ℕ) (a b : Outcome ℕ A) (f g : A × Done ℕ → Outcome ℕ B) → ValueAlike mid ended a b
    → ((v : A × Done ℕ) → v.1.kind ≡ k.Running → has mid v.1.out ≡ true → ValueAlike to ended (f v) (g v)) → ValueAlike to ended (a >>= f) (b >>= g)
bind {A} {B} mid to ended a b f g h n = subst (λ z. ValueAlike to ended (a >>= f) (z >>= g)) h.same (by a h.is)
  where
    by : (a : Outcome ℕ A) → InValue mid ended a → ValueAlike to ended (a >>= f) (a >>= g)
    by None i = record { same = refl; is = tt }
    by (Some (Ok v)) i = n v i.0 i.1
    by (Some (Err d)) i = record { same = refl; is = i }

pub wider_value : {A : Type 0} (to to' ended ended' : List ℕ) (a b : Outcome ℕ A) → Wider to to' → Wider ended ended' → ValueAlike to ended a b → ValueAlike to' ended' a b
wider_value {A} to to' ended ended' a b v e h = record { same = h.same; is = by a h.is }
  where
    by : (a : Outcome ℕ A) → InValue to ended a → InValue to' ended' a
    by None i = tt
    by (Some (Ok u)) i = (i.0, v u.1.out i.1)
    by (Some (Err d)) i = (i.0, e d.out i.1)

-- ---- steps that print nothing

abbrev pub Kept : {A : Type 0} → Done ℕ → Outcome ℕ A → Type 0
Kept d None = Unit {0}
Kept d (Some (Ok v)) = (v.1.kind ≡ d.kind) × (v.1.out ≡ d.out)
Kept d (Some (Err e)) = (is_ended e.kind ≡ true) × (e.out ≡ d.out)

pub record Keeps {A : Type 0} (d : Done ℕ) (o : Outcome ℕ A) : Type 0 where
  pub is : Kept d o

pub kept_alike : {A : Type 0} (to ended : List ℕ) (d : Done ℕ) (o : Outcome ℕ A) → Keeps d o → d.kind ≡ k.Running → has to d.out ≡ true → has ended d.out ≡ true → ValueAlike to ended o o
kept_alike {A} to ended d o h r m e = record { same = refl; is = by o h.is }
  where
    by : (o : Outcome ℕ A) → Kept d o → InValue to ended o
    by None i = tt
    by (Some (Ok v)) i = (i.0 ∙ r, subst (λ n. has to n ≡ true) (sym i.1) m)
    by (Some (Err x)) i = (i.0, subst (λ n. has ended n ≡ true) (sym i.1) e)

pub keeps_found : {A : Type 0} (x : A) (d : Done ℕ) → Keeps d (found x d)
keeps_found x d = record { is = (refl, refl) }

keeps_done : {A : Type 0} (x : A) (d e : Done ℕ) → e.kind ≡ d.kind → e.out ≡ d.out → Keeps d (found x e)
keeps_done x d e p q = record { is = (p, q) }

pub keeps_stop : {A : Type 0} (at : ℕ) (u : Undefined) (d : Done ℕ) → Keeps {A = A} d (stop at u d)
keeps_stop at u d = record { is = (refl, refl) }

pub keeps_cond : {A : Type 0} (b : Bool) (d : Done ℕ) (o p : Outcome ℕ A) → Keeps d o → Keeps d p → Keeps d (cond b o p)
keeps_cond true d o p x y = x
keeps_cond false d o p x y = y

pub keeps_or_stop : (at : ℕ) (a : Answer) (d : Done ℕ) → Keeps d (or_stop at a d)
keeps_or_stop at (Ok z) d = keeps_found z d
keeps_or_stop at (Err u) d = keeps_stop at u d

pub keeps_load : (x : Access) (a : ℕ) (d : Done ℕ) → Keeps d (load x a d)
keeps_load x a d = keeps_cond _ d _ _ (keeps_found _ d) (keeps_stop _ _ d)

pub keeps_put : (at : ℕ) (x : Access) (a : ℕ) (z : ℤ) (d : Done ℕ) → Keeps d (put at x a z d)
keeps_put at x a z d = keeps_cond _ d _ _ (keeps_cond _ d _ _ (keeps_done _ d _ refl refl) (keeps_stop _ _ d)) (keeps_stop _ _ d)

keeps_moved : (at from : ℕ) (z : ℤ) (d : Done ℕ) → Keeps d (moved_to at from z d)
keeps_moved at from (negsuc n) d = keeps_stop _ _ d
keeps_moved at from (pos n) d = keeps_cond _ d _ _ (keeps_found _ d) (keeps_stop _ _ d)

pub keeps_operated : (at : ℕ) (o : Operator) (x y : ℤ) (d : Done ℕ) → Keeps d (operated at o x y d)
keeps_operated at (op.Numbers o t) x y d = keeps_or_stop at (worked o t x y) d
keeps_operated at (op.Forward size) x y d = keeps_moved at _ _ d
keeps_operated at (op.ForwardBy size) x y d = keeps_moved at _ _ d
keeps_operated at (op.Back size) x y d = keeps_moved at _ _ d
keeps_operated at (op.Distance size) x y d = keeps_cond _ d _ _ (keeps_found _ d) (keeps_stop _ _ d)
keeps_operated at (op.Order r) x y d = keeps_cond _ d _ _ (keeps_found _ d) (keeps_stop _ _ d)
keeps_operated at op.Same x y d = keeps_found _ d
keeps_operated at op.Different x y d = keeps_found _ d

-- ---- a branch

pub branched : {A : Type 0} (log : List ℕ) (at : ℕ) (z : ℤ) (to ended : List ℕ) (f g : Bool → Done ℕ → Outcome ℕ A) (d : Done ℕ) → d.kind ≡ k.Running
    → ((b : Bool) (e : Done ℕ) → e.kind ≡ k.Running → e.out ≡ d.out → ValueAlike to ended (f b e) (g b e))
    → ValueAlike to ended (on_branch (along log) at z f d) (on_branch (along log) at z g d)
branched {A} log at z to ended f g d r h = by (is_zero z) _ _ _ _ (h false _ r refl) (h true _ r refl)
  where
    by : (b : Bool) (x y u v : Outcome ℕ A) → ValueAlike to ended x y → ValueAlike to ended u v → ValueAlike to ended (cond b x u) (cond b y v)
    by true x y u v p q = p
    by false x y u v p q = q
