-- Objects by their places, and accesses near their start.
use Rattle.std.proofs.Common.{◌≡◌, ℕ, ◌+◌, ◌*◌, ◌%◌, ◌^◌, ◌<◌, ◌≤◌, ℤ, pos, List, [], ◌∷◌, ◌++◌, Bool, true, false, cond, Option, Some, None, refl, sym, ap, subst, ◌∙◌, arith, add-zero, lit<}
use Rattle.std.specs.Prelude.{Ok, Err, unsigned_abs, nat_eq, IfSome}
use Rattle.std.proofs.Math.Nat.{mod-eq_of_lt}
use Rattle.c_store.specs.Store.{start, set_at}
use Rattle.c_means.specs.Expressions.{behind}
use Rattle.c_means.specs.Parts.{Env}
use Rattle.c_means.specs.Statements.{no_env}
use Rattle.core_tree.specs.declared.expr.Expr.{Expr}
use Rattle.core_tree.specs.declared.expr.Expr.TheVariants as expr
use Rattle.core_tree.specs.declared.types.Access.{Access}
use Rattle.core_tree.specs.Numbers.{size_of}
use Rattle.core_tree.specs.States.{Outcome, ◌>>=◌, found}
use Rattle.core_tree.specs.Values.{Value, value}
use Rattle.core_tree.proofs.Equations.{worth-Local, worth-Fixed, worth-Offset}
use Rattle.term_bank.specs.Values.{Environment}
use Rattle.path_forms.specs.declared.frame.Placed.{Placed}
use Rattle.path_forms.specs.Around.{Around, level_at, env_at, bound, IsPlace, FoundIn}
use Rattle.path_forms.specs.Accesses.{IsFarther, HasScalarSize, IsNamed, IsNear, IsAccess, EndsBelow}

-- ---- frames

bound_more : (base : ℕ) (ps : List Placed) (p : Placed) (env : Env)
    → bound base (ps ++ p ∷ []) env ≡ set_at p.at (base + p.offset) (bound base ps env)
bound_more base [] p env = refl
bound_more base (q ∷ qs) p env = bound_more base qs p (set_at q.at (base + q.offset) env)

env_more : (ps : List Placed) (p : Placed) (at : ℕ) (c : Bool) (e : Environment) → nat_eq at p.at ≡ c
    → env_at (ps ++ p ∷ []) e at ≡ cond c (e.base + p.offset) (env_at ps e at)
env_more ps p at c e h =
    ap (λ (f : Env). f at) (bound_more e.base ps p no_env) ∙ ap (λ b. cond b (e.base + p.offset) (env_at ps e at)) h

kept : (ps : List Placed) (p : Placed) (at : ℕ) (f : Option ℕ) → nat_eq at p.at ≡ false → FoundIn ps at f → FoundIn (ps ++ p ∷ []) at f
kept ps p at None h k = tt
kept ps p at (Some offset) h k = λ e. env_more ps p at false e h ∙ k e

pub found_later : (ps : List Placed) (p : Placed) (at : ℕ) (f g : Option ℕ) → FoundIn ps at f
    → g ≡ cond (nat_eq at p.at) (Some p.offset) f → FoundIn (ps ++ p ∷ []) at g
found_later ps p at f g h is = by (nat_eq at p.at) refl
  where
    by : (c : Bool) → nat_eq at p.at ≡ c → FoundIn (ps ++ p ∷ []) at g
    by true k =
        let P : Option ℕ → Type 0 = λ o. FoundIn (ps ++ p ∷ []) at o in
        let same : Some p.offset ≡ g = sym (is ∙ ap (λ b. cond b (Some p.offset) f) k) in
        subst P same (λ e. env_more ps p at true e k)
    by false k =
        let P : Option ℕ → Type 0 = λ o. FoundIn (ps ++ p ∷ []) at o in
        let same : f ≡ g = sym (is ∙ ap (λ b. cond b (Some p.offset) f) k) in
        subst P same (kept ps p at f k h)

pub located : (ps : List Placed) (room at : ℕ) (f g : Option ℕ) → FoundIn ps at f → IfSome g (λ o. o < room) → IfSome g (λ o. f ≡ Some o)
    → IfSome g (λ o. IsPlace ps room at o)
located ps room at f None h w s = tt
located ps room at f (Some o) h w s =
    let P : Option ℕ → Type 0 = λ q. FoundIn ps at q in
    record { within = w; is = subst P s h }

-- ---- addresses of objects that have names

pub named_local : (x : Around) (frame : List Placed) (room at offset : ℕ) → IsPlace frame room at offset
    → IsNamed x frame room (expr.Local at) 0
named_local x frame room at offset h = record {
  small = lit< tt;
  place = λ e. e.base + offset;
  within = λ e r. omega (arith, r.places, h.within);
  is = λ e r base d.
      ap (λ (q : Value ℕ). q.run (level_at x e) (env_at frame e) base d) (worth-Local at)
      ∙ ap (λ p. found (pos (start p)) d) (h.is e) ∙ ap (λ n. found (pos n) d) (sym (add-zero (start (e.base + offset))));
}

pub named_fixed : (x : Around) (frame : List Placed) (room place : ℕ) → place < 2 ^ 32 → IsNamed x frame room (expr.Fixed place) 0
named_fixed x frame room place h = record {
  small = lit< tt;
  place = λ e. place;
  within = λ e r. h;
  is = λ e r base d.
      ap (λ (q : Value ℕ). q.run (level_at x e) (env_at frame e) base d) (worth-Fixed place)
      ∙ ap (λ n. found (pos n) d) (sym (add-zero (start place)));
}

behind_start : (p k bytes n : ℕ) → p < 2 ^ 32 → n ≡ k + bytes → n < 2 ^ 32 → ((p * 2 ^ 32 + k) + bytes) % 2 ^ 64 ≡ p * 2 ^ 32 + n
behind_start p k bytes n h same small =
    let low : (p * 2 ^ 32 + k) + bytes < 2 ^ 64 = omega arith in
    let sum : (p * 2 ^ 32 + k) + bytes ≡ p * 2 ^ 32 + n = omega arith in
    mod-eq_of_lt low ∙ sum

pub named_offset : (x : Around) (frame : List Placed) (room : ℕ) (t : Expr) (k bytes n : ℕ) → IsNamed x frame room t k → n ≡ k + bytes
    → n < 2 ^ 32 → IsNamed x frame room (expr.Offset bytes t) n
named_offset x frame room t k bytes n h sum low = record {
  small = low;
  place = h.place;
  within = h.within;
  is = λ e r base d.
      ap (λ (q : Value ℕ). q.run (level_at x e) (env_at frame e) base d) (worth-Offset bytes t)
      ∙ ap (λ o. o >>= (λ a. found (pos (behind bytes (unsigned_abs a.0))) a.1)) (h.is e r base d)
      ∙ ap (λ m. found (pos m) d) (behind_start (h.place e) k bytes n (h.within e r) sum low);
}

pub distant : (x : Around) (frame : List Placed) (room : ℕ) (t : Expr) (f : Option ℕ) (bytes n : ℕ)
    → IfSome f (λ k. (x : Around) → IsNamed x frame room t k) → IsFarther f bytes n → IsNamed x frame room (expr.Offset bytes t) n
distant x frame room t None bytes n h i = absurd (none i.was)
  where
    none : {k : ℕ} → ◌≡◌ {A = Option ℕ} None (Some k) → ⊥
    none e = cc
distant x frame room t (Some k) bytes n h i =
    let same : k ≡ i.from = some i.was in
    named_offset x frame room t k bytes n (h x) (i.sum ∙ ap (λ m. m + bytes) (sym same)) i.small
  where
    some : {m : ℕ} → ◌≡◌ {A = Option ℕ} (Some k) (Some m) → k ≡ m
    some e = cc

-- ---- accesses

near_end : (p n size : ℕ) → p < 2 ^ 32 → n + size ≤ 2 ^ 32 → (p * 2 ^ 32 + n) + size ≤ 2 ^ 64
near_end p n size h k = omega arith

pub near_named : (x : Around) (frame : List Placed) (room : ℕ) (access : Access) (t : Expr) (n : ℕ) → IsNamed x frame room t n
    → n + size_of access.stored ≤ 2 ^ 32 → IsNear x frame room access t
near_named x frame room access t n h k = record {
  near = λ e r base d.
      let P : Outcome ℕ ℤ → Type 0 = λ o. EndsBelow access o in
      subst P (sym (h.is e r base d)) (λ _. near_end (h.place e) n (size_of access.stored) (h.within e r) k);
}

ends_tested : (access : Access) (o : Outcome ℕ ℤ) → access.is_tested ≡ true → EndsBelow access o
ends_tested access None h = tt
ends_tested access (Some (Ok z)) h = λ k. absurd (cc)
ends_tested access (Some (Err d)) h = tt

pub near_tested : (x : Around) (frame : List Placed) (room : ℕ) (access : Access) (t : Expr) → access.is_tested ≡ true
    → IsNear x frame room access t
near_tested x frame room access t h = record {
  near = λ e r base d. ends_tested access ((value {O = ℕ} t).run (level_at x e) (env_at frame e) base d) h;
}

ends_near : (x : Around) (frame : List Placed) (room : ℕ) (access : Access) (t : Expr) (f : Option ℕ) (size n : ℕ)
    → IfSome f (λ k. (x : Around) → IsNamed x frame room t k) → IsFarther f size n → size ≡ size_of access.stored
    → IsNear x frame room access t
ends_near x frame room access t None size n h i same = absurd (none i.was)
  where
    none : {k : ℕ} → ◌≡◌ {A = Option ℕ} None (Some k) → ⊥
    none e = cc
ends_near x frame room access t (Some k) size n h i same =
    let from : k ≡ i.from = some i.was in
    let sum : k + size_of access.stored ≤ 2 ^ 32 = omega (arith, from, i.sum, i.small, same) in
    near_named x frame room access t k (h x) sum
  where
    some : {m : ℕ} → ◌≡◌ {A = Option ℕ} (Some k) (Some m) → k ≡ m
    some e = cc

module _ (frame : List Placed) (room : ℕ) (access : Access) (t : Expr) (size : ℕ)
    (h : HasScalarSize access.stored size) where
  pub access_tested : access.is_tested ≡ true → (x : Around) → IsAccess x frame room access t
  access_tested is x = record { scalar = h.scalar; near = near_tested x frame room access t is }

  pub access_near : (f : Option ℕ) (n : ℕ) → IfSome f (λ k. (x : Around) → IsNamed x frame room t k)
      → IsFarther f size n → (x : Around) → IsAccess x frame room access t
  access_near f n named ends x = record { scalar = h.scalar; near = ends_near x frame room access t f size n named ends h.size }

-- ---- addresses by their form

module _ (frame : List Placed) (room : ℕ) (t : Expr) where
  pub by_local : (at : ℕ) (f : Option ℕ) → t ≡ expr.Local at
      → IfSome f (λ n. (x : Around) → IsNamed x frame room (expr.Local at) n)
      → IfSome f (λ n. (x : Around) → IsNamed x frame room t n)
  by_local at f is h =
      let P : Expr → Type 0 = λ e. IfSome f (λ n. (x : Around) → IsNamed x frame room e n) in
      subst P (sym is) h

  pub by_fixed : (place : ℕ) (f : Option ℕ) → t ≡ expr.Fixed place
      → IfSome f (λ n. (x : Around) (frame : List Placed) (room : ℕ) → IsNamed x frame room (expr.Fixed place) n)
      → IfSome f (λ n. (x : Around) → IsNamed x frame room t n)
  by_fixed place None is h = tt
  by_fixed place (Some n) is h = λ x.
      let P : Expr → Type 0 = λ e. IsNamed x frame room e n in
      subst P (sym is) (h x frame room)

  pub by_offset : (bytes : ℕ) (y z : Expr) (f g : Option ℕ) → t ≡ expr.Offset bytes y → z ≡ y
      → IfSome f (λ n. (x : Around) → IsNamed x frame room z n) → IfSome g (IsFarther f bytes)
      → IfSome g (λ n. (x : Around) → IsNamed x frame room t n)
  by_offset bytes y z f None is same h i = tt
  by_offset bytes y z f (Some n) is same h i = λ x.
      let P : Expr → Type 0 = λ e. IsNamed x frame room e n in
      subst P (ap (λ e. expr.Offset bytes e) same ∙ sym is) (distant x frame room z f bytes n h i)
