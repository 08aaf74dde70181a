-- Expressions of one rank after the other.
use Rattle.std.proofs.Common.{
  ◌≡◌,
  ◌≤◌,
  ◌<◌,
  ◌+◌,
  ◌-◌,
  ℕ,
  zero,
  suc,
  length,
  Some,
  None,
  false,
  refl,
  sym,
  ap,
  ◌∙◌,
  arith,
  nat_eq,
  ◌⊎◌,
  inl,
  inr,
}
use Rattle.std.proofs.lemmas.Bool.Decides.{nat_tests}
use Rattle.c_language.specs.declared.expr.Expr.{Expr}
use Rattle.c_grammar.specs.Parts.{State}
use Rattle.c_grammar.specs.Reading.{Rules, ◌>>=◌, binds, more_at, expr_by}
use Rattle.c_reading.specs.declared.fault.ParseFault.{ParseFault}
use Rattle.c_reading.specs.declared.fault.ParseFault.TheVariants as fault
use Rattle.c_reading.specs.Cursor.{Fails}

step : (r : Rules) (limit m : ℕ) (s : State) → 3 ≤ m →
    expr_by r limit (suc m) s ≡ (expr_by r limit m s >>= (λ x. more_at r limit (suc m) (suc (length x.1.0)) x.0 x.1))
unfolding expr_by
step r limit zero s h = absurd (omega (arith, h))
step r limit (suc zero) s h = absurd (omega (arith, h))
step r limit (suc (suc zero)) s h = absurd (omega (arith, h))
step r limit (suc (suc (suc k))) s h = refl

step_some : (r : Rules) (limit m : ℕ) (s z : State) (x : Expr) → 3 ≤ m → expr_by r limit m s ≡ Some (x, z) →
    expr_by r limit (suc m) s ≡ more_at r limit (suc m) (suc (length z.0)) x z
step_some r limit m s z x h is = step r limit m s h ∙ rw is refl

step_none : (r : Rules) (limit m : ℕ) (s : State) → 3 ≤ m → expr_by r limit m s ≡ None →
    expr_by r limit (suc m) s ≡ None
step_none r limit m s h is = step r limit m s h ∙ rw is refl

other : (r : Rules) (limit rank n : ℕ) (x : Expr) (z : State) → nat_eq (binds z) rank ≡ false →
    more_at r limit rank (suc n) x z ≡ Some (x, z)
unfolding more_at
other r limit rank n x z none = rw none refl

-- ranks that no operator has here
skips : (d : ℕ) (r : Rules) (limit m n : ℕ) (s z : State) (x : Expr) → 3 ≤ m → n ≡ d + m →
    ((k : ℕ) → m < k → k ≤ n → nat_eq (binds z) k ≡ false) → expr_by r limit m s ≡ Some (x, z) →
    expr_by r limit n s ≡ Some (x, z)
skips zero r limit m n s z x h e none is =
    let p : n ≡ m = omega (arith, e) in
    ap (λ k. expr_by r limit k s) p ∙ is
skips (suc d) r limit m n s z x h e none is =
    let p : n ≡ suc (d + m) = omega (arith, e) in
    let before : expr_by r limit (d + m) s ≡ Some (x, z) = skips d r limit m (d + m) s z x h refl
    (λ k. λ low. λ high. none k low (omega (arith, high, p))) is in
    let q : nat_eq (binds z) (suc (d + m)) ≡ false = none (suc (d + m)) (omega arith) (omega (arith, p)) in
    ap (λ k. expr_by r limit k s) p ∙ step_some r limit (d + m) s z x (omega (arith, h)) before ∙ other r limit
    (suc (d + m)) (length z.0) x z q

stays_none : (d : ℕ) (r : Rules) (limit m n : ℕ) (s : State) → 3 ≤ m → n ≡ d + m → expr_by r limit m s ≡ None →
    expr_by r limit n s ≡ None
stays_none zero r limit m n s h e none =
    let p : n ≡ m = omega (arith, e) in
    ap (λ k. expr_by r limit k s) p ∙ none
stays_none (suc d) r limit m n s h e none =
    let p : n ≡ suc (d + m) = omega (arith, e) in
    ap (λ k. expr_by r limit k s) p ∙ step_none r limit (d + m) s (omega (arith, h))
    (stays_none d r limit m (d + m) s h refl none)

low_other : (b m k : ℕ) → b ≤ m → m < k → nat_eq b k ≡ false
low_other b m k low above = grind (arith, nat_tests, low, above)

high_other : (b n k : ℕ) → n < b → k ≤ n → nat_eq b k ≡ false
high_other b n k high within = grind (arith, nat_tests, high, within)

-- the operator that comes next binds no more loosely than what was read
ends_low : (r : Rules) (limit m n b : ℕ) (s z : State) (x : Expr) → 3 ≤ m → m ≤ n → b ≡ binds z → b ≤ m →
    expr_by r limit m s ≡ Some (x, z) → expr_by r limit n s ≡ Some (x, z)
ends_low r limit m n b s z x h within e low is =
    skips (n - m) r limit m n s z x h (omega (arith, within))
    (λ k. λ above. λ below. low_other (binds z) m k (omega (arith, e, low)) above) is

-- it binds more loosely than is wanted
ends_high : (r : Rules) (limit m n b : ℕ) (s z : State) (x : Expr) → 3 ≤ m → m ≤ n → b ≡ binds z → n < b →
    expr_by r limit m s ≡ Some (x, z) → expr_by r limit n s ≡ Some (x, z)
ends_high r limit m n b s z x h within e high is =
    skips (n - m) r limit m n s z x h (omega (arith, within))
    (λ k. λ above. λ below. high_other (binds z) n k (omega (arith, e, high)) below) is

-- one of both
pub ends : {A : Type 0} (r : Rules) (limit m n b : ℕ) (s z : State) (x : Expr) → 3 ≤ m → m ≤ n → b ≡ binds z →
    (b ≤ m) ⊎ (A × (n < b)) → expr_by r limit m s ≡ Some (x, z) → expr_by r limit n s ≡ Some (x, z)
ends r limit m n b s z x h within e (inl low) is = ends_low r limit m n b s z x h within e low is
ends r limit m n b s z x h within e (inr high) is = ends_high r limit m n b s z x h within e high.1 is

-- the operators of the next rank
jumps : (r : Rules) (limit m p b : ℕ) (s z : State) (x : Expr) → 3 ≤ m → m ≤ p → b ≡ suc p → b ≡ binds z →
    expr_by r limit m s ≡ Some (x, z) → expr_by r limit b s ≡ more_at r limit b (suc (length z.0)) x z
jumps r limit m p b s z x h within after_ e is =
    let before : expr_by r limit p s ≡ Some (x, z) = ends_high r limit m p b s z x h within e
    (omega (arith, after_)) is in
    ap (λ k. expr_by r limit k s) after_ ∙ step_some r limit p s z x (omega (arith, h, within)) before ∙ ap
    (λ k. more_at r limit k (suc (length z.0)) x z) (sym after_)

pub climbs : (r : Rules) (limit m b : ℕ) (s z w : State) (x y : Expr) → 3 ≤ m → m < b → b ≡ binds z →
    expr_by r limit m s ≡ Some (x, z) → more_at r limit b (suc (length z.0)) x z ≡ Some (y, w) →
    expr_by r limit b s ≡ Some (y, w)
climbs r limit m b s z w x y h above e is more = jumps r limit m (b - 1) b s z x h (omega (arith, above))
    (omega (arith, above)) e is ∙ more

fails_from : (r : Rules) (limit m b n : ℕ) (s z : State) (x : Expr) → 3 ≤ m → m < b → b ≤ n → b ≡ binds z →
    expr_by r limit m s ≡ Some (x, z) → more_at r limit b (suc (length z.0)) x z ≡ None → expr_by r limit n s ≡ None
fails_from r limit m b n s z x h above within e is none =
    stays_none (n - b) r limit b n s (omega (arith, h, above)) (omega (arith, within))
    (jumps r limit m (b - 1) b s z x h (omega (arith, above)) (omega (arith, above)) e is ∙ none)

pub climbs_not : (r : Rules) (limit m b n : ℕ) (s z : State) (x : Expr) (f : ParseFault) → 3 ≤ m → m < b →
    b ≤ n → b ≡ binds z → expr_by r limit m s ≡ Some (x, z) →
    Fails f (more_at r limit b (suc (length z.0)) x z) → Fails f (expr_by r limit n s)
climbs_not r limit m b n s z x fault.Memory h above within e is none = tt
climbs_not r limit m b n s z x (fault.Syntax at) h above within e is none = fails_from r limit m b n s z x h
    above within e is none
climbs_not r limit m b n s z x (fault.TooDeep at) h above within e is none = fails_from r limit m b n s z x h
    above within e is none

-- no operand
pub begins_not : (r : Rules) (limit n : ℕ) (s : State) (f : ParseFault) → 3 ≤ n →
    Fails f (expr_by r limit 3 s) → Fails f (expr_by r limit n s)
begins_not r limit n s fault.Memory h none = tt
begins_not r limit n s (fault.Syntax at) h none = stays_none (n - 3) r limit 3 n s (omega arith)
    (omega (arith, h)) none
begins_not r limit n s (fault.TooDeep at) h none = stays_none (n - 3) r limit 3 n s (omega arith)
    (omega (arith, h)) none
