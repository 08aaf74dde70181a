-- What follows for what is made of parts, each of which may have failed: it fails where one of them did.
use Rattle.std.proofs.Common.{◌≡◌, Result, Ok, Err, ControlFlow, Continue, IfOk, IsOkAnd, sym, ap, ◌∙◌, subst}
use Rattle.std.below.core.specs.declared.result.ErrResidual.{ErrResidual}
use Rattle.std.below.core.specs.Result.{result_from_control_flow}

pub of_ok : {E X : Type 0} (r : Result X E) (a : X) (P : X → Type 0) → r ≡ Ok a → P a → IsOkAnd r P
of_ok r a P is h = subst (λ r. IsOkAnd r P) (sym is) h

-- a part that was tried
pub of_try : {E X : Type 0} (r : Result X E) (tried : ControlFlow (ErrResidual E) X) (a : X) (P : X → Type 0)
    → r ≡ result_from_control_flow tried → tried ≡ Continue a → P a → IsOkAnd r P
of_try r tried a P is goes_on h = of_ok r a P (is ∙ ap result_from_control_flow goes_on) h

-- both were there
pub both_of : {E X Y : Type 0} (x : Result X E) (y : Result Y E) (both : Result (X × Y) E) (a : X × Y)
    → IfOk both (λ p. (x ≡ Ok p.0) × (y ≡ Ok p.1)) → both ≡ Ok a → (x ≡ Ok a.0) × (y ≡ Ok a.1)
both_of x y both a h is = subst (λ r. IfOk r (λ p. (x ≡ Ok p.0) × (y ≡ Ok p.1))) is h

-- what a call over a part, or over both, found
pub of_found : {E X W : Type 0} (x : Result X E) (a : X) (w : Result W E) (A : X → Type 0) (F : W → Type 0)
    → (tried : ControlFlow (ErrResidual E) X) → x ≡ result_from_control_flow tried → tried ≡ Continue a
    → (A a → IfOk w F) → IfOk w (λ z. IsOkAnd x (λ v. A v → F z))
of_found x a (Ok z) A F tried is goes_on h = of_try x tried a (λ v. A v → F z) is goes_on h
of_found x a (Err e) A F tried is goes_on h = tt

pub of_both : {E X Y W : Type 0} (x : Result X E) (y : Result Y E) (a : X × Y) (w : Result W E) (A : X → Type 0)
    (B : Y → Type 0) (F : W → Type 0) → (x ≡ Ok a.0) × (y ≡ Ok a.1) → (A a.0 → B a.1 → IfOk w F)
    → IfOk w (λ z. IsOkAnd x (λ v. IsOkAnd y (λ u. A v → B u → F z)))
of_both x y a (Ok z) A B F is h =
    of_ok x a.0 (λ v. IsOkAnd y (λ u. A v → B u → F z)) is.0 (of_ok y a.1 (λ u. A a.0 → B u → F z) is.1 h)
of_both x y a (Err e) A B F is h = tt

pub with_ok : {E X : Type 0} (r : Result X E) (P Q : X → Type 0) (R : Type 0) → IfOk r P → IsOkAnd r Q
    → ((a : X) → P a → Q a → R) → R
with_ok (Ok a) P Q R p q f = f a p q
with_ok (Err e) P Q R p q f = absurd q

pub of_one : {E X W : Type 0} (x : Result X E) (w : Result W E) (P : X → Type 0) (F : W → X → Type 0) (R : W → Type 0)
    → IfOk x P → IfOk w (λ z. IsOkAnd x (F z)) → ((a : X) (z : W) → P a → F z a → R z) → IfOk w R
of_one (Ok a) (Ok z) P F R p found all = all a z p found
of_one (Err d) (Ok z) P F R p found all = absurd found
of_one x (Err e) P F R p found all = tt

pub of_two : {E X Y W : Type 0} (x : Result X E) (y : Result Y E) (w : Result W E) (P : X → Type 0) (Q : Y → Type 0)
    (F : W → X → Y → Type 0) (R : W → Type 0) → IfOk x P → IfOk y Q
    → IfOk w (λ z. IsOkAnd x (λ a. IsOkAnd y (F z a))) → ((a : X) (b : Y) (z : W) → P a → Q b → F z a b → R z)
    → IfOk w R
of_two (Ok a) (Ok b) (Ok z) P Q F R p q found all = all a b z p q found
of_two (Ok a) (Err d) (Ok z) P Q F R p q found all = absurd found
of_two (Err d) y (Ok z) P Q F R p q found all = absurd found
of_two x y (Err e) P Q F R p q found all = tt

pub of_three : {E X Y Z W : Type 0} (x : Result X E) (y : Result Y E) (v : Result Z E) (w : Result W E)
    (P : X → Type 0) (Q : Y → Type 0) (S : Z → Type 0) (F : W → X → Y → Z → Type 0) (R : W → Type 0) → IfOk x P
    → IfOk y Q → IfOk v S → IfOk w (λ z. IsOkAnd x (λ a. IsOkAnd y (λ b. IsOkAnd v (F z a b))))
    → ((a : X) (b : Y) (c : Z) (z : W) → P a → Q b → S c → F z a b c → R z) → IfOk w R
of_three (Ok a) (Ok b) (Ok c) (Ok z) P Q S F R p q s found all = all a b c z p q s found
of_three (Ok a) (Ok b) (Err d) (Ok z) P Q S F R p q s found all = absurd found
of_three (Ok a) (Err d) v (Ok z) P Q S F R p q s found all = absurd found
of_three (Err d) y v (Ok z) P Q S F R p q s found all = absurd found
of_three x y v (Err e) P Q S F R p q s found all = tt

pub of_part : {E X : Type 0} (x : Result X E) (P Q : X → Type 0) → ((a : X) → P a → Q a) → IsOkAnd x P → IsOkAnd x Q
of_part (Ok a) P Q f h = f a h
of_part (Err d) P Q f h = h
