-- States of the core and of C, one behind the other.
use Rattle.std.proofs.Common.{◌≡◌, ℕ, ℤ, Bool, true, false, cond, Ok, Err}
use Rattle.std.proofs.Common.{refl, ap, ◌∙◌}
use Rattle.c_language.specs.Integers.{is_zero}
use Rattle.c_language.specs.Operators.{Answer}
use Rattle.c_means.specs.Parts.{State}
use Rattle.c_means.specs.Parts as c
use Rattle.c_means.specs.Expressions as forms
use Rattle.core_tree.specs.States.{Output, plain, Taking, Done, Outcome, ◌>>=◌, or_stop, on_branch}
use Rattle.elaborate.specs.Means.{as_done, as_found}

-- what follows a part follows its core
pub then_same :
    {A B : Type 0} (o : c.Outcome A) (f : A × State → c.Outcome B) (g : A × Done Output → Outcome Output B)
    → ((x : A) (d : State) → g (x, as_done d) ≡ as_found (f (x, d)))
    → (as_found o >>= g) ≡ as_found (c.◌>>=◌ o f)
then_same (Ok x) f g h = h x.0 x.1
then_same (Err d) f g h = refl

pub or_stop_same : (at : ℕ) (a : Answer) (d : State) → or_stop at a (as_done d) ≡ as_found (c.or_stop at a d)
or_stop_same at (Ok z) d = refl
or_stop_same at (Err u) d = refl

pub test_same : {A : Type 0} (b : Bool) (x y : Outcome Output A) (x' y' : c.Outcome A) → x ≡ as_found x' → y ≡
    as_found y' → cond b x y ≡ as_found (cond b x' y')
test_same true x y x' y' h i = h
test_same false x y x' y' h i = i

branch_by :
    {A : Type 0} (b : Bool) (at : ℕ) (f : Bool → State → c.Outcome A) (g : Bool → Done Output → Outcome Output A)
    (d : State)
    → ((b : Bool) (d : State) → g b (as_done d) ≡ as_found (f b d)) → (x : ℤ)
    → on_branch plain at x g (as_done d) ≡ as_found (forms.on_branch at x f d)
branch_by b at f g d h x = test_same (is_zero x) _ _ _ _ (h false _) (h true _)

-- a branch on a condition
pub branch_same :
    {A : Type 0} (t : Taking Output) (at : ℕ) (z : ℤ) (f : Bool → State → c.Outcome A)
    (g : Bool → Done Output → Outcome Output A) (d : State)
    → t ≡ plain → ((b : Bool) (d : State) → g b (as_done d) ≡ as_found (f b d))
    → on_branch t at z g (as_done d) ≡ as_found (forms.on_branch at z f d)
branch_same t at z f g d e h = ap (λ t. on_branch t at z g (as_done d)) e ∙ branch_by true at f g d h z
