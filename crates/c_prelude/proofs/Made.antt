-- What steps make is the tree that they make by the definition.
use Rattle.std.proofs.Common.{◌≡◌, Option, Some, Result, Ok, Err, IfOk, sym, ◌∙◌}

some_same : {A : Type 0} (x y : A) → Some x ≡ Some y → x ≡ y
some_same x y e = cc

pub made_is : {A E : Type 0} (made : Option A) (e : A) (r : Result A E) → IfOk r (λ x. made ≡ Some x) → made ≡ Some e
    → IfOk r (λ x. x ≡ e)
made_is made e (Ok x) is same = some_same x e (sym is ∙ same)
made_is made e (Err f) is same = tt
