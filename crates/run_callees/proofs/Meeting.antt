-- Places met one behind the other.
use Rattle.std.proofs.Common.{◌≡◌, ◌+◌, ◌-◌, ℕ, zero, suc, refl, ap, ◌∙◌, arith}
use Rattle.core_tree.specs.States.{Output, Done, plain, meet, meets}

pub met_all : (p n : ℕ) (d e f : Done Output) → (n ≡ 0 → ⊥) → e ≡ meet plain p d
    → f ≡ meets plain (p + 1) (n - 1) e → f ≡ meets plain p n d
met_all p zero d e f some is more = absurd (some refl)
met_all p (suc n) d e f some is more =
    let one : suc n - 1 ≡ n = omega arith in
    let next : p + 1 ≡ suc p = omega arith in
    more ∙ ap (λ k. meets plain (p + 1) k e) one ∙ ap (λ q. meets plain q n e) next ∙ ap (meets plain (suc p) n) is
