-- Lines put one after the other.
use Rattle.std.proofs.Common.{◌≡◌, ℕ, suc, ◌+◌, ◌-◌, ◌<◌, ◌≤◌, ◌++◌, append_assoc, append-nil, sym, ap, ◌∙◌, arith}
use Rattle.sl_config.specs.Generated.{Text, numbered}

pub numbered_more : (line : ℕ → Text) (text text' whole : Text) (i n : ℕ) → i < n → text' ≡ text ++ line (i + 1) → text ++ numbered line (i + 1) (n - i) ≡ whole
    → text' ++ numbered line (i + 1 + 1) (n - (i + 1)) ≡ whole
unfolding numbered
numbered_more line text text' whole i n h e is =
    let count : n - i ≡ suc (n - (i + 1)) = omega arith in
    let next : i + 1 + 1 ≡ suc (i + 1) = omega arith in
    ap (λ t. t ++ numbered line (i + 1 + 1) (n - (i + 1))) e
    ∙ append_assoc text (line (i + 1)) (numbered line (i + 1 + 1) (n - (i + 1)))
    ∙ ap (λ k. text ++ (line (i + 1) ++ numbered line k (n - (i + 1)))) next
    ∙ ap (λ k. text ++ numbered line (i + 1) k) (sym count) ∙ is

pub numbered_end : (line : ℕ → Text) (text whole : Text) (i n : ℕ) → n ≤ i → text ++ numbered line (i + 1) (n - i) ≡ whole → text ≡ whole
unfolding numbered
numbered_end line text whole i n h is =
    let none : n - i ≡ 0 = omega arith in
    sym (append-nil text) ∙ ap (λ k. text ++ numbered line (i + 1) k) (sym none) ∙ is
