-- The end of a loop over a list, where what remains computes the whole.
use Rattle.std.proofs.Common.{◌≡◌, ℕ, ◌≤◌, List, [], length, drop, sym, ap, ◌∙◌}
use Rattle.std.proofs.lemmas.List.{drop_all}

pub ends : {A W : Type 0} (g : List A → W) (xs : List A) (i : ℕ) {v w : W} → g [] ≡ v → length xs ≤ i →
    g (drop i xs) ≡ w → v ≡ w
ends g xs i none over whole = sym none ∙ ap g (sym (drop_all i xs over)) ∙ whole
