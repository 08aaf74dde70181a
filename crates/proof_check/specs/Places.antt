-- Places in a list of variables.
use Rattle.std.specs.Prelude.{ℕ, zero, suc, cond, eqb, List, [], ◌∷◌}

-- where a variable stands, or the length where it stands nowhere
abbrev pub place_of : List ℕ → ℕ → ℕ
place_of [] v = zero
place_of (x ∷ xs) v = cond (eqb x v) zero (suc (place_of xs v))
