-- Offsets in order, each once.
use Rattle.std.specs.Prelude.{ℕ, List, [], ◌∷◌}
use Rattle.c_means.specs.Runs.{with_offset}

-- one after the other put where it belongs
abbrev pub offsets_from : List ℕ → List ℕ → List ℕ
offsets_from ats [] = ats
offsets_from ats (x ∷ xs) = offsets_from (with_offset x ats) xs

abbrev pub offsets_in : List ℕ → List ℕ
offsets_in xs = offsets_from [] xs
