-- Where the tokens of a source stand in it.
use Rattle.std.specs.Prelude.{ℕ, ◌<◌, ◌≤◌, List, [], ◌∷◌, ⊤}
use Rattle.c_language.specs.declared.token.Token.{Token}

-- Tokens stand one behind another between two bytes of a source, and each takes a byte at least. So no two begin at one
-- byte.
abbrev pub StandInOrder : ℕ → ℕ → List Token → Type 0
StandInOrder from end [] = ⊤
StandInOrder from end (t ∷ ts) = (from ≤ t.start) × (t.start < t.end) × (t.end ≤ end) × StandInOrder t.end end ts
