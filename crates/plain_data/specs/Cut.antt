-- A list of items, cut where each row ends.
use Rattle.std.specs.Prelude.{◌≡◌, ◌≤◌, ℕ, zero, suc, List, [], ◌∷◌, length, slice_range, slice_index}

-- the rows from a start on
abbrev pub cut : {X : Type 0} → List X → ℕ → List ℕ → List (List X)
cut items start [] = []
cut items start (end ∷ ends) = slice_range items start end ∷ cut items end ends

-- the ends rise up to the last item
abbrev pub IsCut : {X : Type 0} → List X → ℕ → List ℕ → Type 0
IsCut items start [] = start ≡ length items
IsCut items start (end ∷ ends) = (start ≤ end) × IsCut items end ends

-- a row starts where the one before it ends
abbrev pub start_of : ℕ → List ℕ → ℕ → ℕ
start_of start ends zero = start
start_of start ends (suc index) = slice_index ends index
