use Rattle.std.proofs.Common.{◌≡◌, ℕ, List, Some}
use Rattle.std.specs.Prelude.{slice_get}
use Rattle.format_ends.proofs.parts.nothing_known.Given as goal

abbrev pub invariant-positions : goal.invariant-positions
invariant-positions l = (at : ℕ) (ends : List ℕ) → slice_get l.known at ≡ Some (Some ends) → ⊥
