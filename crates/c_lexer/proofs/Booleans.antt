-- Tests that fail.
use Rattle.std.proofs.Common.{◌≡◌, Bool, true, false, refl}

pub false_of : (b : Bool) → (b ≡ true → ⊥) → false ≡ b
false_of true h = absurd (h refl)
false_of false h = refl
