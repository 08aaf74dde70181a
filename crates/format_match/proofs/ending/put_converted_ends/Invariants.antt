use Rattle.std.proofs.Common.{◌≡◌, ◌||◌, ℕ, take, map}
use Rattle.positions.specs.Sets.{has}
use Rattle.format_match.proofs.ending.put_converted_ends.Given as goal

abbrev pub invariant-splits : goal.invariant-splits
invariant-splits l = (y : ℕ) → has l.out y ≡ (has l.initial.out y || has (map (λ s. s.end) (take l.split-index l.split-items)) y)
