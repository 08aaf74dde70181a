use Rattle.std.proofs.Common.{◌≡◌, ◌||◌, ℕ, take}
use Rattle.positions.specs.Sets.{has}
use Rattle.positions.proofs.positions.Positions.put_all.Given as goal

abbrev pub invariant-more : goal.invariant-more
invariant-more l = (y : ℕ) → has l.self y ≡ (has l.initial.self y || has (take l.position-index l.more) y)
