use Rattle.std.proofs.Common.{◌≡◌, ◌≤◌, ℕ, drop, length}
use Rattle.std.specs.Ordering.{nat_cmp}
use Rattle.std.specs.BTreeSet.{contains}
use Rattle.assumptions.specs.Noted.{is_defined}
use Rattle.assumptions.proofs.objects.defined_in.Given as goal

abbrev pub invariant-notes : goal.invariant-notes
invariant-notes l =
    (l.left ≤ length l.notes) × ((at : ℕ) → contains nat_cmp l.defined at ≡ is_defined at (drop l.left l.notes))

abbrev pub decreases-notes : goal.decreases-notes
decreases-notes l = l.left
