use Rattle.std.proofs.Common.{◌≡◌, ◌++◌, take}
use Rattle.bitvectors.specs.Blasts.{all_asserted}
use Rattle.bitvectors.proofs.asserting.assert_all.Given as goal

abbrev pub invariant-bits : goal.invariant-bits
invariant-bits l = l.formula ≡ l.fn.formula ++ all_asserted (take l.index l.bits)
