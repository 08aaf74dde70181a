use Rattle.std.proofs.Common.{◌≡◌, ◌++◌, length}
use Rattle.c_language.specs.Compatible.{composite_from}
use Rattle.c_language.proofs.tables.Tables.composite.Given as goal

abbrev pub invariant-steps : goal.invariant-steps
invariant-steps l =
    l.derivations ++ composite_from l.self l.left l.right
    ≡ composite_from l.self l.t.derivations l.u.derivations

abbrev pub decreases-steps : goal.decreases-steps
decreases-steps l = length l.left
