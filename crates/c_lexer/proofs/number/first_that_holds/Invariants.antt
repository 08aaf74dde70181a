use Rattle.std.proofs.Common.{◌≡◌, length}
use Rattle.c_lexer.specs.Number.{first_that_holds}
use Rattle.c_lexer.proofs.number.first_that_holds.Given as goal

abbrev pub invariant-loop-types : goal.invariant-loop-types
invariant-loop-types l = first_that_holds l.types l.value ≡ first_that_holds l.initial.types l.value

abbrev pub decreases-loop-types : goal.decreases-loop-types
decreases-loop-types l = length l.types
