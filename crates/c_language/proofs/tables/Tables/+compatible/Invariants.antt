use Rattle.std.proofs.Common.{◌≡◌, ◌+◌, ◌*◌, length}
use Rattle.c_language.specs.Compatible.{signatures_at, derivations_agree, parameters_agree, parameters_at}
use Rattle.c_language.proofs.tables.Tables.+compatible.Given as goal

abbrev pub decreases-signatures_agree : goal.decreases-signatures_agree
decreases-signatures_agree l = 8 * l.depth

abbrev pub decreases-step_agrees : goal.decreases-step_agrees
decreases-step_agrees l = 8 * l.depth + 1

abbrev pub decreases-derivations_agree : goal.decreases-derivations_agree
decreases-derivations_agree l = 8 * l.depth + 2

abbrev pub decreases-unqualified_agree : goal.decreases-unqualified_agree
decreases-unqualified_agree l = 8 * l.depth + 3

abbrev pub decreases-parameters_agree : goal.decreases-parameters_agree
decreases-parameters_agree l = 8 * l.depth + 4

abbrev pub decreases-prototypes_agree : goal.decreases-prototypes_agree
decreases-prototypes_agree l = 8 * l.depth + 5

abbrev pub invariant-derivations_agree-steps : goal.invariant-derivations_agree-steps
invariant-derivations_agree-steps l =
    derivations_agree (signatures_at l.depth l.self) l.t l.u l.left l.right
    ≡ derivations_agree (signatures_at l.depth l.self) l.t l.u l.ds l.es

abbrev pub decreases-derivations_agree-steps : goal.decreases-derivations_agree-steps
decreases-derivations_agree-steps l = length l.left

abbrev pub invariant-parameters_agree-types : goal.invariant-parameters_agree-types
invariant-parameters_agree-types l =
    parameters_agree (parameters_at l.depth l.self) l.left l.right
    ≡ parameters_agree (parameters_at l.depth l.self) l.ts l.us

abbrev pub decreases-parameters_agree-types : goal.decreases-parameters_agree-types
decreases-parameters_agree-types l = length l.left
