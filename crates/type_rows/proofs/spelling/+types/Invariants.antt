use Rattle.std.proofs.Common.{◌+◌, ◌*◌}
use denote.Text.{Utf8}
use denote.Shadow.{shadow}
use Rattle.type_rows.proofs.spelling.+types.Given as goal

abbrev pub decreases-put_parameters : goal.decreases-put_parameters
decreases-put_parameters l = 4 * l.number + 4

abbrev pub decreases-put_signature : goal.decreases-put_signature
decreases-put_signature l = 4 * l.below + 1

abbrev pub decreases-put_derivation : goal.decreases-put_derivation
decreases-put_derivation l = 4 * l.below + 2

abbrev pub decreases-put_below : goal.decreases-put_below
decreases-put_below l = 4 * l.below + 3

-- what stands in front of a parameter is text
abbrev pub invariant-put_parameters-loop-parameter : goal.invariant-put_parameters-loop-parameter
invariant-put_parameters-loop-parameter l = shadow (Utf8 l.gap)
