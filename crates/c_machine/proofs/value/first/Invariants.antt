use Rattle.std.proofs.Common.{◌≡◌, ◌++◌}
use Rattle.plain_data.specs.Words.{to_bytes, from_bytes}
use Rattle.c_machine.proofs.value.first.Given as goal

abbrev pub invariant-bytes : goal.invariant-bytes
invariant-bytes l = record { all : l.found ++ to_bytes l.left (from_bytes l.rest) ≡ to_bytes l.count (from_bytes l.fn.bytes) }

abbrev pub decreases-bytes : goal.decreases-bytes
decreases-bytes l = l.left
