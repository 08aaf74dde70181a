use Rattle.std.proofs.Common.{◌≡◌, ◌++◌}
use Rattle.plain_data.specs.Words.{to_bytes}
use Rattle.c_machine.proofs.value.spelled.Given as goal

abbrev pub invariant-bytes : goal.invariant-bytes
invariant-bytes l = record { all : l.bytes ++ to_bytes l.left l.rest ≡ to_bytes 16 l.number }

abbrev pub decreases-bytes : goal.decreases-bytes
decreases-bytes l = l.left
