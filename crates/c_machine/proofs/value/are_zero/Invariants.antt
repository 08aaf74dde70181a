use Rattle.std.proofs.Common.{◌≡◌, ◌≤◌, drop, length, pos}
use Rattle.plain_data.specs.Words.{from_bytes}
use Rattle.c_language.specs.Integers.{is_zero}
use Rattle.c_machine.proofs.value.are_zero.Given as goal

abbrev pub invariant-bytes : goal.invariant-bytes
invariant-bytes l = record {
  within : l.left ≤ length l.bytes;
  zero : l.zero ≡ is_zero (pos (from_bytes (drop l.left l.bytes)));
}

abbrev pub decreases-bytes : goal.decreases-bytes
decreases-bytes l = l.left
