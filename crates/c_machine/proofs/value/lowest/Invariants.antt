use Rattle.std.proofs.Common.{◌≡◌, ◌≤◌, ◌%◌, ◌^◌, drop, length}
use Rattle.plain_data.specs.Words.{from_bytes}
use Rattle.c_machine.proofs.value.lowest.Given as goal

abbrev pub invariant-bytes : goal.invariant-bytes
invariant-bytes l = record {
  within : l.left ≤ length l.bytes;
  low : l.low ≡ from_bytes (drop l.left l.bytes) % 2 ^ 64;
}

abbrev pub decreases-bytes : goal.decreases-bytes
decreases-bytes l = l.left
