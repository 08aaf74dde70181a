use Rattle.std.proofs.Common.{◌≡◌, ◌≤◌, ◌+◌, drop}
use Rattle.c_means.specs.Calls.{pointers_in}
use Rattle.run_values.specs.Places.{capped}
use Rattle.run_values.proofs.rooms.pointers.Given as goal

abbrev pub invariant-loop-piece : goal.invariant-loop-piece
invariant-loop-piece l =
    (l.count ≤ 18446744073709551615)
    × (capped (l.count + pointers_in (drop l.piece-index l.pieces)) ≡ capped (pointers_in l.pieces))
