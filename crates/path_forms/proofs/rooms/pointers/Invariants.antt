use Rattle.std.proofs.Common.{◌≡◌, ◌+◌, drop}
use Rattle.c_means.specs.Calls.{pointers_in}
use Rattle.path_forms.proofs.rooms.pointers.Given as goal

abbrev pub invariant-loop-piece : goal.invariant-loop-piece
invariant-loop-piece l = l.count + pointers_in (drop l.piece-index l.pieces) ≡ pointers_in l.pieces
