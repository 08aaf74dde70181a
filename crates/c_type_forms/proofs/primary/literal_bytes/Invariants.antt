use Rattle.std.proofs.Common.{◌≡◌, ◌+◌, suc, drop}
use Rattle.c_language.specs.Typing.{total}
use Rattle.c_type_forms.proofs.primary.literal_bytes.Given as goal

abbrev pub invariant-loop-piece : goal.invariant-loop-piece
invariant-loop-piece l = l.bytes + total (drop l.piece-index l.pieces) ≡ suc (total l.pieces)
