use Rattle.std.proofs.Common.{take, Ok}
use Rattle.std.specs.List.{flat_map}
use Rattle.sl_io.specs.Writes.{Writes}
use Rattle.sl_io.specs.declared.faults.SinkFault.{SinkFault}
use Rattle.sl_io.proofs.sink.write_pieces.Given as goal

-- the pieces up to this one were written
abbrev pub invariant-loop-piece : goal.invariant-loop-piece
invariant-loop-piece g l = Writes {T = Unit {0}} {E = SinkFault} (g.O.Sink.state l.fn.out) (g.O.Sink.state l.out) (flat_map (λ piece. piece.now) (take l.piece-index l.pieces)) (Ok tt)
