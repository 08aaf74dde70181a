use Rattle.std.proofs.Common.{◌+◌, drop, subst}
use Rattle.printf_text.specs.Texts.{HaveKinds, kinds, piece_kinds, text_of}
use Rattle.printf_text.proofs.Writing.{IsWritten, IsWritten-more, HaveKinds-first, next_piece}
use Rattle.printf_text.proofs.printing.written.Goals as goal

pub write_piece-requires : goal.write_piece-requires
write_piece-requires c =
    let pieces = c.as_slice-piece-items.result.now in
    let i = c.loop-piece.piece-index in
    let next = next_piece pieces i c.piece-item.result c.loop-piece-test.true c.piece-item.is in
    HaveKinds-first (piece_kinds c.piece-item.result) (kinds (drop (i + 1) pieces)) c.loop-piece.rest.now
    (subst (λ ps. HaveKinds (kinds ps) c.loop-piece.rest.now) next c.loop-piece.invariant.kinds_are)

pub loop-piece-preserved : goal.loop-piece-preserved
loop-piece-preserved c =
    let pieces = c.as_slice-piece-items.result.now in
    let i = c.loop-piece.piece-index in
    let next = next_piece pieces i c.piece-item.result c.loop-piece-test.true c.piece-item.is in
    rw (c.in_ok-rest.ensures.text, c.in_ok-rest.ensures.rest)
    (IsWritten-more _ c.piece-item.result (drop (i + 1) pieces) c.loop-piece.out c.loop-piece.rest.now (subst (λ ps. IsWritten (text_of c.args.pieces.now c.args.args.now) ps c.loop-piece.out c.loop-piece.rest.now) next c.loop-piece.invariant))
