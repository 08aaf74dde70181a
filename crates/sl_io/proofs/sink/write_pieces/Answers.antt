use Rattle.std.proofs.Common.{take_all, []}
use Rattle.std.proofs.lemmas.Result.{err_from_is_err_and}
use Rattle.sl_io.proofs.WriteLemmas.{Writes-none, Writes-longer, Writes-then, pieces_more, pieces_at}
use Rattle.sl_io.proofs.sink.write_pieces.Goals as goal

pub loop-piece-init : goal.loop-piece-init
loop-piece-init g c = Writes-none _ _

pub loop-piece-preserved : goal.loop-piece-preserved
loop-piece-preserved g c = rw (pieces_more _ _ _ (record { ref_ptr = (0, 0); now = [] }) c.loop-piece-test.true) (Writes-then _ _ _ _ _ _ _ c.loop-piece.invariant c.in_ok-write.ensures)

pub returns : goal.returns
returns g c = rw (← take_all _ _ c.loop-piece-test.false) c.loop-piece.invariant

pub returns-in_err-write : goal.returns-in_err-write
returns-in_err-write g c =
    let p = err_from_is_err_and c.from_residual.result c.from_residual.ensures.1 in
    rw (p.1, pieces_at _ _ _ (record { ref_ptr = (0, 0); now = [] }) c.loop-piece-test.true) (Writes-longer _ _ _ _ _ _ (Writes-then _ _ _ _ _ _ _ c.loop-piece.invariant c.in_err-write.ensures))
