use Rattle.printf_text.proofs.KindLemmas.{kinds_more}
use Rattle.printf_text.proofs.kind.kinds.Goals as goal

pub loop-piece-preserved : goal.loop-piece-preserved
loop-piece-preserved c = kinds_more _ _ _ _ _ _ c.loop-piece-test.true c.piece-item.is c.in_ok-push_kinds.ensures c.loop-piece.invariant
