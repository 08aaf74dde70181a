use Rattle.std.proofs.Common.{arith}
use Rattle.sl_io.proofs.ShelfLemmas.{Puts-kept}
use Rattle.sl_io.proofs.fail_shelf.FailShelfShelf.put.Goals as goal

pub returns-then-next_fails-clause-meets : goal.returns-then-next_fails-clause-meets
returns-then-next_fails-clause-meets c =
    rw (← c.next_fails.ensures.shelf) (Puts-kept _ _ _ _ _ _ _ c.fail_put.ensures.later c.fail_put.ensures.files
    (λ _. rw c.fail_put.ensures.counts (omega arith)))
