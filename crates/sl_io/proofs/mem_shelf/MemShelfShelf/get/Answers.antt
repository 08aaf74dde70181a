use Rattle.sl_io.proofs.ShelfLemmas.{Gets-got}
use Rattle.sl_io.proofs.mem_shelf.MemShelfShelf.get.Goals as goal

pub returns-clause-meets : goal.returns-clause-meets
returns-clause-meets c =
    rw c.count_get.ensures.counts (Gets-got _ _ _ _ _ (rw (← c.count_get.ensures.counts) c.count_get.ensures.later) (rw (← c.file.ensures) c.copy_within-answer.ensures))
