use Rattle.std.proofs.Common.{rules}
use Rattle.sl_io.proofs.ShelfLemmas.{Puts-kept}
use Rattle.sl_io.proofs.mem_shelf.MemShelfShelf.put.Goals as goal

pub returns-in-Err-clause-meets : goal.returns-in-Err-clause-meets
returns-in-Err-clause-meets c = Puts-kept _ _ _ _ _ _ _ (record { taken = search rules; get_faults = search rules; put_faults = search rules; long_reads = search rules }) c.in-Err.ensures.err (λ e. absurd (cc e))
