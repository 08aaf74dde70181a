use Rattle.sl_io.proofs.WriteLemmas.{Told-from_writes}
use Rattle.sl_io.proofs.sink.tell.Goals as goal

pub returns : goal.returns
returns g c = Told-from_writes _ _ _ _ c.write.ensures
