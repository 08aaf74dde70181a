use Rattle.std.proofs.Common.{subst, ◌≤◌}
use Rattle.sl_io.specs.MemorySinks.{Buffered}
use Rattle.sl_io.proofs.WriteLemmas.{Writes-failed_after}
use Rattle.sl_io.proofs.fail_sink.FailSinkSink.write.Goals as goal

pub returns-in-Some-clause-meets : goal.returns-in-Some-clause-meets
returns-in-Some-clause-meets c =
    let later = subst (λ (sink : Buffered). c.self.inside.sink.faults ≤ sink.faults) c.fail_after.ensures.written c.fail_after.ensures.later in
    rw (c.fail_after.ensures.written, ← c.self.view_is) (Writes-failed_after _ _ _ _ later)
