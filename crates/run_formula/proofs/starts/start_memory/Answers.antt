use Rattle.std.proofs.Common.{take}
use Rattle.std.proofs.lemmas.List.{take_all}
use Rattle.path_states.proofs.Paths.{more_of}
use Rattle.run_formula.proofs.Started.{begins_none, begins_more}
use Rattle.run_formula.proofs.starts.start_memory.Goals as goal

pub loop-object-init : goal.loop-object-init
loop-object-init c = begins_none _ _ c.in_ok-memory.memory c.in_ok-memory.ensures

pub loop-object-preserved : goal.loop-object-preserved
loop-object-preserved c =
    let i = c.loop-object.object-index in
    rw (more_of c.args.objects.now i c.object-item.result c.loop-object-test.true c.object-item.is)
    (begins_more _ _ _ _ c.in_ok-memory-2.memory (take i c.args.objects.now) c.object-item.result c.loop-object.invariant
    c.in_ok-memory-2.ensures)

pub returns : goal.returns
returns c = rw (take_all c.loop-object.object-index c.args.objects.now c.loop-object-test.false) at c.loop-object.invariant
