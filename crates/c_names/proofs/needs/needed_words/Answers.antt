use Rattle.std.proofs.Common.{◌*◌, List, length}
use Rattle.c_names.specs.declared.needs.Needing.{Needing}
use Rattle.c_names.specs.declared.summaries.Names.{Names}
use Rattle.c_names.specs.Needs.{steps, all_uses}
use Rattle.c_names.proofs.Loops.{goes-on}
use Rattle.c_names.proofs.SameNeeds.{steps_add}
use Rattle.c_names.proofs.needs.needed_words.Goals as goal

pub loop-names-preserved : goal.loop-names-preserved
loop-names-preserved c =
    let xs = c.args.outers.now in
    goes-on (λ (ns : List Names) (z : Needing). steps xs (all_uses ns) z)
    {step = (λ (n : Names) (z : Needing). steps xs (length n.declares * length n.uses) z)}
    (λ n ns z. steps_add xs (length n.declares * length n.uses) (all_uses ns) z) xs c.loop-names.names-index
    c.names-item.result c.get.result.now c.loop-names.state c.step_for_names.new.state c.loop-names-test.true
    c.names-item.is c.get.ensures c.in_ok-step_for_names.ensures c.loop-names.invariant
