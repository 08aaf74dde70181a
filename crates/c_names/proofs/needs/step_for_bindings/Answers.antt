use Rattle.std.proofs.Common.{◌*◌, List, length, refl}
use Rattle.c_means.specs.Names.{Binding}
use Rattle.c_names.specs.declared.needs.Needing.{Needing}
use Rattle.c_names.specs.Needs.{steps}
use Rattle.c_names.proofs.Loops.{goes-on}
use Rattle.c_names.proofs.SameNeeds.{steps_one_more}
use Rattle.c_names.proofs.needs.step_for_bindings.Goals as goal

pub loop-binding-preserved : goal.loop-binding-preserved
loop-binding-preserved c =
    let xs = c.args.outers.now in
    let m = length c.args.uses.now in
    goes-on (λ (bs : List Binding) (z : Needing). steps xs (length bs * m) z)
    {step = (λ (b : Binding) (z : Needing). steps xs m z)} (λ b bs z. steps_one_more xs (length bs) m z)
    c.args.bindings.now c.loop-binding._binding-index c._binding-item.result c._binding-item.result
    c.loop-binding.state c.step_for_each.new.state c.loop-binding-test.true c._binding-item.is refl
    c.in_ok-step_for_each.ensures c.loop-binding.invariant
