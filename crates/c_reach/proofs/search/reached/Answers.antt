use Rattle.std.proofs.Common.{List, length, ap, ◌∙◌}
use Rattle.c_language.specs.Scopes.{Name}
use Rattle.c_names.proofs.Loops as parts
use Rattle.c_reach.specs.declared.search.Reaching.{Reaching}
use Rattle.c_reach.specs.declared.summaries.FunctionNotes.{FunctionNotes}
use Rattle.c_reach.specs.Reaching.{steps, all_called}
use Rattle.c_reach.proofs.SameAsDefined.{steps_add}
use Rattle.c_reach.proofs.search.reached.Goals as goal

pub loop-function-preserved : goal.loop-function-preserved
loop-function-preserved c =
    let p = c.args.profile.now in
    let n = c.args.named.now in
    parts.goes-on (λ (fs : List FunctionNotes) (z : Reaching). steps p n (all_called fs) z)
    {step = (λ (f : FunctionNotes) (z : Reaching). steps p n (length f.body.called) z)}
    (λ f fs z. steps_add p n (length f.body.called) (all_called fs) z) c.args.functions.now
    c.loop-function.function-index c.function-item.result c.get.result.now c.loop-function.state
    c.step_for_each.new.state c.loop-function-test.true c.function-item.is c.get.ensures
    (c.in_ok-step_for_each.ensures
    ∙ ap (λ (names : List Name). steps p n (length names) c.loop-function.state) c.as_slice.ensures)
    c.loop-function.invariant
