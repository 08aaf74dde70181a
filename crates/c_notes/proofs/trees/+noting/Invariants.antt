use Rattle.std.proofs.Common.{IfOk, drop}
use Rattle.c_notes.proofs.OnCalls.{HasLed}
use Rattle.c_notes.proofs.trees.+noting.Given as goal

abbrev pub invariant-all_arguments-loop-item : goal.invariant-all_arguments-loop-item
invariant-all_arguments-loop-item l =
    IfOk l.all (λ c. HasLed l.profile l.fn.callee l.items (drop l.item-index l.items) l.fn.scope c l.scope)
