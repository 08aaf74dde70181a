use Rattle.core_marks.specs.Marks.{value_marks}
use Rattle.core_marks.proofs.Loops.{Leads}
use Rattle.core_marks.proofs.values.+marking.Given as goal

abbrev pub invariant-put_values-loop-item : goal.invariant-put_values-loop-item
invariant-put_values-loop-item l = Leads value_marks l.items l.item-index l.initial.out l.out
