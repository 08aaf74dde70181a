use Rattle.core_marks.specs.Marks.{code_marks}
use Rattle.core_marks.proofs.Loops.{Leads}
use Rattle.core_marks.proofs.codes.+marking.Given as goal

abbrev pub invariant-put_items-loop-item : goal.invariant-put_items-loop-item
invariant-put_items-loop-item l = Leads code_marks l.items l.item-index l.initial.out l.out
