use Rattle.core_marks.specs.Marks.{one_side}
use Rattle.plain_data.specs.declared.run.Side.TheVariants.{Case}
use Rattle.core_marks.proofs.Loops.{Leads}
use Rattle.core_marks.proofs.operators.put_cases.Given as goal

abbrev pub invariant-cases : goal.invariant-cases
invariant-cases l = Leads (λ z. one_side l.at (Case z)) l.cases l.value-index l.initial.out l.out
