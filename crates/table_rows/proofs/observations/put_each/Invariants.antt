use Rattle.path_states.specs.States.{AreStates}
use Rattle.table_rows.proofs.observations.put_each.Given as goal

abbrev pub invariant-watches : goal.invariant-watches
invariant-watches l = AreStates l.bank l.formula.states
