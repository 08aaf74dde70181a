use Rattle.std.proofs.Common.{map, drop}
use Rattle.core_tree.specs.Values.{value}
use Rattle.log_language.proofs.OnValues.{ValuesLead}
use Rattle.log_language.proofs.values.+values.Given as goal

abbrev pub invariant-tell_values-loop-e : goal.invariant-tell_values-loop-e
invariant-tell_values-loop-e l = ValuesLead (map value l.es) (map value (drop l.e-index l.es)) l.fn.told l.told
