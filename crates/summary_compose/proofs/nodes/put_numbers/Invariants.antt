use Rattle.std.proofs.Common.{◌≡◌, ◌++◌, take}
use Rattle.summary_compose.specs.Renaming.{each_of, number_node}
use Rattle.summary_compose.proofs.nodes.put_numbers.Given as goal

abbrev pub invariant-loop-number : goal.invariant-loop-number
invariant-loop-number l = l.nodes ≡ l.fn.nodes ++ each_of number_node (take l.number-index l.numbers)
