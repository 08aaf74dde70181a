use Rattle.std.proofs.Common.{◌-◌, ◌≤◌, suc}
use Rattle.c_store.specs.Store.{start}
use Rattle.run_formula.specs.Arguments.{BecomesBy, chosen_in}
use Rattle.run_formula.proofs.arguments.point_all.Given as goal

abbrev pub invariant-pointers : goal.invariant-pointers
invariant-pointers l =
    BecomesBy l.fn.bank l.bank l.count l.fn.memory l.pointed (chosen_in (start l.array) (suc l.array) l.index)
    × (l.index ≤ l.bounds.arguments)

abbrev pub decreases-pointers : goal.decreases-pointers
decreases-pointers l = l.bounds.arguments - l.index
