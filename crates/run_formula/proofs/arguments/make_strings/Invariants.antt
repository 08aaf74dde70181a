use Rattle.std.proofs.Common.{◌-◌, ◌≤◌}
use Rattle.run_formula.specs.Arguments.{strings_in}
use Rattle.run_formula.specs.Starts.{Becomes}
use Rattle.run_formula.proofs.arguments.make_strings.Given as goal

abbrev pub invariant-strings : goal.invariant-strings
invariant-strings l =
    Becomes l.fn.bank l.bank l.fn.memory l.made (strings_in l.bounds.outside l.fn.place l.index) × (l.index ≤ l.bounds.arguments)

abbrev pub decreases-strings : goal.decreases-strings
decreases-strings l = l.bounds.arguments - l.index
