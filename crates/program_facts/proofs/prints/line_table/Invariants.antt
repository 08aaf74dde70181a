use Rattle.std.proofs.Common.{◌≡◌}
use Rattle.program_facts.specs.Prints.{line_table}
use Rattle.program_facts.proofs.prints.line_table.Given as goal

abbrev pub invariant-positions : goal.invariant-positions
invariant-positions l = l.table ≡ line_table l.log l.position
