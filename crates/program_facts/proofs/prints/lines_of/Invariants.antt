use Rattle.std.proofs.Common.{ℕ, take}
use Rattle.program_facts.specs.Prints.{IsAmongLines}
use Rattle.program_facts.proofs.prints.lines_of.Given as goal

abbrev pub invariant-starts : goal.invariant-starts
invariant-starts l = (k : ℕ) → IsAmongLines l.table (take l.start-index l.starts) k l.lines
