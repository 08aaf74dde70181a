use Rattle.std.proofs.Common.{◌≡◌, ◌++◌, take}
use Rattle.program_facts.specs.Entries.{all_watched}
use Rattle.program_facts.proofs.entries.put_variables.Given as goal

abbrev pub invariant-variables : goal.invariant-variables
invariant-variables l = l.out ≡ l.initial.out ++ all_watched l.number (take l.index l.shown)
