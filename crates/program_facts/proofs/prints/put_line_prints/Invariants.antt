use Rattle.std.proofs.Common.{◌≡◌, take}
use Rattle.program_facts.specs.Entries.{with_all}
use Rattle.program_facts.specs.Prints.{print_entries}
use Rattle.program_facts.proofs.prints.put_line_prints.Given as goal

abbrev pub invariant-lines : goal.invariant-lines
invariant-lines l = l.out ≡ with_all l.initial.out (print_entries l.at l.shown (take l.line-index l.lines))
