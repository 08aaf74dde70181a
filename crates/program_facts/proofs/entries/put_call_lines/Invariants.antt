use Rattle.std.proofs.Common.{◌≡◌}
use Rattle.plain_data.specs.declared.fact.Fact.TheVariants as fact
use Rattle.program_facts.specs.Entries.{each_line, with_all}
use Rattle.program_facts.proofs.entries.put_call_lines.Given as goal

abbrev pub invariant-lines : goal.invariant-lines
invariant-lines l = l.out ≡ with_all l.initial.out (each_line (λ line. fact.CallIn l.at line) l.index)
