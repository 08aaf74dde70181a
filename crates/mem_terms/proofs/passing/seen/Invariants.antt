use Rattle.std.proofs.Common.{◌≤◌}
use Rattle.term_bank.specs.Memories.{octets}
use Rattle.term_bank.specs.Under.{IsUnder}
use Rattle.term_bank.specs.Shapes.{IsNode, memory}
use Rattle.mem_terms.specs.Reads.{ReadsAlike}
use Rattle.mem_terms.proofs.passing.seen.Given as goal

abbrev pub invariant-changes : goal.invariant-changes
invariant-changes l = record {
  stands : IsNode l.bank (memory l.index);
  alike : ReadsAlike l.bank (octets l.width) l.address l.fn.memory.index l.index;
  most : l.index ≤ l.fn.memory.index;
  under : IsUnder l.bank l.fn.memory.index l.index;
}

abbrev pub decreases-changes : goal.decreases-changes
decreases-changes l = l.index
