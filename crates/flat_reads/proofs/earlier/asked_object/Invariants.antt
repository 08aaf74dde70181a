use Rattle.std.proofs.Common.{◌≤◌}
use Rattle.term_bank.specs.Under.{IsUnder}
use Rattle.term_bank.specs.Shapes.{IsNode, memory}
use Rattle.flat_reads.specs.Objects.{HasSameObject}
use Rattle.flat_reads.proofs.earlier.asked_object.Given as goal

abbrev pub invariant-changes : goal.invariant-changes
invariant-changes l = record {
  stands : IsNode l.bank (memory l.earliest);
  same : HasSameObject l.bank l.question l.fn.memory l.earliest;
  most : l.earliest ≤ l.fn.memory;
  under : IsUnder l.bank l.fn.memory l.earliest;
}

abbrev pub decreases-changes : goal.decreases-changes
decreases-changes l = l.earliest
