use Rattle.std.proofs.Common.{take}
use Rattle.std.specs.List.{filter}
use Rattle.proof_check.specs.Propagation.{isnt_false}
use Rattle.proof_check.specs.Marked.{marked}
use Rattle.proof_check.proofs.ReadingLemmas.{SoFar, HasRoom}
use Rattle.proof_check.proofs.marks.Marks.read.Given as goal

abbrev pub invariant-loop-literal : goal.invariant-loop-literal
invariant-loop-literal l = record {
  found : SoFar (filter (isnt_false (marked l.self)) (take l.literal-index l.clause)) l.candidate;
  room : HasRoom l.self.variables.items l.candidate;
}
