use Rattle.std.proofs.Common.{◌≡◌, take}
use Rattle.proof_check.specs.Marked.{marked}
use Rattle.proof_check.specs.Propagation.{negations}
use Rattle.proof_check.proofs.checker.take_negations.Given as goal

abbrev pub invariant-loop-literal : goal.invariant-loop-literal
invariant-loop-literal l = record {
  marks : marked l.marks ≡ negations (take l.literal-index l.clause);
  room : l.marks.variables.items ≡ l.fn.marks.variables.items;
}
