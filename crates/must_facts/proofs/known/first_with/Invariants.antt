use Rattle.std.proofs.Common.{take}
use Rattle.std.specs.Prelude.{not}
use Rattle.std.specs.List.{All}
use Rattle.must_facts.specs.Knowing.{Answers}
use Rattle.must_facts.proofs.known.first_with.Given as goal

abbrev pub invariant-loop-index : goal.invariant-loop-index
invariant-loop-index l = All (Answers (not l.wanted) l.log l.fact) (take l.index l.runs)
