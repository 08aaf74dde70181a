use Rattle.core_callees.proofs.Programs.{numberings_are}
use Rattle.core_callees.proofs.laws.calls_are_those_of_the_program.Goals as goal

pub returns : goal.returns
returns c = record {
  same = λ m ns f profile offsets functions first watched h.
      numberings_are m ns f profile offsets functions first watched h;
}
