use Rattle.std.proofs.Common.{length}
use Rattle.term_bank.specs.Values.{Grows}
use Rattle.term_bank.specs.Banks.{IsBank}
use Rattle.term_bank.specs.Under.{IsHeld}
use Rattle.term_bank.specs.Images.{Imaged}
use Rattle.term_bank.proofs.UnderLemmas.{AreHeld}
use Rattle.flat_reads.specs.Flattened.{HasFlat}
use Rattle.flat_reads.specs.Answers.{AreAnswers}
use Rattle.flat_reads.proofs.flatten.flat_roots.Given as goal

abbrev pub invariant-nodes : goal.invariant-nodes
invariant-nodes l = record {
  grows : Grows l.fn.bank l.bank;
  bank : IsBank l.bank;
  answers_are : AreAnswers l.bank l.answers;
  held : IsHeld l.fn.bank (Imaged (HasFlat l.bank) l.images) l.numbers;
  rooted : AreHeld (Imaged (HasFlat l.bank) l.images) l.numbers l.roots;
}

abbrev pub decreases-nodes : goal.decreases-nodes
decreases-nodes l = length l.numbers
