use Rattle.std.proofs.Common.{◌<◌, ◌-◌}
use Rattle.plain_data.specs.declared.width.Width.TheVariants.{W64}
use Rattle.c_store.specs.Store.{spelt}
use Rattle.term_bank.specs.declared.sort.Sort.TheVariants.{Word}
use Rattle.std.proofs.Common.{◌∷◌, []}
use Rattle.term_bank.specs.Memories.{behind, octets}
use Rattle.term_bank.specs.Shapes.{memory, word}
use Rattle.term_bank.specs.Terms.{IsTerm}
use Rattle.term_bank.specs.Values.{Grows, of_word}
use Rattle.term_bank.specs.Banks.{IsBank}
use Rattle.flat_reads.specs.Flats.{IsFlatOver, HasWorth}
use Rattle.flat_reads.specs.Answers.{AreAnswers}
use Rattle.flat_reads.proofs.words.word_at.Given as goal

abbrev pub invariant-octets : goal.invariant-octets
invariant-octets l = record {
  bank : IsBank l.bank;
  grows : Grows l.fn.bank l.bank;
  answers_are : AreAnswers l.bank l.answers;
  less : l.left < octets l.width;
  term : IsTerm l.bank (Word l.width) l.word;
  value : HasWorth l.bank (λ v. of_word (spelt (octets l.width - l.left) (λ i. (v l.memory).store.bytes (behind (v l.address).word i)) l.left)) l.word;
  flat : IsFlatOver l.bank (memory l.memory ∷ (word W64 l.address ∷ [])) l.word.index;
}

abbrev pub decreases-octets : goal.decreases-octets
decreases-octets l = l.left
