use Rattle.std.proofs.Common.{length}
use Rattle.term_bank.specs.Values.{Grows}
use Rattle.term_bank.specs.Banks.{IsBank}
use Rattle.term_bank.specs.Under.{IsHeld}
use Rattle.term_bank.specs.Images.{Imaged}
use Rattle.term_bank.specs.Bindings.{HasImage}
use Rattle.term_bank.proofs.UnderLemmas.{AreHeld}
use Rattle.term_bank.proofs.bank.Bank.substitute.Given as goal

abbrev pub invariant-nodes : goal.invariant-nodes
invariant-nodes l = record {
  grows : Grows l.fn.self l.self;
  bank : IsBank l.self;
  held : IsHeld l.fn.self (Imaged (HasImage l.fn.self l.self l.binding) l.images) l.numbers;
  rooted : AreHeld (Imaged (HasImage l.fn.self l.self l.binding) l.images) l.numbers l.roots;
}

abbrev pub decreases-nodes : goal.decreases-nodes
decreases-nodes l = length l.numbers
