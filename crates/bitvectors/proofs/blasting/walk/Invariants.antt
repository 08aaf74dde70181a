use Rattle.std.proofs.Common.{ℕ, length}
use Rattle.term_bank.specs.Under.{Among, IsHeld, IsOnly}
use Rattle.term_bank.proofs.UnderLemmas.{AreHeld}
use Rattle.bitvectors.specs.Signals.{AreKnown, Extends, IsSignalled, is_plain}
use Rattle.bitvectors.proofs.blasting.walk.Given as goal

abbrev pub invariant-nodes : goal.invariant-nodes
invariant-nodes l = record {
  steps : Extends l.fn.gates l.gates l.fn.inputs l.inputs;
  known : AreKnown l.bank l.gates l.inputs l.signals;
  held : IsHeld l.bank (IsSignalled l.bank l.gates l.inputs l.signals) l.numbers;
  rooted : AreHeld (IsSignalled l.bank l.gates l.inputs l.signals) l.numbers l.roots;
  plain : (n : ℕ) → Among n l.numbers → IsOnly is_plain l.bank n;
}

abbrev pub decreases-nodes : goal.decreases-nodes
decreases-nodes l = length l.numbers
