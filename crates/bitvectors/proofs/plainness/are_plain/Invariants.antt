use Rattle.std.proofs.Common.{ℕ, length}
use Rattle.term_bank.specs.Under.{Among, IsBelow, IsHeld, IsOnly}
use Rattle.term_bank.proofs.UnderLemmas.{AreHeld}
use Rattle.bitvectors.specs.Signals.{is_plain}
use Rattle.bitvectors.proofs.plainness.are_plain.Given as goal

abbrev pub invariant-nodes : goal.invariant-nodes
invariant-nodes l = record {
  held : IsHeld l.bank (IsOnly is_plain l.bank) l.numbers;
  rooted : AreHeld (IsOnly is_plain l.bank) l.numbers l.roots;
  below : (n : ℕ) → Among n l.numbers → IsBelow l.bank l.roots n;
}

abbrev pub decreases-nodes : goal.decreases-nodes
decreases-nodes l = length l.numbers
