use Rattle.std.proofs.Common.{ℕ, ◌<◌, length}
use Rattle.term_bank.specs.Under.{Among, In, IsHeld, IsBelow}
use Rattle.term_bank.proofs.UnderLemmas.{AreHeld, limit}
use Rattle.term_bank.proofs.under.nodes_under.Given as goal

abbrev pub invariant-nodes : goal.invariant-nodes
invariant-nodes l = record {
  inside : (q : ℕ) → In l.pending q → q < length l.bank;
  held : IsHeld l.bank (In l.pending) l.numbers;
  rooted : AreHeld (In l.pending) l.numbers l.roots;
  below_pending : (q : ℕ) → In l.pending q → IsBelow l.bank l.roots q;
  below_numbers : (q : ℕ) → Among q l.numbers → IsBelow l.bank l.roots q;
}

abbrev pub decreases-nodes : goal.decreases-nodes
decreases-nodes l = limit l.pending.keys
