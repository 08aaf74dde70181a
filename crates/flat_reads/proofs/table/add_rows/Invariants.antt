use Rattle.std.proofs.Common.{ℕ, length}
use Rattle.term_bank.specs.Values.{Grows}
use Rattle.term_bank.specs.Banks.{IsBank}
use Rattle.term_bank.specs.Under.{Among, IsHeld, IsOnly, IsBelow}
use Rattle.term_bank.proofs.UnderLemmas.{AreHeld}
use Rattle.flat_reads.specs.Tables.{IsTable, is_listed}
use Rattle.flat_reads.proofs.table.add_rows.Given as goal

abbrev pub invariant-rows : goal.invariant-rows
invariant-rows l = record {
  grows : Grows l.fn.bank l.bank;
  bank : IsBank l.bank;
  table_is : IsTable l.bank l.nodes l.table l.constraints;
  held : IsHeld l.bank (IsOnly (is_listed l.table) l.bank) l.numbers;
  rooted : AreHeld (IsOnly (is_listed l.table) l.bank) l.numbers l.nodes;
  below : (n : ℕ) → Among n l.numbers → IsBelow l.bank l.nodes n;
}

abbrev pub decreases-rows : goal.decreases-rows
decreases-rows l = length l.numbers
