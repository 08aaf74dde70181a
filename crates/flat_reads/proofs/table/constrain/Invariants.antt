use Rattle.std.proofs.Common.{◌≡◌, ◌<◌, ℕ, List, Some}
use Rattle.std.specs.Prelude.{slice_get}
use Rattle.term_bank.specs.declared.sort.Node.{Node}
use Rattle.term_bank.specs.Values.{Grows}
use Rattle.term_bank.specs.Banks.{IsBank}
use Rattle.flat_reads.specs.declared.table.Row.{Row}
use Rattle.flat_reads.specs.Tables.{IsRow, IsTable, IsAgreed}
use Rattle.flat_reads.proofs.table.constrain.Given as goal

abbrev pub invariant-loop-other : goal.invariant-loop-other
invariant-loop-other l = record {
  grows : Grows l.fn.bank l.bank;
  bank : IsBank l.bank;
  keeps : (ps : List Node) → IsTable l.fn.bank ps l.table l.fn.constraints → IsRow l.fn.bank ps l.row → IsTable l.bank ps l.table l.constraints;
  agreed : (i : ℕ) (x : Row) → i < l.other-index → slice_get l.table i ≡ Some x → IsAgreed l.bank l.constraints x l.row;
}
