use Rattle.std.proofs.Common.{◌≡◌, ◌≤◌, ◌<◌, ◌^◌, ℕ, List, Some}
use Rattle.std.specs.List.{slice_get}
use Rattle.cnf_core.specs.Literal.{Literal}
use Rattle.cdcl.specs.Fits.{IsNumbered}
use Rattle.cdcl.proofs.beginning.room_from.Given as goal

abbrev pub invariant-loop-index : goal.invariant-loop-index
invariant-loop-index l = record {
  small : l.room ≤ 2 ^ 31;
  least : l.fn.least ≤ l.room;
  fits : (i : ℕ) (c : List Literal) → l.start ≤ i → i < l.index → slice_get l.clauses i ≡ Some c → IsNumbered l.room c;
}
