use Rattle.std.proofs.Common.{◌≤◌, ◌^◌, take}
use Rattle.cdcl.specs.Fits.{IsNumbered}
use Rattle.cdcl.proofs.beginning.room_for.Given as goal

abbrev pub invariant-loop-literal : goal.invariant-loop-literal
invariant-loop-literal l = record {
  small : l.room ≤ 2 ^ 31;
  least : l.fn.least ≤ l.room;
  fits : IsNumbered l.room (take l.literal-index l.literals);
}
