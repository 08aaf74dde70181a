use Rattle.std.proofs.Common.{◌≡◌, ◌≤◌, ◌-◌, drop, take}
use Rattle.cdcl.proofs.asking.steps_between.Given as goal

abbrev pub invariant-loop-index : goal.invariant-loop-index
invariant-loop-index l = record {
  copied : l.copy ≡ take (l.index - l.start) (drop l.start l.steps);
  within : l.index ≤ l.fn.end;
}
