use Rattle.std.proofs.Common.{◌≤◌, ◌++◌, length, reverse, take}
use Rattle.c_grammar.specs.Parts.{Frame}
use Rattle.c_scope.specs.Known.{Knows}
use Rattle.c_scope.proofs.known.Known.undo_all.Given as goal

abbrev pub invariant-undo : goal.invariant-undo
invariant-undo l = record {
  within : l.count ≤ length l.names;
  knows : (outer : Frame) → Knows l.fn.self (reverse l.names ++ outer) → Knows l.self (reverse (take l.count l.names) ++ outer);
}

abbrev pub decreases-undo : goal.decreases-undo
decreases-undo l = l.count
