use Rattle.std.proofs.Common.{◌≡◌, drop}
use Rattle.c_means.specs.Calls.{automatic_of}
use Rattle.core_callees.proofs.automatic.insert_automatic.Given as goal

abbrev pub invariant-loop-entry : goal.invariant-loop-entry
invariant-loop-entry l =
    automatic_of (drop l.entry-index l.entries) l.found.items ≡ automatic_of l.fn.entries l.fn.found.items
