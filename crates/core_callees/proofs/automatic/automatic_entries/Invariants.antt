use Rattle.std.proofs.Common.{◌≡◌, [], drop}
use Rattle.core_callees.specs.Watching.{automatic_over}
use Rattle.core_callees.proofs.automatic.automatic_entries.Given as goal

abbrev pub invariant-loop-block : goal.invariant-loop-block
invariant-loop-block l = automatic_over (drop l.block-index l.blocks) l.found.items ≡ automatic_over l.blocks []
