use Rattle.std.proofs.Common.{sym, ◌∙◌}
use Rattle.code_steps.proofs.stores.size_in.Goals as goal

pub returns : goal.returns
returns c = c.bytes_as.ensures ∙ sym c.slot_of-slot.ensures.size
