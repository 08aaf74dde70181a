use Rattle.std.proofs.Common.{◌∙◌}
use Rattle.core_prefix.proofs.MarksBelow.{function_told}
use Rattle.core_prefix.proofs.cutting.function_below.Goals as goal

pub returns : goal.returns
returns c =
    (rw c.as_slice.ensures at c.items_below.ensures) ∙ function_told c.args.bound c.args.function.now
