use Rattle.core_tree.specs.Codes as form
use Rattle.path_codes.proofs.below.Steps.labeled.Goals as goal

pub returns : goal.returns
returns g c = rw c.in_ok-point.ensures at (c.in_ok-coded.ensures form.no_more)
