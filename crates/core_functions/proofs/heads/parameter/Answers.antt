use Rattle.std.proofs.Common.{refl}
use Rattle.core_functions.proofs.Objects.{object}
use Rattle.core_functions.proofs.heads.parameter.Goals as goal

pub returns : goal.returns
returns c =
    object c.args.scope.now c.args.entry.now c.tables.result.now c.stored_as-stored.result _ c.tables.ensures
    c.stored_as-stored.ensures refl
