use Rattle.std.proofs.Common.{refl}
use Rattle.core_functions.proofs.Making.{headed}
use Rattle.core_functions.proofs.heads.head_of.Goals as goal

pub returns : goal.returns
returns c =
    headed c.args.said.now c.args.scope.now c.tables.result.now c.as_slice.result.now c.in_ok-parameters.parameters
    c.in_ok-named.named c.gives_value-has_value.result c.type_as-returned.result _ c.tables.ensures
    c.as_slice.ensures c.in_ok-parameters.ensures c.in_ok-named.ensures c.gives_value-has_value.ensures
    c.type_as-returned.ensures refl
