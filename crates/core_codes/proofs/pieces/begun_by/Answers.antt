use Rattle.std.proofs.lemmas.Result.{IfOk-weaker}
use Rattle.core_codes.proofs.LoopParts.{begun_value}
use Rattle.core_codes.proofs.pieces.begun_by.Goals as goal

pub returns-in_ok-value-in-Value : goal.returns-in_ok-value-in-Value
returns-in_ok-value-in-Value g c =
    IfOk-weaker c.first_value.result _ _
    (λ xs made. begun_value (g.P.Parts.numbering c.args.parts.now) c.args.start.now _ c.in_ok-value-in-Value.value xs
    c.args.scope.now c.maybe_effect.new.scope c.in-Value.is c.in_ok-value-in-Value.ensures made) c.first_value.ensures
