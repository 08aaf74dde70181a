use Rattle.std.proofs.Common.{◌∙◌}
use Rattle.std.proofs.lemmas.Result.{IfOk-weaker}
use Rattle.c_item_notes.specs.Levels.{judged}
use Rattle.c_program_notes.proofs.EachOuter.{declared_arm, empty_arm, function_arm}
use Rattle.c_program_notes.proofs.outers.outer_notes.Goals as goal

pub returns-in-Function : goal.returns-in-Function
returns-in-Function c =
    IfOk-weaker c.defined_notes.result _ _ (λ x h. h
    ∙ function_arm (judged c.args.source.now) c.args.external.now c.in-Function.specifiers c.as_slice.result.now
    c.in-Function.declarator c.in-Function.body c.in_ok-names.names c.args.scope.now c.in-Function.is
    c.as_slice.ensures c.in_ok-names.ensures) c.defined_notes.ensures

pub returns-in-Declared : goal.returns-in-Declared
returns-in-Declared c =
    IfOk-weaker c.declared_outer.result _ _ (λ x h. h
    ∙ declared_arm (judged c.args.source.now) c.args.external.now c.in-Declared.declaration c.in_ok-names.names
    c.args.scope.now c.in-Declared.is c.in_ok-names.ensures) c.declared_outer.ensures

pub returns-in-Empty : goal.returns-in-Empty
returns-in-Empty c =
    IfOk-weaker c.empty_outer.result _ _ (λ x h. empty_arm (judged c.args.source.now) c.args.external.now
    _ c.in_ok-names.names c.args.scope.now x c.in-Empty.is c.in_ok-names.ensures h) c.empty_outer.ensures
