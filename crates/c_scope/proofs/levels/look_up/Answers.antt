use Rattle.std.proofs.Common.{◌∙◌, sym, ap, Bool, false, Option, Some, None}
use Rattle.c_scope.proofs.Found.{settled, is_type_in_found}
use Rattle.c_scope.proofs.Usual.{usual_is, behind}
use Rattle.c_scope.proofs.levels.look_up.Goals as goal

pub returns-in-Some : goal.returns-in-Some
returns-in-Some c levels usual =
    sym (usual_is c.args.name.now c.args.file.now c.args.in_file levels (Some c.in-Some.is_type) usual.0
    (sym c.in-Some.is ∙ c.get.ensures ∙ usual.1.now c.args.name.now))

pub returns-in-None : goal.returns-in-None
returns-in-None c levels usual =
    c.unwrap_or.ensures ∙ ap (λ (o : Option Bool). settled o false) c.find.ensures ∙ sym (is_type_in_found c.args.name.now c.args.file.now false)
    ∙ sym (ap (λ (b : Bool). behind b c.args.name.now c.args.file.now) c.if-in_file.true)
    ∙ sym (usual_is c.args.name.now c.args.file.now c.args.in_file levels None usual.0 (sym c.in-None.is ∙ c.get.ensures ∙ usual.1.now c.args.name.now))

pub returns-in-None-2 : goal.returns-in-None-2
returns-in-None-2 c levels usual =
    sym (ap (λ (b : Bool). behind b c.args.name.now c.args.file.now) c.if-in_file.false)
    ∙ sym (usual_is c.args.name.now c.args.file.now c.args.in_file levels None usual.0 (sym c.in-None.is ∙ c.get.ensures ∙ usual.1.now c.args.name.now))
