use Rattle.std.proofs.lemmas.Result.{IfOk-weaker}
use Rattle.c_declarations.specs.Beginnings.{begins_in}
use Rattle.c_declarations.specs.Views.{declared_in}
use Rattle.c_means.specs.Initials.{uninitialised}
use Rattle.core_declarations.proofs.Declarators.{any_initial, unfilled_begun}
use Rattle.core_declarations.proofs.declarations.with_nothing.Goals as goal

pub returns : goal.returns
returns g c = λ at i none.
    let n = g.C.Places.numbering c.args.callees.now in
    let u = c.declared_unfilled.new.scope in
    IfOk-weaker c.declared_name.result _ _ (λ y h. unfilled_begun n at (begins_in c.args.front c.args.scope.now) i
    (declared_in c.in_ok-declared.declared u) y u none c.in_ok-declared.ensures h)
    (c.declared_name.ensures at uninitialised (any_initial n c.not_initialised.result uninitialised
    c.in_ok-declared.declared.entry (λ m. c.not_initialised.ensures m n)))
