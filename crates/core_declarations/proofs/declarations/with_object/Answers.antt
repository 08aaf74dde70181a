use Rattle.std.proofs.Common.{Bool, sym, ap, subst}
use Rattle.std.proofs.lemmas.Result.{IfOk-weaker}
use Rattle.c_language.specs.Declarations.{Declared}
use Rattle.c_declarations.specs.Beginnings.{begins_in}
use Rattle.c_declarations.specs.Views.{declared_in}
use Rattle.c_means.specs.Initials.{initially, initialising}
use Rattle.core_declarations.specs.Items.{IsGivenIf, IsInitialOf}
use Rattle.core_declarations.proofs.Declarators.{filled_initial, object_begun}
use Rattle.core_declarations.proofs.declarations.with_object.Goals as goal

pub returns : goal.returns
returns g c = λ at object.
    let n = g.C.Places.numbering c.args.callees.now in
    let i = initially c.args.initializer.now in
    let s = c.args.scope.now in
    let t = c.args.ctype in
    let f = c.args.front in
    let x = initialising i t s in
    let y = c.in_ok-filled.filled in
    let u = c.declared_with.new.scope in
    let w = declared_in c.in_ok-declared.declared u in
    let given = subst (λ (b : Bool). IsGivenIf b n y.initial x) c.lasts-lasts.ensures c.in_ok-filled.ensures.given in
    IfOk-weaker c.declared_name.result _ _ (λ z h. object_begun n at (begins_in f s) i t y.filling
    c.initialised.new.scope w z u object c.in_ok-filled.ensures.says c.in_ok-declared.ensures h)
    (c.declared_name.ensures at x (subst (λ (o : _). IsInitialOf o n y.initial x)
    (sym (ap (λ (d : Declared). d.entry) c.in_ok-declared.ensures))
    (filled_initial n y.initial x f.named f.faults _ c.in_ok-filled.ensures.zeroed given)))
