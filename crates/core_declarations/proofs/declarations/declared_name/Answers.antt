use Rattle.std.proofs.Common.{sym, subst}
use Rattle.std.proofs.lemmas.Result.{IfOk-weaker}
use Rattle.c_means.specs.Items.{typing}
use Rattle.c_means.specs.Statements.{declared_means}
use Rattle.core_objects.specs.Begun.{IsBegun}
use Rattle.core_objects.specs.Given.{IsInitial}
use Rattle.core_objects.proofs.DeclaredObjects.{entry_begun, none_begun}
use Rattle.core_declarations.specs.Items.{IsInitialOf}
use Rattle.core_declarations.proofs.declarations.declared_name.Goals as goal

pub returns-in-None : goal.returns-in-None
returns-in-None g c = λ at x h.
    none_begun (g.C.Places.numbering c.args.callees.now) at (typing c.args.declared.faults) c.args.declared.entry
    c.args.is_defined x c.args.scope.now c.nothing_begun.result c.in-None.is c.nothing_begun.ensures

pub returns : goal.returns
returns g c = λ at x h.
    let n = g.C.Places.numbering c.args.callees.now in
    let s = c.args.scope.now in
    let i = c.args.initial in
    IfOk-weaker c.declared_object.result _ _ (λ y k. entry_begun n at (typing c.args.declared.faults) c.args.declared.entry
    c.in-Some.entry c.args.is_defined x s y c.in-Some.is
    (subst (λ e. IsBegun n y (declared_means at e e.means c.args.is_defined x s) s) c.get.ensures k))
    (c.declared_object.ensures at x (subst (λ e. IsInitial e.means n i x) (sym c.get.ensures)
    (subst (λ o. IsInitialOf o n i x) c.in-Some.is h)))
