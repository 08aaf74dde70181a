use Rattle.std.proofs.Common.{IfOk, sym, subst}
use Rattle.c_means.specs.Trees.{part}
use Rattle.c_means.proofs.RunFusion.{part_noted}
use Rattle.core_declarations.specs.Hearing.{IsHeardOf}
use Rattle.core_declarations.proofs.hearing.hear.Goals as goal

pub returns : goal.returns
returns g c =
    let n = g.C.Places.numbering c.args.callees.now in
    let e = c.args.expr.now in
    let s = c.args.scope.now in
    subst (λ p. IfOk c.as_value.result (λ y. IsHeardOf n y p c.core_of.new.scope)) (sym (part_noted e s))
    (c.as_value.ensures n (part e s) c.in_ok-x.ensures)
