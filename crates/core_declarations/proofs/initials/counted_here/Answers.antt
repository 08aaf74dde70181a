use Rattle.std.proofs.Common.{ap, subst}
use Rattle.c_language.specs.Initials.{Filling, filling_of}
use Rattle.c_means.specs.Initials.{evaluated, initially, initialising}
use Rattle.core_objects.specs.Given.{IsCounted}
use Rattle.core_declarations.proofs.Fillings.{held_counted}
use Rattle.core_declarations.proofs.initials.counted_here.Goals as goal

pub returns : goal.returns
returns g c =
    let n = g.C.Places.numbering c.args.callees.now in
    let i = initially c.args.initializer.now in
    let t = c.args.ctype in
    let z = c.in_ok-walked.walked in
    subst (λ s. IsCounted n z.paired.counted (initialising i t s)) c.in_ok-inside.ensures
    (held_counted n i.is_braced (filling_of i.says t c.in_ok-inside.inside) (evaluated i.elements c.in_ok-inside.inside)
    z.filling z.paired (ap (λ (y : Filling). y.parts) c.in_ok-walked.ensures.says) c.in_ok-walked.ensures.gone)
