use Rattle.std.proofs.Common.{sym, ap, subst}
use Rattle.c_language.specs.Initials.{Filling, filling_of}
use Rattle.c_means.specs.Initials.{evaluated, initially, initialising}
use Rattle.core_objects.specs.Given.{IsGiven}
use Rattle.core_declarations.specs.declared.initials.Filled.{Filled}
use Rattle.core_declarations.proofs.Fillings.{held_given}
use Rattle.core_declarations.proofs.initials.initialised_here.Goals as goal

pub returns-clause-given : goal.returns-clause-given
returns-clause-given g c =
    let n = g.C.Places.numbering c.args.callees.now in
    let i = initially c.args.initializer.now in
    let t = c.args.ctype in
    let s = c.args.scope.now in
    let z = c.in_ok-walked.walked in
    subst (λ (y : Filled). IsGiven n y.initial.settings (initialising i t s)) (sym c.as_initial.ensures)
    (held_given n i.is_braced (filling_of i.says t s) (evaluated i.elements s) z.filling z.paired
    (ap (λ (y : Filling). y.parts) c.in_ok-walked.ensures.says) c.in_ok-walked.ensures.gone)
