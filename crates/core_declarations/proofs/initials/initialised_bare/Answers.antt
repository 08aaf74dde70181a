use Rattle.std.proofs.Common.{sym, ap, subst}
use Rattle.c_language.specs.declared.ctype.CType.{CType}
use Rattle.c_language.specs.Initials.{Filling, filling_of}
use Rattle.c_means.specs.Initials.{evaluated, initially, initialising}
use Rattle.core_programs.proofs.Quiet.{initially_quiet}
use Rattle.core_objects.specs.Begun.{bare}
use Rattle.core_objects.specs.Given.{IsCounted, IsLasting}
use Rattle.core_declarations.specs.declared.initials.Filled.{Filled}
use Rattle.core_declarations.proofs.Fillings.{held_given}
use Rattle.core_declarations.proofs.initials.initialised_bare.Goals as goal

pub returns-clause-given : goal.returns-clause-given
returns-clause-given g c =
    let n = g.C.Places.numbering c.args.callees.now in
    let i = initially c.args.initializer.now in
    let t = c.args.ctype in
    let s = c.args.scope.now in
    let z = c.in_ok-walked.walked in
    subst (λ (y : Filled). IsLasting n y.initial (initialising i t s)) (sym c.as_initial.ensures) (record {
      given = held_given (bare n) i.is_braced (filling_of i.says t s) (evaluated i.elements s) z.filling z.paired
          (ap (λ (y : Filling). y.parts) c.in_ok-walked.ensures.says) c.in_ok-walked.ensures.gone;
      counted = subst (λ (u : CType). IsCounted n c.in_ok-counted.counted (initialising i u s))
          c.in_ok-clone.ensures.cases c.in_ok-counted.ensures;
      quiet = initially_quiet c.args.initializer.now t s;
    })
