use Rattle.std.proofs.Common.{Option, sym, ap, ◌∙◌}
use Rattle.std.proofs.lemmas.Result.{IfOk-weaker}
use Rattle.c_language.specs.declared.unit.Initializer.{Initializer}
use Rattle.c_language.specs.Declares.{derived_from, formed_type}
use Rattle.c_language.specs.Declarations.{declared_formed}
use Rattle.c_language.specs.Trees.{typed}
use Rattle.c_language.specs.Units.{initial_if, initial_says, initialises}
use Rattle.c_declarations.specs.Beginnings.{Begins, filled_by, plainly}
use Rattle.c_declarations.proofs.BegunLaws.{filled_is, plainly_is}
use Rattle.c_declarations.proofs.declarators.declares.Goals as goal

pub returns-in_ok-begun-in-None : goal.returns-in_ok-begun-in-None
returns-in_ok-begun-in-None c =
    let f = c.args.formed in
    let s = c.args.scope.now in
    let t = formed_type s.tables (derived_from f.derivations c.args.specified.now) in
    IfOk-weaker c.declared_plainly.result _ _ (λ x h. h ∙ ap plainly c.in_ok-begun-in-None.ensures
    ∙ plainly_is c.args.storage f.name t f.faults s
    ∙ ap (λ (i : Option Initializer). declared_formed c.args.storage f.name t (initial_if typed i) f.faults s)
    (sym c.in-None.is)) c.declared_plainly.ensures

pub returns-in_ok-begun-in-Some : goal.returns-in_ok-begun-in-Some
returns-in_ok-begun-in-Some c =
    let f = c.args.formed in
    let s = c.args.scope.now in
    let t = formed_type s.tables (derived_from f.derivations c.args.specified.now) in
    let says = initialises (initial_says c.in-Some.initializer) in
    IfOk-weaker c.with_initializer.result _ _ (λ x h. h
    ∙ ap (λ (b : Begins). filled_by b says) c.in_ok-begun-in-Some.ensures
    ∙ filled_is c.args.storage f.name t says f.faults s
    ∙ ap (λ (i : Option Initializer). declared_formed c.args.storage f.name t (initial_if typed i) f.faults s)
    (sym c.in-Some.is)) c.with_initializer.ensures
