use Rattle.std.proofs.Common.{IfOk, Bool, not, ap, ◌∙◌, subst}
use Rattle.c_language.specs.Declarations.{Declared}
use Rattle.c_declarations.specs.Beginnings.{begins_in, plainly}
use Rattle.c_declarations.specs.Views.{declared_in}
use Rattle.c_means.specs.Initials.{uninitialised}
use Rattle.c_means.specs.Items.{Item}
use Rattle.core_objects.specs.Begun.{IsBegun}
use Rattle.core_declarations.specs.Items.{declared_as}
use Rattle.core_declarations.proofs.Declarators.{any_initial}
use Rattle.core_declarations.proofs.declarations.without_initializer.Goals as goal

pub returns : goal.returns
returns g c = λ at.
    let n = g.C.Places.numbering c.args.callees.now in
    let s = c.args.scope.now in
    let w = declared_in c.in_ok-declared.declared s in
    subst (λ (i : Item). IfOk c.declared_name.result (λ y. IsBegun n y i s))
    (ap (λ (w : Declared). declared_as at (not c.is_extern.result) w uninitialised) c.in_ok-declared.ensures
    ∙ ap (λ (b : Bool). declared_as at (not b) (plainly (begins_in c.args.front s)) uninitialised) c.is_extern.ensures)
    (c.declared_name.ensures at uninitialised (any_initial n c.not_initialised.result uninitialised
    c.in_ok-declared.declared.entry (λ m. c.not_initialised.ensures m n)))
