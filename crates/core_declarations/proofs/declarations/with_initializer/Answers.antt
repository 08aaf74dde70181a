use Rattle.std.proofs.Common.{sym, ◌∙◌}
use Rattle.c_means.specs.Initials.{initially}
use Rattle.core_declarations.proofs.declarations.with_initializer.Goals as goal

pub returns-in-None : goal.returns-in-None
returns-in-None g c = λ at.
    c.with_nothing.ensures at (initially c.args.initializer.now) (sym c.in_ok-object.ensures ∙ c.in-None.is)

pub returns-in-Some : goal.returns-in-Some
returns-in-Some g c = λ at. c.with_object.ensures at (sym c.in_ok-object.ensures ∙ c.in-Some.is)
