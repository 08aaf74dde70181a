use Rattle.std.proofs.Common.{◌∙◌, refl}
use Rattle.core_exprs.proofs.calls.call.Goals as goal

pub returns-in-Some : goal.returns-in-Some
returns-in-Some g c f ps same shown h = c.call_of.ensures f ps same (shown ∙ c.in-Some.is) h

pub returns-in-None : goal.returns-in-None
returns-in-None g c f ps same shown h = c.uncalled.ensures _ f ps same (shown ∙ c.in-None.is) refl h
