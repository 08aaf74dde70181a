use Rattle.std.proofs.Common.{◌∙◌, sym}
use Rattle.core_exprs.proofs.calls.call_of.Goals as goal

pub returns-in-Some : goal.returns-in-Some
returns-in-Some g c f ps same shown h = c.called.ensures f ps same shown (sym c.in_ok-callee.ensures ∙ c.in-Some.is) h

pub returns-in-None : goal.returns-in-None
returns-in-None g c f ps same shown h =
    c.uncalled.ensures _ f ps same shown (sym c.in_ok-callee.ensures ∙ c.in-None.is) h
