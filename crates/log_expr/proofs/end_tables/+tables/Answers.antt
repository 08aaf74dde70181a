use Rattle.std.proofs.Common.{◌∙◌, sym, ap, Some}
use Rattle.log_expr.proofs.Whole.{call_walked, call_nowhere, call_known, call_found}
use Rattle.log_expr.proofs.end_tables.+tables.Goals as goal

pub ends_below-returns-in_ok-ends-in-Some : goal.ends_below-returns-in_ok-ends-in-Some
ends_below-returns-in_ok-ends-in-Some t c =
    call_walked c.below-lower.ensures.lower c.below-lower.ensures.whole c.below-lower.ensures.turns (sym c.in-Some.ensures.value) c.in_ok-ends-in-Some.ensures

pub ends_below-returns-in-None : goal.ends_below-returns-in-None
ends_below-returns-in-None t c = call_nowhere (sym c.in-None.ensures.value)

pub call_ends-returns-in-Some : goal.call_ends-returns-in-Some
call_ends-returns-in-Some t c = call_known (sym c.in-Some.ensures ∙ ap Some (sym c.in_ok-copy.ensures))

pub call_ends-returns : goal.call_ends-returns
call_ends-returns t c = call_found c.requires c.in_ok-ends.ensures c.in_ok-kept.ensures
