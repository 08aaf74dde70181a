use Rattle.std.proofs.Common.{◌∙◌, sym, ap, Some}
use Rattle.log_expr.proofs.Whole.{puts_new, puts_known}
use Rattle.log_expr.proofs.end_tables.put_once.Goals as goal

pub returns-in-Some : goal.returns-in-Some
returns-in-Some c = puts_known (sym c.in-Some.ensures ∙ ap Some (sym c.in_ok-copy.ensures))

pub returns : goal.returns
returns c = puts_new c.in_ok-copy-2.ensures c.in_ok-put.ensures
