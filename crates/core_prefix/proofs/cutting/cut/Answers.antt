use Rattle.std.proofs.Common.{sym, ◌∙◌}
use Rattle.core_prefix.proofs.RunsAgree.{prefix_runs}
use Rattle.core_prefix.proofs.cutting.cut.Goals as goal

pub returns-clause-runs : goal.returns-clause-runs
returns-clause-runs c =
    rw c.first.ensures
    (prefix_runs c.args.count c.args.core (sym c.is_closed.ensures ∙ c.if-not-is_closed.false))
