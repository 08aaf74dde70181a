use Rattle.core_exprs.proofs.EachForm as each
use Rattle.core_exprs.proofs.entries.initializer.Goals as goal

pub returns-clause-value : goal.returns-clause-value
returns-clause-value g c =
    each.on_used _ c.tables.result.now c.core_of.new.scope c.in_ok-x.x _ c.in_ok-used.used c.tables.ensures
    c.in_ok-x.ensures c.in_ok-used.ensures
