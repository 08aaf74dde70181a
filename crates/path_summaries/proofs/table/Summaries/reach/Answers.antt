use Rattle.std.proofs.Common.{sym, subst}
use Rattle.path_summaries.specs.Tables.{AllStand}
use Rattle.path_summaries.proofs.Rowed.{all_more}
use Rattle.path_summaries.proofs.table.Summaries.reach.Goals as goal

pub rows-preserved : goal.rows-preserved
rows-preserved c =
    let rows = c.rows.self-inside.rows.items in
    λ t b stand. rw (c.in_ok-push.ensures.items, c.new.ensures) (all_more t b 0 rows (c.rows.invariant t b stand))

pub returns-clause-stand : goal.returns-clause-stand
returns-clause-stand c = λ t b stand. c.rows.invariant t b (subst (λ l. AllStand t b 0 l) (sym c.self.view_is) stand)
