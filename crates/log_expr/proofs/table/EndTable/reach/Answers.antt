use Rattle.std.proofs.Common.{◌∙◌, ◌++◌, ◌∷◌, [], ap}
use Rattle.log_expr.specs.Tables.{ends_at}
use Rattle.log_expr.proofs.TableLaws.{ends_more}
use Rattle.log_expr.proofs.table.EndTable.reach.Goals as goal

pub rows-preserved : goal.rows-preserved
rows-preserved c f d i =
    let rows = c.rows.self-inside.rows.items in
    ap (λ l. ends_at l f d i) c.in_ok-push.ensures.items ∙ ap (λ r. ends_at (rows ++ r ∷ []) f d i) c.new.ensures
    ∙ ends_more rows f d i ∙ c.rows.invariant f d i

pub returns-clause-same : goal.returns-clause-same
returns-clause-same c f d i = c.rows.invariant f d i ∙ ap (λ l. ends_at l f d i) c.self.view_is
