use Rattle.std.proofs.Common.{◌≡◌, ◌-◌, ℕ, suc, length}
use Rattle.log_expr.specs.Tables.{ends_at}
use Rattle.log_expr.proofs.table.EndTable.reach.Given as goal

abbrev pub invariant-rows : goal.invariant-rows
invariant-rows l = (f d i : ℕ) → ends_at l.self-inside.rows.items f d i ≡ ends_at l.initial.self-inside.rows.items f d i

abbrev pub decreases-rows : goal.decreases-rows
decreases-rows l = suc l.start - length l.self-inside.rows.items
