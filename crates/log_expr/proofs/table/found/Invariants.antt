use Rattle.std.proofs.Common.{◌≡◌, drop}
use Rattle.log_expr.specs.Tables.{found}
use Rattle.log_expr.proofs.table.found.Given as goal

abbrev pub invariant-entries : goal.invariant-entries
invariant-entries l = found l.function l.depth (drop l.entry-index l.row) ≡ found l.function l.depth l.row
