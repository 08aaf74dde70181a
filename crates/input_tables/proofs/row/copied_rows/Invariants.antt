use Rattle.std.proofs.Common.{◌≡◌, take}
use Rattle.input_tables.proofs.row.copied_rows.Given as goal

abbrev pub invariant-rows : goal.invariant-rows
invariant-rows l = l.copy ≡ take l.index l.rows
