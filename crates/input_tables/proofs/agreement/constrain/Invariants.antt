use Rattle.std.proofs.Common.{take}
use Rattle.input_tables.specs.Rows.{Constrains}
use Rattle.input_tables.proofs.agreement.constrain.Given as goal

abbrev pub invariant-rows : goal.invariant-rows
invariant-rows l = Constrains l.fn.gates l.gates (take l.index l.rows) l.row l.fn.conditions l.conditions
