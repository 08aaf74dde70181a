use Rattle.std.proofs.Common.{refl}
use Rattle.log_expr.proofs.Whole.{sound_from}
use Rattle.log_expr.proofs.end_tables.end_table.Goals as goal

pub returns : goal.returns
returns c = sound_from c.args.bounds.now c.new-table.ensures refl refl c.in_ok-_ends.ensures
