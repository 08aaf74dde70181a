use Rattle.std.proofs.Common.{◌∙◌, ap}
use Rattle.input_tables.specs.declared.row.Row.{Row}
use Rattle.input_tables.proofs.RowLemmas.{read-is}
use Rattle.input_tables.proofs.row.value_at.Goals as goal

pub returns : goal.returns
returns c row at = c.as_slice.ensures ∙ ap (λ (x : Row). x.value) (read-is c.args.rows.now c.args.place row c.index-rows-place.result at)
