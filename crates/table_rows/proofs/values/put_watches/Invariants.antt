use Rattle.table_rows.specs.Asked.{IsKept}
use Rattle.table_rows.proofs.values.put_watches.Given as goal

abbrev pub invariant-watches : goal.invariant-watches
invariant-watches l = IsKept l.fn.query l.query
