use Rattle.input_tables.proofs.RowLemmas.{alike-gate}
use Rattle.input_tables.proofs.agreement.alike_if.Goals as goal

pub returns : goal.returns
returns c = alike-gate c.args.gates.now _ _ c.args.one.now c.args.other.now c.as_slice.result.now c.as_slice-2.result.now c.args.same c.in_ok-alike.alike c.in_ok-agree.agree c.as_slice.ensures c.as_slice-2.ensures c.in_ok-alike.ensures c.in_ok-agree.ensures
