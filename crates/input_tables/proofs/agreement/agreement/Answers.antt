use Rattle.input_tables.proofs.RowLemmas.{agree-gate}
use Rattle.input_tables.proofs.agreement.agreement.Goals as goal

pub returns : goal.returns
returns c = agree-gate c.args.gates.now _ _ c.args.one.now c.args.other.now c.as_slice.result.now c.as_slice-2.result.now c.in_ok-same.same c.in_ok-agree.agree c.as_slice.ensures c.as_slice-2.ensures c.in_ok-same.ensures c.in_ok-agree.ensures
