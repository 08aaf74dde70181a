use Rattle.std.proofs.Common.{length}
use Rattle.input_tables.proofs.RowLemmas.{constrains-more, constrains-whole, member-read, row-grown}
use Rattle.input_tables.proofs.agreement.constrain.Goals as goal

pub agreement-requires-clause-one : goal.agreement-requires-clause-one
agreement-requires-clause-one c = row-grown c.args.gates.now c.rows.gates (length c.args.row.now.value) c.index-rows-index.result c.rows.invariant.grows (c.requires.rows c.index-rows-index.result (member-read c.args.rows.now c.rows.index c.index-rows-index.result c.rows-test.true c.index-rows-index.is))

pub rows-preserved : goal.rows-preserved
rows-preserved c = constrains-more c.args.gates.now c.rows.gates _ c.args.rows.now c.args.row.now c.index-rows-index.result c.rows.index c.args.conditions.now c.rows.conditions _ c.in_ok-condition.condition c.rows-test.true c.index-rows-index.is c.rows.invariant c.in_ok-condition.ensures c.in_ok-push.ensures.ok

pub returns : goal.returns
returns c = constrains-whole c.args.gates.now c.rows.gates c.args.rows.now c.args.row.now c.rows.index c.args.conditions.now c.rows.conditions c.rows-test.false c.rows.invariant
