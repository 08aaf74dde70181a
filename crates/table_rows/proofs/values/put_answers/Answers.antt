use Rattle.table_rows.proofs.Asking.{asked-goes}
use Rattle.table_rows.proofs.values.put_answers.Goals as goal

pub put_all-requires : goal.put_all-requires
put_all-requires c =
    asked-goes c.args.facts.now c.args.watches.now c.args.query.now c.answered.new.query c.answered.ensures c.requires

pub is_refuted-requires-clause-whole : goal.is_refuted-requires-clause-whole
is_refuted-requires-clause-whole c = c.answered.ensures.whole c.requires.whole
