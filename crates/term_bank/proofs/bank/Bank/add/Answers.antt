use Rattle.term_bank.proofs.FoldLemmas.{worth_known, over_known, over_inserted}
use Rattle.term_bank.proofs.bank.Bank.add.Goals as goal

pub returns-in-Some-known-clause-value : goal.returns-in-Some-known-clause-value
returns-in-Some-known-clause-value c = worth_known c.args.self.now c.insert.new.self c.args.shape c.in-Some-known.known c.insert.result c.in-Some-known.ensures c.insert.ensures.grows c.insert.ensures.value

pub returns-in-Some-known-clause-over : goal.returns-in-Some-known-clause-over
returns-in-Some-known-clause-over c = over_known c.args.self.now c.insert.new.self c.args.shape c.in-Some-known.known c.insert.result c.in-Some-known.ensures c.insert.ensures.shape

pub returns-in-None-clause-over : goal.returns-in-None-clause-over
returns-in-None-clause-over c = over_inserted c.insert-in-None.new.self c.args.shape c.insert-in-None.result c.insert-in-None.ensures.shape
