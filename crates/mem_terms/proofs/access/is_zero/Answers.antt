use Rattle.mem_terms.proofs.TruthLemmas.{zero_tested}
use Rattle.mem_terms.proofs.access.is_zero.Goals as goal

pub returns : goal.returns
returns c = zero_tested c.args.bank.now c.word.new.self c.test.new.self c.args.word.index c.in_ok-zero.zero c.test.result c.in_ok-zero.ensures.grows c.in_ok-zero.ensures.value c.test.ensures
