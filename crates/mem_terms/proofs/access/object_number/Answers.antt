use Rattle.mem_terms.proofs.TruthLemmas.{shifted_number}
use Rattle.mem_terms.proofs.access.object_number.Goals as goal

pub returns : goal.returns
returns c = shifted_number c.args.bank.now c.word.new.self c.binary.new.self c.args.address.index c.in_ok-by.by c.binary.result c.in_ok-by.ensures.grows c.in_ok-by.ensures.value c.binary.ensures
