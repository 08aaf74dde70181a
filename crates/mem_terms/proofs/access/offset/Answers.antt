use Rattle.mem_terms.proofs.TruthLemmas.{masked_offset}
use Rattle.mem_terms.proofs.access.offset.Goals as goal

pub returns : goal.returns
returns c = masked_offset c.args.bank.now c.word.new.self c.binary.new.self c.args.address.index c.in_ok-mask.mask c.binary.result c.in_ok-mask.ensures.grows c.in_ok-mask.ensures.value c.binary.ensures
