use Rattle.signed_gates.proofs.NetLemmas.{greatest-of}
use Rattle.signed_gates.proofs.overflow.greatest_magnitude.Goals as goal

pub returns : goal.returns
returns c = greatest-of c.args.gates.now c.args.width c.args.negative.now c.negated.result c.in_ok-word.word c.push.new.self c.in_ok-zeros.zeros _ c.bits-bits.result c.bits-bits.ensures c.requires c.negated.ensures c.in_ok-word.ensures c.in_ok-push.ensures.ok c.in_ok-zeros.ensures c.in_ok-append.ensures.ok
