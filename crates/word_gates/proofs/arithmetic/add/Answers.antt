use Rattle.word_gates.proofs.ProductLemmas.{sum-of}
use Rattle.word_gates.proofs.arithmetic.add.Goals as goal

pub returns : goal.returns
returns c = sum-of c.args.gates.now _ c.args.a.now c.args.b.now c.in_ok-sum.sum c.in_ok-sum.ensures
