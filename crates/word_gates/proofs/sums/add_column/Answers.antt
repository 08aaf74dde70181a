use Rattle.word_gates.proofs.SumLemmas.{column-of}
use Rattle.word_gates.proofs.sums.add_column.Goals as goal

pub returns : goal.returns
returns c = column-of _ _ _ _ c.in_ok-half.half c.in_ok-bit.bit c.in_ok-carried.carried c.args.a.now c.args.b.now c.args.carry.now c.in_ok-half.ensures c.in_ok-bit.ensures c.in_ok-carried.ensures
