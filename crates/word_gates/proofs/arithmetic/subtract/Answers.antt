use Rattle.std.proofs.Common.{◌∙◌}
use Rattle.word_gates.proofs.ProductLemmas.{opposites-stand, difference-of}
use Rattle.word_gates.proofs.arithmetic.subtract.Goals as goal

pub add_with_carry-requires-clause-b : goal.add_with_carry-requires-clause-b
add_with_carry-requires-clause-b c = opposites-stand c.args.gates.now c.args.b.now c.as_slice.result.now (c.as_slice.ensures ∙ c.in_ok-opposites.ensures) c.requires.b

pub returns : goal.returns
returns c = difference-of c.args.gates.now _ c.args.a.now c.args.b.now c.as_slice.result.now c.in_ok-sum.sum c.requires.width (c.as_slice.ensures ∙ c.in_ok-opposites.ensures) c.in_ok-sum.ensures
