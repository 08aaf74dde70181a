use Rattle.std.proofs.Common.{◌∙◌, ap, length}
use Rattle.word_gates.proofs.ProductLemmas.{row-width, row-of}
use Rattle.word_gates.proofs.arithmetic.add_row.Goals as goal

pub add-requires-clause-width : goal.add-requires-clause-width
add-requires-clause-width c = row-width c.args.a.now c.as_slice.result.now c.args.by c.args.sum.now c.as_slice-3.result.now c.requires.width (ap length c.as_slice-3.ensures ∙ c.in_ok-row.ensures.width) c.requires.by (c.as_slice.ensures ∙ c.in_ok-moved.ensures)

pub returns : goal.returns
returns c = row-of c.args.gates.now _ _ c.args.sum.now c.args.a.now c.as_slice.result.now c.as_slice-2.result.now c.as_slice-3.result.now c.in_ok-row.row c.in_ok-total.total c.args.by c.args.factor.now c.requires.width c.requires.by (c.as_slice.ensures ∙ c.in_ok-moved.ensures) (c.as_slice-2.ensures ∙ c.in_ok-zeros.ensures) c.in_ok-row.ensures c.as_slice-3.ensures c.in_ok-total.ensures
