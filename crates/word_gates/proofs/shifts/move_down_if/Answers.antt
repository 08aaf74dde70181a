use Rattle.std.proofs.Common.{◌∙◌}
use Rattle.word_gates.proofs.ShiftLemmas.{down-stands, down-width, down-if-of}
use Rattle.word_gates.proofs.shifts.move_down_if.Goals as goal

pub choose-requires-clause-a : goal.choose-requires-clause-a
choose-requires-clause-a c = down-stands c.args.gates.now c.args.a.now c.as_slice.result.now c.args.by c.args.fill.now (c.as_slice.ensures ∙ c.in_ok-moved.ensures) c.requires.a c.requires.fill

pub choose-requires-clause-width : goal.choose-requires-clause-width
choose-requires-clause-width c = down-width c.args.a.now c.as_slice.result.now c.args.by c.args.fill.now c.requires.by (c.as_slice.ensures ∙ c.in_ok-moved.ensures)

pub returns : goal.returns
returns c = down-if-of c.args.gates.now _ c.args.a.now c.as_slice.result.now c.in_ok-word.word c.args.by c.args.condition.now c.args.fill.now c.requires.by (c.as_slice.ensures ∙ c.in_ok-moved.ensures) c.in_ok-word.ensures
