use Rattle.std.proofs.Common.{◌∙◌}
use Rattle.word_gates.proofs.ProductLemmas.{up-stands, up-width}
use Rattle.word_gates.proofs.ShiftLemmas.{up-if-of}
use Rattle.word_gates.proofs.shifts.move_up_if.Goals as goal

pub choose-requires-clause-a : goal.choose-requires-clause-a
choose-requires-clause-a c = up-stands c.args.gates.now c.args.a.now c.as_slice.result.now c.args.by (c.as_slice.ensures ∙ c.in_ok-moved.ensures) c.requires.a

pub choose-requires-clause-width : goal.choose-requires-clause-width
choose-requires-clause-width c = up-width c.args.a.now c.as_slice.result.now c.args.by c.requires.by (c.as_slice.ensures ∙ c.in_ok-moved.ensures)

pub returns : goal.returns
returns c = up-if-of c.args.gates.now _ c.args.a.now c.as_slice.result.now c.in_ok-word.word c.args.by c.args.condition.now c.requires.by (c.as_slice.ensures ∙ c.in_ok-moved.ensures) c.in_ok-word.ensures
