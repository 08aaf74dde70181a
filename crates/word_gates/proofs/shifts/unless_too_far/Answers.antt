use Rattle.std.proofs.Common.{◌∙◌, length}
use Rattle.word_gates.proofs.ShiftLemmas.{near-of}
use Rattle.word_gates.proofs.shifts.unless_too_far.Goals as goal

pub returns : goal.returns
returns c = near-of c.args.gates.now _ _ c.args.word.now c.args.by.now c.bits_from.result.now c.as_slice.result.now c.in_ok-kept.kept c.args.stages (length c.args.word.now) c.in_ok-near.near c.requires.width c.requires.enough c.bits_from.ensures (c.as_slice.ensures ∙ c.in_ok-zeros.ensures) c.in_ok-near.ensures c.in_ok-kept.ensures
