use Rattle.std.proofs.Common.{◌/◌, ◌^◌, length}
use Rattle.gates.specs.Nets.{bit_holds}
use Rattle.word_gates.specs.Spelling.{flipped, spelled}
use Rattle.word_gates.proofs.ShiftLemmas.{shifted-of}
use Rattle.word_gates.proofs.shifts.shift_right.Goals as goal

pub returns : goal.returns
returns c = shifted-of c.args.gates.now _ _ c.args.a.now c.args.by.now c.in_ok-moved.moved c.as_slice.result.now c.in_ok-word.word c.args.stages (λ v n. flipped (length c.args.a.now) (bit_holds v c.args.fill.now) (flipped (length c.args.a.now) (bit_holds v c.args.fill.now) (spelled v c.args.a.now) / 2 ^ n)) c.requires.width c.requires.enough c.in_ok-moved.ensures c.as_slice.ensures c.in_ok-word.ensures
