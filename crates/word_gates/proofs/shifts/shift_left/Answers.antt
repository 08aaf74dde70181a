use Rattle.std.proofs.Common.{◌*◌, ◌%◌, ◌^◌, length}
use Rattle.word_gates.specs.Spelling.{spelled}
use Rattle.word_gates.proofs.ShiftLemmas.{shifted-of}
use Rattle.word_gates.proofs.shifts.shift_left.Goals as goal

pub returns : goal.returns
returns c = shifted-of c.args.gates.now _ _ c.args.a.now c.args.by.now c.in_ok-moved.moved c.as_slice.result.now c.in_ok-word.word c.args.stages (λ v n. (spelled v c.args.a.now * 2 ^ n) % 2 ^ length c.args.a.now) c.requires.width c.requires.enough c.in_ok-moved.ensures c.as_slice.ensures c.in_ok-word.ensures
