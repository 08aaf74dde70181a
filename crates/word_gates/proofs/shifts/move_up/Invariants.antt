use Rattle.std.proofs.Common.{◌*◌, ◌%◌, ◌^◌, length, take}
use Rattle.word_gates.specs.Spelling.{IsWord, spelled}
use Rattle.word_gates.proofs.shifts.move_up.Given as goal

abbrev pub invariant-stages : goal.invariant-stages
invariant-stages l = IsWord l.fn.gates l.gates (length l.fn.a) (λ v. (spelled v l.fn.a * 2 ^ spelled v (take l.stage l.by)) % 2 ^ length l.fn.a) l.word
