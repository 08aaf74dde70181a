use Rattle.std.proofs.Common.{◌/◌, ◌^◌, length, take}
use Rattle.gates.specs.Nets.{bit_holds}
use Rattle.word_gates.specs.Spelling.{IsWord, flipped, spelled}
use Rattle.word_gates.proofs.shifts.move_down.Given as goal

abbrev pub invariant-stages : goal.invariant-stages
invariant-stages l = IsWord l.fn.gates l.gates (length l.fn.a) (λ v. flipped (length l.fn.a) (bit_holds v l.fill) (flipped (length l.fn.a) (bit_holds v l.fill) (spelled v l.fn.a) / 2 ^ spelled v (take l.stage l.by))) l.word
