use Rattle.std.proofs.Common.{◌*◌, ◌%◌, ◌^◌, length, take}
use Rattle.word_gates.specs.Spelling.{IsWord, spelled}
use Rattle.word_gates.proofs.arithmetic.multiply_by_rows.Given as goal

abbrev pub invariant-bits : goal.invariant-bits
invariant-bits l = IsWord l.fn.gates l.gates (length l.a) (λ v. (spelled v l.a * spelled v (take l.index l.b)) % 2 ^ length l.a) l.product
