use Rattle.std.proofs.Common.{◌≡◌, ◌++◌, replicate}
use Rattle.printf_text.proofs.printing.fill.Given as goal

abbrev pub invariant-loop-i : goal.invariant-loop-i
invariant-loop-i l = l.out ≡ l.fn.out ++ replicate l._i l.byte
