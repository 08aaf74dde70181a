use Rattle.printf_text.proofs.Digits.{IsWriting}
use Rattle.printf_text.proofs.printing.write_digits.Given as goal

abbrev pub invariant-digits : goal.invariant-digits
invariant-digits l = IsWriting l.radix l.fn.n l.n l.at l.buffer

abbrev pub decreases-digits : goal.decreases-digits
decreases-digits l = l.n
