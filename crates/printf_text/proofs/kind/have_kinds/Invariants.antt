use Rattle.printf_text.proofs.KindLemmas.{HaveFirst}
use Rattle.printf_text.proofs.kind.have_kinds.Given as goal

abbrev pub invariant-loop-i : goal.invariant-loop-i
invariant-loop-i l = HaveFirst l.kinds l.args l.i
