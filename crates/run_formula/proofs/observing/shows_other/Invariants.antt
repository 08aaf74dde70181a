use Rattle.std.proofs.Common.{take}
use Rattle.run_formula.specs.Sighted.{ShowsOther}
use Rattle.run_formula.proofs.observing.shows_other.Given as goal

abbrev pub invariant-lists : goal.invariant-lists
invariant-lists l = ShowsOther l.fn.bank l.bank (take l.index l.lists) (take l.index l.truths) l.place l.value l.any
