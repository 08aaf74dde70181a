use Rattle.run_formula.specs.Sighted.{SightsAll}
use Rattle.run_formula.proofs.sighting.sight_all.Given as goal

abbrev pub invariant-loop-number : goal.invariant-loop-number
invariant-loop-number l = SightsAll l.fn.bank l.bank l.look.log.now l.look.watch.now l.look.lists.now l.told
