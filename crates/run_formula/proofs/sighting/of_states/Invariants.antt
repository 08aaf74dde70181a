use Rattle.std.proofs.Common.{take}
use Rattle.run_formula.specs.Sighted.{StatesSighted}
use Rattle.run_formula.proofs.sighting.of_states.Given as goal

abbrev pub invariant-loop-state : goal.invariant-loop-state
invariant-loop-state l =
    StatesSighted l.fn.bank l.bank l.look.log.now l.look.watch.now l.look.lists.now (take l.state-index l.states) l.all
