use Rattle.std.proofs.Common.{take}
use Rattle.run_formula.specs.Settings.{still_around, Sets}
use Rattle.run_formula.proofs.settings.set_all.Given as goal

abbrev pub invariant-loop-one : goal.invariant-loop-one
invariant-loop-one l =
    Sets (still_around l.still.log.now l.still.bounds.now) 4294967296 (take l.one-index l.settings) l.fn.bank l.bank l.states l.set
