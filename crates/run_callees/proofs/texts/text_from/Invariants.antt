use Rattle.std.proofs.Common.{◌≡◌, ◌+◌}
use Rattle.c_machine.specs.States.{state}
use Rattle.c_means.specs.Calls.{text_from}
use Rattle.run_callees.specs.Reading.{after}
use Rattle.run_callees.proofs.texts.text_from.Given as goal

abbrev pub invariant-bytes : goal.invariant-bytes
invariant-bytes l = record {
  reads : after l.text (text_from l.rest l.wanted (state l.m).store l.place)
      ≡ text_from l.left l.fn.most (state l.m).store l.address;
  low : l.place + l.rest ≡ l.address + l.left;
}

abbrev pub decreases-bytes : goal.decreases-bytes
decreases-bytes l = l.rest
