use Rattle.std.proofs.Common.{drop}
use Rattle.path_codes.specs.Turns.{SequenceOn}
use Rattle.path_codes.proofs.below.Steps.sequence.Given as goal

abbrev pub invariant-loop-item : goal.invariant-loop-item
invariant-loop-item g l =
    SequenceOn (g.C.Calls.around l.self.scene.now) l.frame l.self.room (g.C.Calls.ready l.self.scene.now) l.items
    (drop l.item-index l.items) l.fn.bank l.bank l.states l.ran l.place l.next
