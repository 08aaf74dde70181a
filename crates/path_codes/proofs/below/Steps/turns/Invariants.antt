use Rattle.core_tree.specs.States.{running}
use Rattle.path_codes.specs.Turns.{TurnsOn}
use Rattle.path_codes.specs.Walks.{turns_arrow}
use Rattle.path_codes.proofs.below.Steps.turns.Given as goal

abbrev pub invariant-turns : goal.invariant-turns
invariant-turns g l =
    TurnsOn l.self.room (g.C.Calls.ready l.self.scene.now) l.fn.bank l.bank l.states l.over l.on
    (λ e. running (turns_arrow (g.C.Calls.around l.self.scene.now) l.frame l.at l.test l.body l.step l.left l.next e))
    (λ e. running (turns_arrow (g.C.Calls.around l.self.scene.now) l.frame l.at l.test l.body l.step
    (g.C.Calls.around l.self.scene.now).measures.turns l.place e))

abbrev pub decreases-turns : goal.decreases-turns
decreases-turns g l = l.left
