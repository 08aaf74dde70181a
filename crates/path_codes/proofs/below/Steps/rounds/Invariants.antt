use Rattle.path_codes.specs.Turns.{TurnsOn}
use Rattle.path_codes.specs.Walks.{rounds_arrow}
use Rattle.path_codes.proofs.below.Steps.rounds.Given as goal

abbrev pub invariant-rounds : goal.invariant-rounds
invariant-rounds g l =
    TurnsOn l.self.room (g.C.Calls.ready l.self.scene.now) l.fn.bank l.bank l.states l.over l.on
    (rounds_arrow (g.C.Calls.around l.self.scene.now) l.frame l.at l.body l.test l.left l.next)
    (rounds_arrow (g.C.Calls.around l.self.scene.now) l.frame l.at l.body l.test
    (g.C.Calls.around l.self.scene.now).measures.turns l.place)

abbrev pub decreases-rounds : goal.decreases-rounds
decreases-rounds g l = l.left
