use Rattle.path_codes.proofs.Statements.{walks_nothing}
use Rattle.path_codes.proofs.below.Steps.nothing.Goals as goal

pub returns : goal.returns
returns g c =
    walks_nothing (g.C.Calls.around c.args.self.now.scene.now) c.args.frame.now c.args.self.now.room c.args.bank.now c.args.states.now _ c.args.place (c.in_ok-states.ensures c.args.self.now.room c.args.bank.now c.requires.states)
