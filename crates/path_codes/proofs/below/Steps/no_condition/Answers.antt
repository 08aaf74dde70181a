use Rattle.path_codes.proofs.Sequences.{tests_none}
use Rattle.path_codes.proofs.below.Steps.no_condition.Goals as goal

pub returns : goal.returns
returns g c =
    λ at. tests_none (g.C.Calls.around c.args.self.now.scene.now) c.args.frame.now c.args.self.now.room at c.args.bank.now c.args.states.now c.args.place c.in_ok-running.field-0 (c.in_ok-running.ensures c.args.bank.now c.requires.states)
