use Rattle.path_codes.proofs.Sequences.{tests_as}
use Rattle.path_codes.proofs.below.Steps.test.Goals as goal

pub returns-in-Some : goal.returns-in-Some
returns-in-Some g c =
    tests_as (g.C.Calls.around c.args.self.now.scene.now) c.args.frame.now c.args.self.now.room c.args.at c.args.test.now _ c.args.bank.now _ c.args.states.now
    c.args.place c.condition.result c.in-Some.is (rw c.get.ensures at c.condition.ensures)

pub returns-in-None : goal.returns-in-None
returns-in-None g c =
    tests_as (g.C.Calls.around c.args.self.now.scene.now) c.args.frame.now c.args.self.now.room c.args.at c.args.test.now _ c.args.bank.now _ c.args.states.now
    c.args.place c.no_condition.result c.in-None.is (c.no_condition.ensures c.args.at)
