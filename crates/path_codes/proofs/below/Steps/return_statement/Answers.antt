use Rattle.std.proofs.Common.{ap}
use Rattle.std.specs.Prelude.{option_map}
use Rattle.core_tree.specs.Values.{value}
use Rattle.core_tree.specs.Codes as form
use Rattle.path_codes.proofs.Statements.{walks_as}
use Rattle.path_codes.proofs.below.Steps.return_statement.Goals as goal

pub returns-in-Some : goal.returns-in-Some
returns-in-Some g c =
    walks_as (g.C.Calls.around c.args.self.now.scene.now) c.args.frame.now c.args.self.now.room (form.return_of (option_map value c.args.e.now)) _ c.args.bank.now _ c.args.states.now c.args.place c.return_value.result
    (ap (λ t. form.return_of (option_map value t)) c.in-Some.is) (rw c.get.ensures at c.return_value.ensures)

pub returns-in-None : goal.returns-in-None
returns-in-None g c =
    walks_as (g.C.Calls.around c.args.self.now.scene.now) c.args.frame.now c.args.self.now.room (form.return_of (option_map value c.args.e.now)) _ c.args.bank.now _ c.args.states.now c.args.place c.jump.result
    (ap (λ t. form.return_of (option_map value t)) c.in-None.is) c.jump.ensures
