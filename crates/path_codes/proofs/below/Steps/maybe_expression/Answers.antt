use Rattle.std.proofs.Common.{false, ap}
use Rattle.std.specs.Prelude.{option_map}
use Rattle.core_tree.specs.Values.{value}
use Rattle.core_tree.specs.Codes as form
use Rattle.path_codes.proofs.Statements.{walks_as}
use Rattle.path_codes.proofs.below.Steps.maybe_expression.Goals as goal

pub returns-in-Some : goal.returns-in-Some
returns-in-Some g c =
    walks_as (g.C.Calls.around c.args.self.now.scene.now) c.args.frame.now c.args.self.now.room (form.maybe_evaluated (option_map value c.args.e.now)) _ c.args.bank.now _ c.args.states.now c.args.place c.expression.result
    (ap (λ t. form.maybe_evaluated (option_map value t)) c.in-Some.is) ((rw c.get.ensures at c.expression.ensures) false)

pub returns-in-None : goal.returns-in-None
returns-in-None g c =
    walks_as (g.C.Calls.around c.args.self.now.scene.now) c.args.frame.now c.args.self.now.room (form.maybe_evaluated (option_map value c.args.e.now)) _ c.args.bank.now _ c.args.states.now c.args.place c.nothing.result
    (ap (λ t. form.maybe_evaluated (option_map value t)) c.in-None.is) c.nothing.ensures
