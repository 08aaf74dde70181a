use Rattle.std.proofs.Common.{refl, false, ℕ}
use Rattle.core_tree.specs.Codes.{code, node_size}
use Rattle.path_rooms.proofs.CodeForms as kinds
use Rattle.path_codes.proofs.Statements.{walks_as}
use Rattle.path_codes.proofs.below.Steps.walk.Goals as goal

pub returns-in-Nothing : goal.returns-in-Nothing
returns-in-Nothing g c =
    walks_as (g.C.Calls.around c.args.self.now.scene.now) c.args.frame.now c.args.self.now.room (code c.args.code.now) _ c.args.bank.now _ c.args.states.now c.args.place c.nothing.result
    (kinds.is-Nothing c.args.code.now _ c.in-Nothing.is) c.nothing.ensures

pub returns-in-Value : goal.returns-in-Value
returns-in-Value g c =
    walks_as (g.C.Calls.around c.args.self.now.scene.now) c.args.frame.now c.args.self.now.room (code c.args.code.now) _ c.args.bank.now _ c.args.states.now c.args.place c.expression.result
    (kinds.is-Value c.args.code.now _ _ _ c.in-Value.is c.get.ensures) (c.expression.ensures false)

pub returns-in-Declare : goal.returns-in-Declare
returns-in-Declare g c =
    walks_as (g.C.Calls.around c.args.self.now.scene.now) c.args.frame.now c.args.self.now.room (code c.args.code.now) _ c.args.bank.now _ c.args.states.now c.args.place c.declaration.result
    (kinds.is-Declare c.args.code.now _ _ _ _ _ c.in-Declare.is c.as_slice.ensures) c.declaration.ensures

pub returns-in-Static : goal.returns-in-Static
returns-in-Static g c =
    walks_as (g.C.Calls.around c.args.self.now.scene.now) c.args.frame.now c.args.self.now.room (code c.args.code.now) _ c.args.bank.now _ c.args.states.now c.args.place c.nothing-in-Static.result
    (kinds.is-Static c.args.code.now _ _ c.in-Static.is) c.nothing-in-Static.ensures

pub returns-in-Block : goal.returns-in-Block
returns-in-Block g c =
    walks_as (g.C.Calls.around c.args.self.now.scene.now) c.args.frame.now c.args.self.now.room (code c.args.code.now) _ c.args.bank.now _ c.args.states.now c.args.place c.block.result
    (kinds.is-Block c.args.code.now _ _ _ c.in-Block.is c.as_slice-in-Block.ensures) (c.block.ensures false)

pub returns-in-Label : goal.returns-in-Label
returns-in-Label g c =
    walks_as (g.C.Calls.around c.args.self.now.scene.now) c.args.frame.now c.args.self.now.room (code c.args.code.now) _ c.args.bank.now _ c.args.states.now c.args.place c.labeled.result
    (kinds.is-Label c.args.code.now _ _ _ _ c.in-Label.is refl c.get-in-Label.ensures) c.labeled.ensures

pub returns-in-Case : goal.returns-in-Case
returns-in-Case g c =
    walks_as (g.C.Calls.around c.args.self.now.scene.now) c.args.frame.now c.args.self.now.room (code c.args.code.now) _ c.args.bank.now _ c.args.states.now c.args.place c.case.result
    (kinds.is-Case c.args.code.now _ _ _ _ c.in-Case.is c.get-in-Case.ensures) (c.case.ensures (node_size ℕ c.in-Case.label))

pub returns-in-Default : goal.returns-in-Default
returns-in-Default g c =
    walks_as (g.C.Calls.around c.args.self.now.scene.now) c.args.frame.now c.args.self.now.room (code c.args.code.now) _ c.args.bank.now _ c.args.states.now c.args.place c.default.result
    (kinds.is-Default c.args.code.now _ _ c.in-Default.is c.get-in-Default.ensures) c.default.ensures

pub returns-in-If : goal.returns-in-If
returns-in-If g c =
    walks_as (g.C.Calls.around c.args.self.now.scene.now) c.args.frame.now c.args.self.now.room (code c.args.code.now) _ c.args.bank.now _ c.args.states.now c.args.place c.if_statement.result
    (kinds.is-If c.args.code.now _ _ _ _ _ _ _ c.in-If.is c.get-in-If.ensures c.get-in-If-2.ensures c.get-in-If-3.ensures) c.if_statement.ensures

pub returns-in-Switch : goal.returns-in-Switch
returns-in-Switch g c =
    walks_as (g.C.Calls.around c.args.self.now.scene.now) c.args.frame.now c.args.self.now.room (code c.args.code.now) _ c.args.bank.now _ c.args.states.now c.args.place c.switch_statement.result
    (kinds.is-Switch c.args.code.now _ _ _ _ _ _ _ _ _ c.in-Switch.is c.as_slice-in-Switch.ensures c.get-in-Switch.ensures c.as_slice-in-Switch-2.ensures) (c.switch_statement.ensures false)

pub returns-in-Loop : goal.returns-in-Loop
returns-in-Loop g c =
    walks_as (g.C.Calls.around c.args.self.now.scene.now) c.args.frame.now c.args.self.now.room (code c.args.code.now) _ c.args.bank.now _ c.args.states.now c.args.place c.loop_statement.result
    (kinds.is-Loop c.args.code.now _ _ _ _ _ c.in-Loop.is c.get-in-Loop.ensures) c.loop_statement.ensures

pub returns-in-Repeat : goal.returns-in-Repeat
returns-in-Repeat g c =
    walks_as (g.C.Calls.around c.args.self.now.scene.now) c.args.frame.now c.args.self.now.room (code c.args.code.now) _ c.args.bank.now _ c.args.states.now c.args.place c.do_statement.result
    (kinds.is-Repeat c.args.code.now _ _ _ _ _ c.in-Repeat.is c.get-in-Repeat.ensures c.get-in-Repeat-2.ensures) c.do_statement.ensures

pub returns-in-Goto : goal.returns-in-Goto
returns-in-Goto g c =
    walks_as (g.C.Calls.around c.args.self.now.scene.now) c.args.frame.now c.args.self.now.room (code c.args.code.now) _ c.args.bank.now _ c.args.states.now c.args.place c.go_to.result
    (kinds.is-Goto c.args.code.now _ c.in-Goto.is) c.go_to.ensures

pub returns-in-Continue : goal.returns-in-Continue
returns-in-Continue g c =
    walks_as (g.C.Calls.around c.args.self.now.scene.now) c.args.frame.now c.args.self.now.room (code c.args.code.now) _ c.args.bank.now _ c.args.states.now c.args.place c.jump.result
    (kinds.is-Continue c.args.code.now c.in-Continue.is) c.jump.ensures

pub returns-in-Break : goal.returns-in-Break
returns-in-Break g c =
    walks_as (g.C.Calls.around c.args.self.now.scene.now) c.args.frame.now c.args.self.now.room (code c.args.code.now) _ c.args.bank.now _ c.args.states.now c.args.place c.jump-in-Break.result
    (kinds.is-Break c.args.code.now c.in-Break.is) c.jump-in-Break.ensures

pub returns-in-Return : goal.returns-in-Return
returns-in-Return g c =
    walks_as (g.C.Calls.around c.args.self.now.scene.now) c.args.frame.now c.args.self.now.room (code c.args.code.now) _ c.args.bank.now _ c.args.states.now c.args.place c.return_statement.result
    (kinds.is-Return c.args.code.now _ c.in-Return.is) c.return_statement.ensures
