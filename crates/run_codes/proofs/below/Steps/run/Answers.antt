use Rattle.std.proofs.Common.{refl, true, ◌∙◌, Ok}
use Rattle.core_running.specs.Frames.{env_of}
use Rattle.core_running.specs.Running.{done}
use Rattle.code_steps.proofs.Items as items
use Rattle.run_codes.proofs.Forms.{takes_by, acts_by, low_by, none_by, return_low}
use Rattle.run_codes.proofs.below.Steps.run.Goals as goal

pub expression-requires-clause-low : goal.expression-requires-clause-low
expression-requires-clause-low g c =
    low_by _ _ (g.L.Scene.setting c.args.self.now.scene.now) c.args.base (items.is-Value c.args.c.now _ _ _ c.in-Value.is c.get.ensures) c.requires.low

pub returns-in-Value-clause-next : goal.returns-in-Value-clause-next
returns-in-Value-clause-next g c =
    takes_by c.expression.result _ _ (g.L.Scene.setting c.args.self.now.scene.now) c.args.base (items.is-Value c.args.c.now _ _ _ c.in-Value.is c.get.ensures) c.expression.ensures.next

pub returns-in-Value-clause-runs : goal.returns-in-Value-clause-runs
returns-in-Value-clause-runs g c =
    acts_by c.expression.result _ _ (g.L.Scene.setting c.args.self.now.scene.now) (env_of c.args.frame.now) c.args.base _ _ (items.is-Value c.args.c.now _ _ _ c.in-Value.is c.get.ensures) c.expression.ensures.runs

pub declaration-requires-clause-low : goal.declaration-requires-clause-low
declaration-requires-clause-low g c =
    low_by _ _ (g.L.Scene.setting c.args.self.now.scene.now) c.args.base (items.is-Declare c.args.c.now _ _ _ _ _ c.in-Declare.is c.as_slice.ensures) c.requires.low

pub returns-in-Declare-clause-next : goal.returns-in-Declare-clause-next
returns-in-Declare-clause-next g c =
    takes_by c.declaration.result _ _ (g.L.Scene.setting c.args.self.now.scene.now) c.args.base (items.is-Declare c.args.c.now _ _ _ _ _ c.in-Declare.is c.as_slice.ensures) c.declaration.ensures.next

pub returns-in-Declare-clause-runs : goal.returns-in-Declare-clause-runs
returns-in-Declare-clause-runs g c =
    acts_by c.declaration.result _ _ (g.L.Scene.setting c.args.self.now.scene.now) (env_of c.args.frame.now) c.args.base _ _ (items.is-Declare c.args.c.now _ _ _ _ _ c.in-Declare.is c.as_slice.ensures) c.declaration.ensures.runs

pub block_statement-requires-clause-low : goal.block_statement-requires-clause-low
block_statement-requires-clause-low g c =
    low_by _ _ (g.L.Scene.setting c.args.self.now.scene.now) c.args.base (items.is-Block c.args.c.now _ _ _ c.in-Block.is c.as_slice-in-Block.ensures) c.requires.low

pub returns-in-Block-clause-next : goal.returns-in-Block-clause-next
returns-in-Block-clause-next g c =
    takes_by c.block_statement.result _ _ (g.L.Scene.setting c.args.self.now.scene.now) c.args.base (items.is-Block c.args.c.now _ _ _ c.in-Block.is c.as_slice-in-Block.ensures) c.block_statement.ensures.next

pub returns-in-Block-clause-runs : goal.returns-in-Block-clause-runs
returns-in-Block-clause-runs g c =
    acts_by c.block_statement.result _ _ (g.L.Scene.setting c.args.self.now.scene.now) (env_of c.args.frame.now) c.args.base _ _ (items.is-Block c.args.c.now _ _ _ c.in-Block.is c.as_slice-in-Block.ensures) (c.block_statement.ensures.runs true)

pub if_statement-requires-clause-low : goal.if_statement-requires-clause-low
if_statement-requires-clause-low g c =
    low_by _ _ (g.L.Scene.setting c.args.self.now.scene.now) c.args.base (items.is-If c.args.c.now _ _ _ _ _ _ _ c.in-If.is c.get-in-If.ensures c.get-in-If-2.ensures c.get-in-If-3.ensures) c.requires.low

pub returns-in-If-clause-next : goal.returns-in-If-clause-next
returns-in-If-clause-next g c =
    takes_by c.if_statement.result _ _ (g.L.Scene.setting c.args.self.now.scene.now) c.args.base (items.is-If c.args.c.now _ _ _ _ _ _ _ c.in-If.is c.get-in-If.ensures c.get-in-If-2.ensures c.get-in-If-3.ensures) c.if_statement.ensures.next

pub returns-in-If-clause-runs : goal.returns-in-If-clause-runs
returns-in-If-clause-runs g c =
    acts_by c.if_statement.result _ _ (g.L.Scene.setting c.args.self.now.scene.now) (env_of c.args.frame.now) c.args.base _ _ (items.is-If c.args.c.now _ _ _ _ _ _ _ c.in-If.is c.get-in-If.ensures c.get-in-If-2.ensures c.get-in-If-3.ensures) c.if_statement.ensures.runs

pub switch_statement-requires-clause-low : goal.switch_statement-requires-clause-low
switch_statement-requires-clause-low g c =
    low_by _ _ (g.L.Scene.setting c.args.self.now.scene.now) c.args.base (items.is-Switch c.args.c.now _ _ _ _ _ _ _ _ _ c.in-Switch.is c.as_slice-in-Switch.ensures c.get-in-Switch.ensures c.as_slice-in-Switch-2.ensures) c.requires.low

pub returns-in-Switch-clause-next : goal.returns-in-Switch-clause-next
returns-in-Switch-clause-next g c =
    takes_by c.switch_statement.result _ _ (g.L.Scene.setting c.args.self.now.scene.now) c.args.base (items.is-Switch c.args.c.now _ _ _ _ _ _ _ _ _ c.in-Switch.is c.as_slice-in-Switch.ensures c.get-in-Switch.ensures c.as_slice-in-Switch-2.ensures) c.switch_statement.ensures.next

pub returns-in-Switch-clause-runs : goal.returns-in-Switch-clause-runs
returns-in-Switch-clause-runs g c =
    acts_by c.switch_statement.result _ _ (g.L.Scene.setting c.args.self.now.scene.now) (env_of c.args.frame.now) c.args.base _ _ (items.is-Switch c.args.c.now _ _ _ _ _ _ _ _ _ c.in-Switch.is c.as_slice-in-Switch.ensures c.get-in-Switch.ensures c.as_slice-in-Switch-2.ensures) c.switch_statement.ensures.runs

pub loop_statement-requires-clause-low : goal.loop_statement-requires-clause-low
loop_statement-requires-clause-low g c =
    low_by _ _ (g.L.Scene.setting c.args.self.now.scene.now) c.args.base (items.is-Loop c.args.c.now _ _ _ _ _ c.in-Loop.is c.get-in-Loop.ensures) c.requires.low

pub returns-in-Loop-clause-next : goal.returns-in-Loop-clause-next
returns-in-Loop-clause-next g c =
    takes_by c.loop_statement.result _ _ (g.L.Scene.setting c.args.self.now.scene.now) c.args.base (items.is-Loop c.args.c.now _ _ _ _ _ c.in-Loop.is c.get-in-Loop.ensures) c.loop_statement.ensures.next

pub returns-in-Loop-clause-runs : goal.returns-in-Loop-clause-runs
returns-in-Loop-clause-runs g c =
    acts_by c.loop_statement.result _ _ (g.L.Scene.setting c.args.self.now.scene.now) (env_of c.args.frame.now) c.args.base _ _ (items.is-Loop c.args.c.now _ _ _ _ _ c.in-Loop.is c.get-in-Loop.ensures) c.loop_statement.ensures.runs

pub do_statement-requires-clause-low : goal.do_statement-requires-clause-low
do_statement-requires-clause-low g c =
    low_by _ _ (g.L.Scene.setting c.args.self.now.scene.now) c.args.base (items.is-Repeat c.args.c.now _ _ _ _ _ c.in-Repeat.is c.get-in-Repeat.ensures c.get-in-Repeat-2.ensures) c.requires.low

pub returns-in-Repeat-clause-next : goal.returns-in-Repeat-clause-next
returns-in-Repeat-clause-next g c =
    takes_by c.do_statement.result _ _ (g.L.Scene.setting c.args.self.now.scene.now) c.args.base (items.is-Repeat c.args.c.now _ _ _ _ _ c.in-Repeat.is c.get-in-Repeat.ensures c.get-in-Repeat-2.ensures) c.do_statement.ensures.next

pub returns-in-Repeat-clause-runs : goal.returns-in-Repeat-clause-runs
returns-in-Repeat-clause-runs g c =
    acts_by c.do_statement.result _ _ (g.L.Scene.setting c.args.self.now.scene.now) (env_of c.args.frame.now) c.args.base _ _ (items.is-Repeat c.args.c.now _ _ _ _ _ c.in-Repeat.is c.get-in-Repeat.ensures c.get-in-Repeat-2.ensures) c.do_statement.ensures.runs

pub return_statement-requires-clause-low : goal.return_statement-requires-clause-low
return_statement-requires-clause-low g c =
    return_low c.args.c.now _ (g.L.Scene.setting c.args.self.now.scene.now) c.args.base c.in-Return.is c.requires.low

pub returns-in-Return-clause-next : goal.returns-in-Return-clause-next
returns-in-Return-clause-next g c =
    takes_by c.return_statement.result _ _ (g.L.Scene.setting c.args.self.now.scene.now) c.args.base (items.is-Return c.args.c.now _ c.in-Return.is) c.return_statement.ensures.next

pub returns-in-Return-clause-runs : goal.returns-in-Return-clause-runs
returns-in-Return-clause-runs g c =
    acts_by c.return_statement.result _ _ (g.L.Scene.setting c.args.self.now.scene.now) (env_of c.args.frame.now) c.args.base _ _ (items.is-Return c.args.c.now _ c.in-Return.is) c.return_statement.ensures.runs

pub labeled-requires-clause-low : goal.labeled-requires-clause-low
labeled-requires-clause-low g c =
    low_by _ _ (g.L.Scene.setting c.args.self.now.scene.now) c.args.base (items.is-Label c.args.c.now _ _ _ _ c.in-Label.is (c.as_slice-in-Label.ensures ∙ c.get-in-Label.ensures) c.get-in-Label-2.ensures) c.requires.low

pub returns-in-Label-clause-next : goal.returns-in-Label-clause-next
returns-in-Label-clause-next g c =
    takes_by c.labeled.result _ _ (g.L.Scene.setting c.args.self.now.scene.now) c.args.base (items.is-Label c.args.c.now _ _ _ _ c.in-Label.is (c.as_slice-in-Label.ensures ∙ c.get-in-Label.ensures) c.get-in-Label-2.ensures) c.labeled.ensures.next

pub returns-in-Label-clause-runs : goal.returns-in-Label-clause-runs
returns-in-Label-clause-runs g c =
    acts_by c.labeled.result _ _ (g.L.Scene.setting c.args.self.now.scene.now) (env_of c.args.frame.now) c.args.base _ _ (items.is-Label c.args.c.now _ _ _ _ c.in-Label.is (c.as_slice-in-Label.ensures ∙ c.get-in-Label.ensures) c.get-in-Label-2.ensures) c.labeled.ensures.runs

pub case-requires-clause-low : goal.case-requires-clause-low
case-requires-clause-low g c =
    low_by _ _ (g.L.Scene.setting c.args.self.now.scene.now) c.args.base (items.is-Case c.args.c.now _ _ _ _ c.in-Case.is c.get-in-Case.ensures) c.requires.low

pub returns-in-Case-clause-next : goal.returns-in-Case-clause-next
returns-in-Case-clause-next g c =
    takes_by c.case.result _ _ (g.L.Scene.setting c.args.self.now.scene.now) c.args.base (items.is-Case c.args.c.now _ _ _ _ c.in-Case.is c.get-in-Case.ensures) c.case.ensures.next

pub returns-in-Case-clause-runs : goal.returns-in-Case-clause-runs
returns-in-Case-clause-runs g c =
    acts_by c.case.result _ _ (g.L.Scene.setting c.args.self.now.scene.now) (env_of c.args.frame.now) c.args.base _ _ (items.is-Case c.args.c.now _ _ _ _ c.in-Case.is c.get-in-Case.ensures) c.case.ensures.runs

pub default-requires-clause-low : goal.default-requires-clause-low
default-requires-clause-low g c =
    low_by _ _ (g.L.Scene.setting c.args.self.now.scene.now) c.args.base (items.is-Default c.args.c.now _ _ c.in-Default.is c.get-in-Default.ensures) c.requires.low

pub returns-in-Default-clause-next : goal.returns-in-Default-clause-next
returns-in-Default-clause-next g c =
    takes_by c.default.result _ _ (g.L.Scene.setting c.args.self.now.scene.now) c.args.base (items.is-Default c.args.c.now _ _ c.in-Default.is c.get-in-Default.ensures) c.default.ensures.next

pub returns-in-Default-clause-runs : goal.returns-in-Default-clause-runs
returns-in-Default-clause-runs g c =
    acts_by c.default.result _ _ (g.L.Scene.setting c.args.self.now.scene.now) (env_of c.args.frame.now) c.args.base _ _ (items.is-Default c.args.c.now _ _ c.in-Default.is c.get-in-Default.ensures) c.default.ensures.runs

pub returns-in-Nothing-clause-next : goal.returns-in-Nothing-clause-next
returns-in-Nothing-clause-next g c = none_by _ _ (g.L.Scene.setting c.args.self.now.scene.now) c.args.base (items.is-Nothing c.args.c.now _ c.in-Nothing.is) refl

pub returns-in-Nothing-clause-runs : goal.returns-in-Nothing-clause-runs
returns-in-Nothing-clause-runs g c = acts_by (Ok c.args.base) _ _ (g.L.Scene.setting c.args.self.now.scene.now) (env_of c.args.frame.now) c.args.base _ _ (items.is-Nothing c.args.c.now _ c.in-Nothing.is) refl

pub returns-in-Static-clause-next : goal.returns-in-Static-clause-next
returns-in-Static-clause-next g c = none_by _ _ (g.L.Scene.setting c.args.self.now.scene.now) c.args.base (items.is-Static c.args.c.now _ _ c.in-Static.is) refl

pub returns-in-Static-clause-runs : goal.returns-in-Static-clause-runs
returns-in-Static-clause-runs g c = acts_by (Ok c.args.base) _ _ (g.L.Scene.setting c.args.self.now.scene.now) (env_of c.args.frame.now) c.args.base _ _ (items.is-Static c.args.c.now _ _ c.in-Static.is) refl

pub returns-in-Continue-clause-next : goal.returns-in-Continue-clause-next
returns-in-Continue-clause-next g c = none_by _ _ (g.L.Scene.setting c.args.self.now.scene.now) c.args.base (items.is-Continue c.args.c.now c.in-Continue.is) refl

pub returns-in-Continue-clause-runs : goal.returns-in-Continue-clause-runs
returns-in-Continue-clause-runs g c = acts_by (Ok c.args.base) _ _ (g.L.Scene.setting c.args.self.now.scene.now) (env_of c.args.frame.now) c.args.base _ _ (items.is-Continue c.args.c.now c.in-Continue.is) c.jump.ensures.runs

pub returns-in-Break-clause-next : goal.returns-in-Break-clause-next
returns-in-Break-clause-next g c = none_by _ _ (g.L.Scene.setting c.args.self.now.scene.now) c.args.base (items.is-Break c.args.c.now c.in-Break.is) refl

pub returns-in-Break-clause-runs : goal.returns-in-Break-clause-runs
returns-in-Break-clause-runs g c = acts_by (Ok c.args.base) _ _ (g.L.Scene.setting c.args.self.now.scene.now) (env_of c.args.frame.now) c.args.base _ _ (items.is-Break c.args.c.now c.in-Break.is) c.jump-in-Break.ensures.runs

pub returns-in_ok-go_to-in-Goto-clause-next : goal.returns-in_ok-go_to-in-Goto-clause-next
returns-in_ok-go_to-in-Goto-clause-next g c = none_by _ _ (g.L.Scene.setting c.args.self.now.scene.now) c.args.base (items.is-Goto c.args.c.now _ c.in-Goto.is) refl

pub returns-in_ok-go_to-in-Goto-clause-runs : goal.returns-in_ok-go_to-in-Goto-clause-runs
returns-in_ok-go_to-in-Goto-clause-runs g c =
    acts_by (Ok c.args.base) _ _ (g.L.Scene.setting c.args.self.now.scene.now) (env_of c.args.frame.now) c.args.base _ _ (items.is-Goto c.args.c.now _ c.in-Goto.is) c.in_ok-go_to-in-Goto.ensures.runs
