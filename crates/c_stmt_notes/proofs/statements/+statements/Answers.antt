use Rattle.std.proofs.Common.{List, map, refl, ap, ◌∙◌}
use Rattle.c_language.specs.declared.unit.Stmt.{Stmt}
use Rattle.c_typing.proofs.Declares as parts
use Rattle.c_means.specs.Items.{Case, in_scope}
use Rattle.c_means.specs.Statements.{stmt}
use Rattle.c_item_notes.specs.Levels.{judged}
use Rattle.c_item_notes.specs.ItemTellings.{Summed, and_item, summed_in}
use Rattle.c_stmt_notes.specs.StatementTellings.{context_in}
use Rattle.c_stmt_notes.proofs.Arms as arm
use Rattle.c_stmt_notes.proofs.Together.{a_sub}
use Rattle.c_stmt_notes.proofs.Turns.{walked, walked_is}
use Rattle.c_stmt_notes.proofs.statements.+statements.Goals as goal

pub statement-returns-in_ok-compound-in-Block : goal.statement-returns-in_ok-compound-in-Block
statement-returns-in_ok-compound-in-Block t c =
    arm.of_block (judged c.args.source.now) (context_in c.args.x.now c.args.scope.now) c.args.found.now c.args.node.now _ _ c.as_slice.result.now c.in_ok-labels-in-Block.labels _ c.in-Block.is c.as_slice.ensures
    c.in_ok-labels-in-Block.ensures c.in_ok-compound-in-Block.ensures

pub statement-returns-in_ok-declared-in-Declared : goal.statement-returns-in_ok-declared-in-Declared
statement-returns-in_ok-declared-in-Declared t c =
    arm.of_declared (judged c.args.source.now) (context_in c.args.x.now c.args.scope.now) c.args.found.now c.args.node.now _ _ c.in-Declared.is c.in_ok-declared-in-Declared.ensures

pub statement-returns-in_ok-maybe_effect-in-Value : goal.statement-returns-in_ok-maybe_effect-in-Value
statement-returns-in_ok-maybe_effect-in-Value t c =
    arm.of_value (judged c.args.source.now) (context_in c.args.x.now c.args.scope.now) c.args.found.now c.args.node.now _ _ _ c.in-Value.is c.in_ok-maybe_effect-in-Value.ensures

pub statement-returns-in_ok-statement-in-Label : goal.statement-returns-in_ok-statement-in-Label
statement-returns-in_ok-statement-in-Label t c =
    arm.of_label (judged c.args.source.now) (context_in c.args.x.now c.args.scope.now) c.args.found.now c.args.node.now _ _ _ c.get.result.now c.label_front.new.found _ c.in-Label.is
    c.label_front.ensures c.get.ensures c.in_ok-statement-in-Label.ensures

pub statement-returns-in_ok-statement-in-Case : goal.statement-returns-in_ok-statement-in-Case
statement-returns-in_ok-statement-in-Case t c =
    arm.of_case (judged c.args.source.now) (context_in c.args.x.now c.args.scope.now) c.args.found.now c.args.node.now _ _ c.get-in-Case.result.now _ c.get-in-Case-2.result.now
    c.case_front.new.found c.case_front.new.scope _ c.in-Case.is c.get-in-Case.ensures c.get-in-Case-2.ensures
    c.in_ok-case_front-in-Case.ensures c.in_ok-statement-in-Case.ensures

pub statement-returns-in_ok-statement-in-Default : goal.statement-returns-in_ok-statement-in-Default
statement-returns-in_ok-statement-in-Default t c =
    arm.of_default (judged c.args.source.now) (context_in c.args.x.now c.args.scope.now) c.args.found.now c.args.node.now _ _ c.get-in-Default.result.now c.default_front.new.found _ c.in-Default.is
    c.in_ok-default_front-in-Default.ensures c.get-in-Default.ensures c.in_ok-statement-in-Default.ensures

pub statement-returns-in_ok-else_block-in-If : goal.statement-returns-in_ok-else_block-in-If
statement-returns-in_ok-else_block-in-If t c =
    arm.of_if (judged c.args.source.now) (context_in c.args.x.now c.args.scope.now) c.args.found.now c.args.node.now _ _ c.get-in-If.result.now _ c.get-in-If-2.result.now _
    c.tested.new.found c.sub_block.new.found c.else_block.new.found c.enter.new.self c.tested.new.scope
    c.sub_block.new.scope c.else_block.new.scope c.leave.new.self c.in-If.is c.in_ok-enter-in-If.ensures
    c.get-in-If.ensures c.get-in-If-2.ensures c.in_ok-tested-in-If.ensures c.in_ok-sub_block-in-If.ensures
    c.in_ok-else_block-in-If.ensures c.leave.ensures

pub statement-returns-in_ok-switch_statement-in-Switch : goal.statement-returns-in_ok-switch_statement-in-Switch
statement-returns-in_ok-switch_statement-in-Switch t c =
    arm.of_switch (judged c.args.source.now) (context_in c.args.x.now c.args.scope.now) c.args.found.now c.args.node.now _ _ c.get-in-Switch-2.result.now _ c.get-in-Switch.result.now _ c.in-Switch.is
    c.get-in-Switch-2.ensures c.get-in-Switch.ensures c.in_ok-switch_statement-in-Switch.ensures

pub statement-returns-in_ok-loop_body-in-While : goal.statement-returns-in_ok-loop_body-in-While
statement-returns-in_ok-loop_body-in-While t c =
    arm.of_while (judged c.args.source.now) (context_in c.args.x.now c.args.scope.now) c.args.found.now c.args.node.now _ _ c.get-in-While.result.now _ c.get-in-While-2.result.now
    c.tested-in-While.new.found c.loop_body.new.found c.enter-in-While.new.self c.tested-in-While.new.scope
    c.loop_body.new.scope c.leave-in-While.new.self c.in-While.is c.in_ok-enter-in-While.ensures c.get-in-While.ensures
    c.get-in-While-2.ensures c.in_ok-tested-in-While.ensures c.in_ok-loop_body-in-While.ensures c.leave-in-While.ensures

pub statement-returns-in_ok-tested-in-Do : goal.statement-returns-in_ok-tested-in-Do
statement-returns-in_ok-tested-in-Do t c =
    arm.of_do (judged c.args.source.now) (context_in c.args.x.now c.args.scope.now) c.args.found.now c.args.node.now _ _ c.get-in-Do-2.result.now _ c.get-in-Do.result.now
    c.loop_body-in-Do.new.found c.tested-in-Do.new.found c.enter-in-Do.new.self c.loop_body-in-Do.new.scope
    c.tested-in-Do.new.scope c.leave-in-Do.new.self c.in-Do.is c.in_ok-enter-in-Do.ensures c.get-in-Do.ensures
    c.get-in-Do-2.ensures c.in_ok-loop_body-in-Do.ensures c.in_ok-tested-in-Do.ensures c.leave-in-Do.ensures

pub statement-returns-in_ok-and_item-in-For : goal.statement-returns-in_ok-and_item-in-For
statement-returns-in_ok-and_item-in-For t c =
    arm.of_for (judged c.args.source.now) (context_in c.args.x.now c.args.scope.now) c.args.found.now c.args.node.now _ _ _ _ _ c.get-in-For.result.now
    c.for_begun.new.found c.maybe_tested.new.found c.loop_body-in-For.new.found c.and_item.new.found c.in_ok-last-in-For.last
    c.enter-in-For.new.self c.for_begun.new.scope c.maybe_tested.new.scope c.step_notes.new.scope
    c.loop_body-in-For.new.scope c.leave-in-For.new.self c.in-For.is c.in_ok-enter-in-For.ensures c.get-in-For.ensures
    c.in_ok-for_begun-in-For.ensures c.in_ok-maybe_tested-in-For.ensures c.in_ok-last-in-For.ensures
    c.in_ok-loop_body-in-For.ensures c.in_ok-and_item-in-For.ensures c.leave-in-For.ensures

pub statement-returns-in-Goto : goal.statement-returns-in-Goto
statement-returns-in-Goto t c =
    arm.of_goto (judged c.args.source.now) (context_in c.args.x.now c.args.scope.now) c.args.found.now c.args.node.now _ _ c.goto_notes.new.found c.in-Goto.is c.goto_notes.ensures

pub statement-returns-in-Continue : goal.statement-returns-in-Continue
statement-returns-in-Continue t c =
    arm.of_continue (judged c.args.source.now) (context_in c.args.x.now c.args.scope.now) c.args.found.now c.args.node.now _ c.jump_notes.new.found c.in-Continue.is c.jump_notes.ensures

pub statement-returns-in-Break : goal.statement-returns-in-Break
statement-returns-in-Break t c =
    arm.of_break (judged c.args.source.now) (context_in c.args.x.now c.args.scope.now) c.args.found.now c.args.node.now _ c.jump_notes-in-Break.new.found c.in-Break.is c.jump_notes-in-Break.ensures

pub statement-returns-in_ok-return_notes-in-Return : goal.statement-returns-in_ok-return_notes-in-Return
statement-returns-in_ok-return_notes-in-Return t c =
    arm.of_return (judged c.args.source.now) (context_in c.args.x.now c.args.scope.now) c.args.found.now c.args.node.now _ _ _ c.in-Return.is c.in_ok-return_notes-in-Return.ensures

pub compound-returns : goal.compound-returns
compound-returns t c =
    arm.a_compound (judged c.args.source.now) (context_in c.args.x.now c.args.scope.now) c.args.found.now (map stmt c.args.items.now) c.args.labels.now c.take_cases-cases.new.found
    c.all_items.new.found c.put_cases.new.found c.enter.new.self c.all_items.new.scope c.leave.new.self
    c.take_cases-cases.ensures.rest c.in_ok-enter.ensures c.in_ok-all_items.ensures c.leave.ensures
    (c.put_cases.ensures ∙ ap (λ (cs : List Case). record c.all_items.new.found { cases = cs }) c.take_cases-cases.ensures.cases)

pub all_items-loop-item-preserved : goal.all_items-loop-item-preserved
all_items-loop-item-preserved t c =
    parts.goes-on (λ (xs : List Stmt) (z : Summed). walked (judged c.args.source.now) (context_in c.args.x.now c.args.scope.now) (map stmt xs) z)
    {step = λ (x : Stmt) (z : Summed). and_item (judged c.args.source.now) z ((stmt x).here (in_scope z.after (context_in c.args.x.now c.args.scope.now)))}
    (λ _ _ _. refl) c.args.items.now c.loop-item.item-index c.item-item.result c.get.result.now
    (summed_in c.loop-item.found c.loop-item.scope) (summed_in c.statement.new.found c.statement.new.scope)
    c.loop-item-test.true c.item-item.is c.get.ensures c.in_ok-statement.ensures c.loop-item.invariant

pub all_items-returns : goal.all_items-returns
all_items-returns t c =
    parts.ends (λ (xs : List Stmt) (z : Summed). walked (judged c.args.source.now) (context_in c.args.x.now c.args.scope.now) (map stmt xs) z) c.args.items.now
    c.loop-item.item-index (summed_in c.loop-item.found c.loop-item.scope) refl c.loop-item-test.false
    c.loop-item.invariant
    ∙ walked_is (judged c.args.source.now) (context_in c.args.x.now c.args.scope.now) (map stmt c.args.items.now) (summed_in c.args.found.now c.args.scope.now)

pub content-returns-in_ok-all_items-in-Block : goal.content-returns-in_ok-all_items-in-Block
content-returns-in_ok-all_items-in-Block t c =
    arm.block_content (judged c.args.source.now) (context_in c.args.x.now c.args.scope.now) c.args.found.now c.args.node.now _ _ c.as_slice.result.now _ c.in-Block.is c.as_slice.ensures
    c.in_ok-all_items-in-Block.ensures

pub content-returns-in_ok-statement-in_default : goal.content-returns-in_ok-statement-in_default
content-returns-in_ok-statement-in_default t c =
    arm.other_content (judged c.args.source.now) (context_in c.args.x.now c.args.scope.now) c.args.found.now c.args.node.now _ c.in_default.not-Block c.in_ok-statement-in_default.ensures

pub sub_block-returns : goal.sub_block-returns
sub_block-returns t c =
    a_sub (judged c.args.source.now) (stmt c.args.node.now) (context_in c.args.x.now c.args.scope.now) c.in_ok-labels.labels c.args.found.now
    c.take_cases-cases.new.found c.content.new.found c.put_cases.new.found c.enter.new.self c.content.new.scope
    c.leave.new.self c.in_ok-labels.ensures c.take_cases-cases.ensures.rest c.in_ok-enter.ensures c.in_ok-content.ensures
    c.leave.ensures
    (c.put_cases.ensures ∙ ap (λ (cs : List Case). record c.content.new.found { cases = cs }) c.take_cases-cases.ensures.cases)

pub loop_body-returns : goal.loop_body-returns
loop_body-returns t c =
    c.in_ok-sub_block.ensures

pub else_block-returns-in-None : goal.else_block-returns-in-None
else_block-returns-in-None t c =
    arm.no_else (judged c.args.source.now) (context_in c.args.x.now c.args.scope.now) c.args.found.now c.args.negative.now c.in-None.is

pub else_block-returns-in_ok-sub_block-in-Some : goal.else_block-returns-in_ok-sub_block-in-Some
else_block-returns-in_ok-sub_block-in-Some t c =
    arm.an_else (judged c.args.source.now) (context_in c.args.x.now c.args.scope.now) c.args.found.now c.args.negative.now _ c.get.result.now _ c.in-Some.is c.get.ensures
    c.in_ok-sub_block-in-Some.ensures

pub switch_statement-returns : goal.switch_statement-returns
switch_statement-returns t c =
    arm.a_switch (judged c.args.source.now) (context_in c.args.x.now c.args.scope.now) c.args.found.now c.args.at c.args.value.now (stmt c.args.body.now)
    c.switch_said.new.found c.set_aside-aside.new.found c.content.new.found c.take_back.new.found c.enter.new.self
    c.switch_said.new.scope c.enter-2.new.self c.content.new.scope c.leave.new.self c.leave-2.new.self
    c.in_ok-labels.labels c.in_ok-said.said c.set_aside-aside.result c.in_ok-enter.ensures c.in_ok-said.ensures.notes
    c.in_ok-said.ensures.breach c.in_ok-said.ensures.kind c.in_ok-labels.ensures c.set_aside-aside.ensures.aside
    c.set_aside-aside.ensures.rest c.in_ok-enter-2.ensures c.in_ok-content.ensures c.leave.ensures c.leave-2.ensures
    c.in_ok-take_back.ensures
