use Rattle.std.proofs.Common.{ℕ, None, map, refl, ap}
use Rattle.std.proofs.lemmas.Result.{IfOk-weaker}
use Rattle.c_means.specs.Notes.{noted}
use Rattle.c_means.specs.Statements.{stmt}
use Rattle.c_means.specs.Statements as form
use Rattle.core_codes.specs.Made.{IsMade}
use Rattle.core_codes.proofs.Arms as arm
use Rattle.core_codes.proofs.InTurn as turn
use Rattle.core_codes.proofs.statements.+statements.Goals as goal

pub statement-returns-in-Block : goal.statement-returns-in-Block
statement-returns-in-Block g t c =
    IfOk-weaker c.block.result (λ y. IsMade (g.P.Parts.numbering c.args.parts.now) c.args.x c.args.scope.now (form.compound (map stmt c.as_slice.result.now)).here y c.block.new.scope) _ (λ y h. arm.of_block (g.P.Parts.numbering c.args.parts.now) c.args.x c.args.scope.now c.args.node.now _ _ c.as_slice.result.now y c.block.new.scope c.in-Block.is c.as_slice.ensures h) c.block.ensures

pub statement-returns-in_ok-begun-in-Declared : goal.statement-returns-in_ok-begun-in-Declared
statement-returns-in_ok-begun-in-Declared g t c =
    IfOk-weaker c.declared_made.result _ _ (λ y h. arm.of_declared (g.P.Parts.numbering c.args.parts.now) c.args.x c.args.scope.now c.args.node.now _ c.in_ok-begun-in-Declared.begun y c.declaration.new.scope c.in-Declared.is c.in_ok-begun-in-Declared.ensures h) c.declared_made.ensures

pub statement-returns-in_ok-value-in-Value : goal.statement-returns-in_ok-value-in-Value
statement-returns-in_ok-value-in-Value g t c =
    IfOk-weaker c.effect_made.result _ _ (λ y h. arm.of_value (g.P.Parts.numbering c.args.parts.now) c.args.x c.args.scope.now c.args.node.now _ _ c.in_ok-value-in-Value.value y c.maybe_effect.new.scope c.in-Value.is c.in_ok-value-in-Value.ensures h) c.effect_made.ensures

pub statement-returns-in_ok-body-in-Label : goal.statement-returns-in_ok-body-in-Label
statement-returns-in_ok-body-in-Label g t c =
    IfOk-weaker c.label_made.result _ _ (λ y h. arm.of_label (g.P.Parts.numbering c.args.parts.now) c.args.x c.args.scope.now c.args.node.now _ _ _ c.get.result.now c.in_ok-body-in-Label.body y c.statement.new.scope c.in-Label.is c.get.ensures c.in_ok-body-in-Label.ensures h) c.label_made.ensures

pub statement-returns-in-Case : goal.statement-returns-in-Case
statement-returns-in-Case g t c =
    IfOk-weaker c.case_statement.result (λ y. (at : ℕ) → IsMade (g.P.Parts.numbering c.args.parts.now) c.args.x c.args.scope.now (form.case_labeled at (noted c.get-in-Case-2.result.now) (stmt c.get-in-Case.result.now)).here y c.case_statement.new.scope) _ (λ y h. arm.of_case (g.P.Parts.numbering c.args.parts.now) c.args.x c.args.scope.now c.args.node.now c.in-Case.at _ c.get-in-Case-2.result.now _ c.get-in-Case.result.now y c.case_statement.new.scope c.in-Case.is c.get-in-Case-2.ensures c.get-in-Case.ensures (h c.in-Case.at)) c.case_statement.ensures

pub statement-returns-in_ok-body-in-Default : goal.statement-returns-in_ok-body-in-Default
statement-returns-in_ok-body-in-Default g t c =
    IfOk-weaker c.default_made.result _ _ (λ y h. arm.of_default (g.P.Parts.numbering c.args.parts.now) c.args.x c.args.scope.now c.args.node.now _ _ c.get-in-Default.result.now c.in_ok-body-in-Default.body y c.statement-in-Default.new.scope c.in-Default.is c.get-in-Default.ensures c.in_ok-body-in-Default.ensures h) c.default_made.ensures

pub statement-returns-in_ok-second-in-If : goal.statement-returns-in_ok-second-in-If
statement-returns-in_ok-second-in-If g t c =
    IfOk-weaker c.if_made.result _ _ (λ y h. arm.of_if (g.P.Parts.numbering c.args.parts.now) c.args.x c.args.scope.now c.args.node.now c.in-If.at _ c.get-in-If-2.result.now _ c.get-in-If.result.now _ c.in_ok-begun-in-If.begun c.if_begun.new.scope c.in_ok-second-in-If.second y c.else_block.new.scope c.leave.new.self c.in-If.is c.get-in-If-2.ensures c.get-in-If.ensures c.in_ok-begun-in-If.ensures c.in_ok-second-in-If.ensures c.leave.ensures h) c.if_made.ensures

pub statement-returns-in-Switch : goal.statement-returns-in-Switch
statement-returns-in-Switch g t c =
    IfOk-weaker c.switch_statement.result (λ y. IsMade (g.P.Parts.numbering c.args.parts.now) c.args.x c.args.scope.now (form.switch_of c.in-Switch.at (noted c.get-in-Switch-2.result.now) (stmt c.get-in-Switch.result.now)).here y c.switch_statement.new.scope) _ (λ y h. arm.of_switch (g.P.Parts.numbering c.args.parts.now) c.args.x c.args.scope.now c.args.node.now c.in-Switch.at _ c.get-in-Switch-2.result.now _ c.get-in-Switch.result.now y c.switch_statement.new.scope c.in-Switch.is c.get-in-Switch-2.ensures c.get-in-Switch.ensures h) c.switch_statement.ensures

pub statement-returns-in-While : goal.statement-returns-in-While
statement-returns-in-While g t c =
    IfOk-weaker c.while_statement.result (λ y. IsMade (g.P.Parts.numbering c.args.parts.now) c.args.x c.args.scope.now (form.while_of c.in-While.at (noted c.get-in-While-2.result.now) (stmt c.get-in-While.result.now)).here y c.while_statement.new.scope) _ (λ y h. arm.of_while (g.P.Parts.numbering c.args.parts.now) c.args.x c.args.scope.now c.args.node.now c.in-While.at _ c.get-in-While-2.result.now _ c.get-in-While.result.now y c.while_statement.new.scope c.in-While.is c.get-in-While-2.ensures c.get-in-While.ensures h) c.while_statement.ensures

pub statement-returns-in-Do : goal.statement-returns-in-Do
statement-returns-in-Do g t c =
    IfOk-weaker c.do_statement.result (λ y. IsMade (g.P.Parts.numbering c.args.parts.now) c.args.x c.args.scope.now (form.do_of c.in-Do.at (stmt c.get-in-Do.result.now) (noted c.get-in-Do-2.result.now)).here y c.do_statement.new.scope) _ (λ y h. arm.of_do (g.P.Parts.numbering c.args.parts.now) c.args.x c.args.scope.now c.args.node.now c.in-Do.at _ c.get-in-Do.result.now _ c.get-in-Do-2.result.now y c.do_statement.new.scope c.in-Do.is c.get-in-Do.ensures c.get-in-Do-2.ensures h) c.do_statement.ensures

pub statement-returns-in_ok-body-in-For : goal.statement-returns-in_ok-body-in-For
statement-returns-in_ok-body-in-For g t c =
    IfOk-weaker c.for_made.result _ _ (λ y h. arm.of_for (g.P.Parts.numbering c.args.parts.now) c.args.x c.args.scope.now c.args.node.now c.in-For.at _ _ _ _ c.get-in-For.result.now c.enter.new.self c.in_ok-begun-in-For.begun c.for_begun.new.scope c.in_ok-body-in-For.body y c.sub_block.new.scope c.leave-in-For.new.self c.in-For.is c.get-in-For.ensures c.in_ok-enter-in-For.ensures c.in_ok-begun-in-For.ensures c.in_ok-body-in-For.ensures c.leave-in-For.ensures h) c.for_made.ensures

pub statement-returns-in-Goto : goal.statement-returns-in-Goto
statement-returns-in-Goto g t c =
    IfOk-weaker c.goto_made.result _ _ (λ y h. arm.of_goto (g.P.Parts.numbering c.args.parts.now) c.args.x c.args.scope.now c.args.node.now _ _ y c.in-Goto.is h) c.goto_made.ensures

pub statement-returns-in-Continue : goal.statement-returns-in-Continue
statement-returns-in-Continue g t c =
    IfOk-weaker c.continue_made.result _ _ (λ y h. arm.of_continue (g.P.Parts.numbering c.args.parts.now) c.args.x c.args.scope.now c.args.node.now _ y c.in-Continue.is h) c.continue_made.ensures

pub statement-returns-in-Break : goal.statement-returns-in-Break
statement-returns-in-Break g t c =
    IfOk-weaker c.break_made.result _ _ (λ y h. arm.of_break (g.P.Parts.numbering c.args.parts.now) c.args.x c.args.scope.now c.args.node.now _ y c.in-Break.is h) c.break_made.ensures

pub statement-returns-in_ok-value-in-Return : goal.statement-returns-in_ok-value-in-Return
statement-returns-in_ok-value-in-Return g t c =
    IfOk-weaker c.return_made.result _ _ (λ y h. arm.of_return (g.P.Parts.numbering c.args.parts.now) c.args.x c.args.scope.now c.args.node.now _ _ c.in_ok-value-in-Return.value y c.maybe_value.new.scope c.in-Return.is c.in_ok-value-in-Return.ensures h) c.return_made.ensures

pub block-returns : goal.block-returns
block-returns g t c =
    IfOk-weaker c.compound_made.result _ _ (λ y h. arm.a_block (g.P.Parts.numbering c.args.parts.now) c.args.x c.args.scope.now c.args.items.now c.within.result c.enter.new.self c.in_ok-made.made y c.all_items.new.scope c.leave.new.self c.within.ensures c.in_ok-enter.ensures c.in_ok-made.ensures c.leave.ensures h) c.compound_made.ensures

pub all_items-loop-item-init : goal.all_items-loop-item-init
all_items-loop-item-init g t c =
    turn.begins (g.P.Parts.numbering c.args.parts.now) c.args.x c.args.scope.now (map stmt c.args.items.now) c.nothing-made.result c.nothing-made.ensures

pub all_items-loop-item-preserved : goal.all_items-loop-item-preserved
all_items-loop-item-preserved g t c =
    turn.an_item (g.P.Parts.numbering c.args.parts.now) c.args.x c.args.scope.now c.args.items.now c.loop-item.item-index c.item-item.result c.get.result.now c.loop-item.made c.in_ok-more.more c.in_ok-made.made c.loop-item.scope c.statement.new.scope c.loop-item-test.true c.item-item.is c.get.ensures c.loop-item.invariant c.in_ok-more.ensures c.in_ok-made.ensures

pub all_items-returns : goal.all_items-returns
all_items-returns g t c =
    turn.all_items (g.P.Parts.numbering c.args.parts.now) c.args.x c.args.scope.now c.args.items.now c.loop-item.item-index c.loop-item.made c.loop-item.scope c.loop-item-test.false c.loop-item.invariant

pub content-returns-in_ok-made-in-Block-clause-content : goal.content-returns-in_ok-made-in-Block-clause-content
content-returns-in_ok-made-in-Block-clause-content g t c =
    arm.block_content (g.P.Parts.numbering c.args.parts.now) c.args.x c.args.scope.now c.args.node.now _ _ c.as_slice.result.now c.in_ok-made-in-Block.made c.content.result c.all_items.new.scope c.in-Block.is c.as_slice.ensures c.in_ok-made-in-Block.ensures c.content.ensures

pub content-returns-in_ok-made-in-Block-clause-block : goal.content-returns-in_ok-made-in-Block-clause-block
content-returns-in_ok-made-in-Block-clause-block g t c =
    arm.block_is (g.P.Parts.numbering c.args.parts.now) c.args.x c.args.scope.now c.args.node.now _ _ _ c.in-Block.is
    (ap (λ b. b.content.is_compound) c.content.ensures)

pub content-returns-in_ok-made-in_default : goal.content-returns-in_ok-made-in_default
content-returns-in_ok-made-in_default g t c = record {
  content = arm.other_content (g.P.Parts.numbering c.args.parts.now) c.args.x c.args.scope.now c.args.node.now
      c.in_ok-made-in_default.made c.content-in_default.result c.statement.new.scope c.in_default.not-Block
      c.in_ok-made-in_default.ensures c.content-in_default.ensures;
  block = arm.other_is (g.P.Parts.numbering c.args.parts.now) c.args.x c.args.scope.now c.args.node.now _
      c.in_default.not-Block (ap (λ b. b.content.is_compound) c.content-in_default.ensures);
}

pub sub_block-returns : goal.sub_block-returns
sub_block-returns g t c =
    arm.a_sub (g.P.Parts.numbering c.args.parts.now) c.args.x c.args.scope.now c.args.node.now c.within.result c.enter.new.self c.in_ok-inside.inside c.in_ok-block.block c.content.new.scope c.leave.new.self c.within.ensures c.in_ok-enter.ensures c.in_ok-inside.ensures.content c.leave.ensures c.in_ok-block.ensures

pub case_statement-returns : goal.case_statement-returns
case_statement-returns g t c =
    IfOk-weaker c.case_made.result _ _
    (λ y h at. arm.a_case (g.P.Parts.numbering c.args.parts.now) c.args.x c.args.scope.now at (noted c.args.value.now)
    c.in_ok-found.found c.value.new.scope c.case_constant-constant.result (stmt c.args.body.now) c.in_ok-body.body y
    c.statement.new.scope c.in_ok-found.ensures c.case_constant-constant.ensures c.in_ok-body.ensures h)
    c.case_made.ensures

pub if_begun-returns : goal.if_begun-returns
if_begun-returns g t c =
    arm.an_if (g.P.Parts.numbering c.args.parts.now) c.args.x c.args.scope.now (noted c.args.condition.now) c.enter.new.self c.in_ok-found.found c.value.new.scope (stmt c.args.positive.now) c.in_ok-positive.positive c.sub_block.new.scope _ c.in_ok-enter.ensures c.in_ok-found.ensures c.in_ok-positive.ensures refl

pub else_block-returns-in_ok-second-in-Some : goal.else_block-returns-in_ok-second-in-Some
else_block-returns-in_ok-second-in-Some g t c =
    arm.an_else (g.P.Parts.numbering c.args.parts.now) c.args.x c.args.scope.now c.args.negative.now _ c.get.result.now c.in_ok-second-in-Some.second c.sub_block.new.scope c.in-Some.is c.get.ensures c.in_ok-second-in-Some.ensures

pub else_block-returns-in-None : goal.else_block-returns-in-None
else_block-returns-in-None g t c =
    arm.no_else (g.P.Parts.numbering c.args.parts.now) c.args.x c.args.scope.now c.args.negative.now None c.in-None.is refl

pub switch_statement-returns : goal.switch_statement-returns
switch_statement-returns g t c =
    IfOk-weaker c.switch_made.result _ _ (λ y h. arm.a_switch (g.P.Parts.numbering c.args.parts.now) c.args.x c.args.scope.now c.args.at (noted c.args.value.now) c.enter.new.self c.in_ok-found.found c.value.new.scope c.tables.result.now c.in_ok-compared.compared c.choosing.result c.enter-2.new.self (stmt c.args.body.now) c.in_ok-body.body c.content.new.scope c.leave.new.self c.leave-2.new.self y c.in_ok-enter.ensures c.in_ok-found.ensures c.tables.ensures c.in_ok-compared.ensures c.choosing.ensures c.in_ok-enter-2.ensures c.in_ok-body.ensures.content c.leave.ensures c.leave-2.ensures h) c.switch_made.ensures

pub while_statement-returns : goal.while_statement-returns
while_statement-returns g t c =
    IfOk-weaker c.while_made.result _ _ (λ y h. arm.a_while (g.P.Parts.numbering c.args.parts.now) c.args.x c.args.scope.now c.args.at (noted c.args.condition.now) c.enter.new.self c.in_ok-found.found c.value.new.scope (stmt c.args.body.now) c.in_ok-body.body c.sub_block.new.scope c.leave.new.self y c.in_ok-enter.ensures c.in_ok-found.ensures c.in_ok-body.ensures c.leave.ensures h) c.while_made.ensures

pub do_statement-returns : goal.do_statement-returns
do_statement-returns g t c =
    IfOk-weaker c.do_made.result _ _ (λ y h. arm.a_do (g.P.Parts.numbering c.args.parts.now) c.args.x c.args.scope.now c.args.at c.enter.new.self (stmt c.args.body.now) c.in_ok-body.body c.sub_block.new.scope (noted c.args.condition.now) c.in_ok-found.found c.value.new.scope c.leave.new.self y c.in_ok-enter.ensures c.in_ok-body.ensures c.in_ok-found.ensures c.leave.ensures h) c.do_made.ensures
