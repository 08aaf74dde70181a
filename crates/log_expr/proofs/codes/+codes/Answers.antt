use Rattle.std.proofs.Common.{◌≡◌, ◌-◌, suc, arith}
use Rattle.log_expr.proofs.OnCodes as on
use Rattle.log_expr.proofs.codes.+codes.Goals as goal

pub walk_code-returns-in-Nothing : goal.walk_code-returns-in-Nothing
walk_code-returns-in-Nothing g t c = on.on_Nothing c.in-Nothing.is

pub walk_code-returns-in-Static : goal.walk_code-returns-in-Static
walk_code-returns-in-Static g t c = on.on_Static c.in-Static.is

pub walk_code-returns-in_ok-step_value-in-Value : goal.walk_code-returns-in_ok-step_value-in-Value
walk_code-returns-in_ok-step_value-in-Value g t c = on.on_Value c.in-Value.is c.get.ensures c.in_ok-step_value-in-Value.ensures

pub walk_code-returns-in_ok-step_settings-in-Declare : goal.walk_code-returns-in_ok-step_settings-in-Declare
walk_code-returns-in_ok-step_settings-in-Declare g t c = on.on_Declare c.in-Declare.is c.as_slice.ensures c.in_ok-step_settings-in-Declare.ensures

pub walk_code-returns-in_ok-leave-in-Block : goal.walk_code-returns-in_ok-leave-in-Block
walk_code-returns-in_ok-leave-in-Block g t c = on.on_Block c.in-Block.is c.as_slice-in-Block.ensures c.in_ok-enter-in-Block.ensures c.in_ok-walk_codes-in-Block.ensures c.in_ok-leave-in-Block.ensures

pub walk_code-returns-in_ok-walk_code-in-Label : goal.walk_code-returns-in_ok-walk_code-in-Label
walk_code-returns-in_ok-walk_code-in-Label g t c = on.on_Label c.in-Label.is c.get-in-Label.ensures c.in_ok-pass_label-in-Label.ensures c.in_ok-walk_code-in-Label.ensures

pub walk_code-returns-in_ok-walk_code-in-Case : goal.walk_code-returns-in_ok-walk_code-in-Case
walk_code-returns-in_ok-walk_code-in-Case g t c = on.on_Case c.in-Case.is c.get-in-Case.ensures c.in_ok-pass_choice-in-Case.ensures.case c.in_ok-walk_code-in-Case.ensures

pub walk_code-returns-in_ok-walk_code-in-Default : goal.walk_code-returns-in_ok-walk_code-in-Default
walk_code-returns-in_ok-walk_code-in-Default g t c = on.on_Default c.in-Default.is c.get-in-Default.ensures c.in_ok-pass_choice-in-Default.ensures.default c.in_ok-walk_code-in-Default.ensures

pub walk_code-returns-in_ok-leave-in-If : goal.walk_code-returns-in_ok-leave-in-If
walk_code-returns-in_ok-leave-in-If g t c = on.on_If c.in-If.is c.get-in-If.ensures c.get-in-If-2.ensures c.get-in-If-3.ensures c.in_ok-step_value-in-If.ensures c.in_ok-enter-in-If.ensures c.in_ok-walk_code-in-If.ensures c.in_ok-begin_again-in-If.ensures c.in_ok-walk_code-in-If-2.ensures c.in_ok-leave-in-If.ensures

pub walk_code-returns-in_ok-leave-in-Switch : goal.walk_code-returns-in_ok-leave-in-Switch
walk_code-returns-in_ok-leave-in-Switch g t c = on.on_Switch c.in-Switch.is c.get-in-Switch.ensures c.as_slice-in-Switch.ensures c.in_ok-step_value-in-Switch.ensures c.in_ok-enter-in-Switch.ensures c.in_ok-choose-in-Switch.ensures c.in_ok-walk_codes-in-Switch.ensures c.in_ok-pass_switch-in-Switch.ensures c.in_ok-leave-in-Switch.ensures

pub walk_code-returns-in_ok-jump_to-in-Goto : goal.walk_code-returns-in_ok-jump_to-in-Goto
walk_code-returns-in_ok-jump_to-in-Goto g t c = on.on_Goto c.in-Goto.is c.in_ok-jump_to-in-Goto.ensures

pub walk_code-returns-in_ok-jump_on-in-Continue : goal.walk_code-returns-in_ok-jump_on-in-Continue
walk_code-returns-in_ok-jump_on-in-Continue g t c = on.on_Continue c.in-Continue.is c.in_ok-jump_on-in-Continue.ensures

pub walk_code-returns-in_ok-jump_out-in-Break : goal.walk_code-returns-in_ok-jump_out-in-Break
walk_code-returns-in_ok-jump_out-in-Break g t c = on.on_Break c.in-Break.is c.in_ok-jump_out-in-Break.ensures

pub walk_code-returns-in_ok-step_return-in-Return : goal.walk_code-returns-in_ok-step_return-in-Return
walk_code-returns-in_ok-step_return-in-Return g t c = on.on_Return c.in-Return.is c.in_ok-step_return-in-Return.ensures

pub walk_code-turns-init : goal.walk_code-turns-init
walk_code-turns-init g t c = λ at. on.turn_start c.in_ok-enter-in-Loop.ensures

pub walk_code-rounds-init : goal.walk_code-rounds-init
walk_code-rounds-init g t c = λ at. on.turn_start c.in_ok-enter-in-Repeat.ensures

pub walk_code-turns-preserved : goal.walk_code-turns-preserved
walk_code-turns-preserved g t c =
    let e : c.turns.left ≡ suc (c.turns.left - 1) = omega (arith, c.turns-test.true) in
    λ at. on.turn_more c.in-Loop.body at c.in-Loop.test c.in-Loop.step (c.turns.invariant at) e c.get-in-turns.ensures c.in_ok-step_test-in-Loop.ensures c.in_ok-walk_code-in-Loop.ensures
    c.in_ok-end_body-in-Loop.ensures c.in_ok-step_step-in-Loop.ensures c.in_ok-left-in-Loop.ensures.turn

pub walk_code-rounds-preserved : goal.walk_code-rounds-preserved
walk_code-rounds-preserved g t c =
    let e : c.rounds.left ≡ suc (c.rounds.left - 1) = omega (arith, c.rounds-test.true) in
    λ at. on.round_more c.in-Repeat.body c.in-Repeat.test (c.rounds.invariant at) e c.get-in-rounds.ensures c.get-in-rounds-2.ensures c.in_ok-walk_code-in-Repeat.ensures
    c.in_ok-end_body-in-Repeat.ensures c.in_ok-step_value-in-Repeat.ensures c.in_ok-pass-in-Repeat.ensures c.in_ok-left-in-Repeat.ensures.turn

pub walk_code-returns-in_ok-leave-in-Loop : goal.walk_code-returns-in_ok-leave-in-Loop
walk_code-returns-in_ok-leave-in-Loop g t c =
    let z : c.turns.left ≡ 0 = omega (arith, c.turns-test.false) in
    on.on_Loop c.in-Loop.body c.in-Loop.is c.in_ok-enter-in-Loop.ensures (c.turns.invariant c.in-Loop.at) c.turns-left.ensures z c.in_ok-step_test-in-Loop-2.ensures
    c.in_ok-end-in-Loop.ensures c.in_ok-leave-in-Loop.ensures

pub walk_code-returns-in_ok-leave-in-Repeat : goal.walk_code-returns-in_ok-leave-in-Repeat
walk_code-returns-in_ok-leave-in-Repeat g t c =
    let z : c.rounds.left ≡ 0 = omega (arith, c.rounds-test.false) in
    on.on_Repeat c.in-Repeat.body c.in-Repeat.is c.in_ok-enter-in-Repeat.ensures (c.rounds.invariant c.in-Repeat.at) c.turns-left-in-Repeat.ensures z
    c.in_ok-end-in-Repeat.ensures c.in_ok-leave-in-Repeat.ensures

pub walk_codes-loop-c-init : goal.walk_codes-loop-c-init
walk_codes-loop-c-init g t c = on.codes_start c.args.cs.now c.args.table.now c.args.course.now

pub walk_codes-loop-c-preserved : goal.walk_codes-loop-c-preserved
walk_codes-loop-c-preserved g t c = on.codes_more c.args.cs.now c.loop-c.c-index c.loop-c-test.true c.c-item.is c.get.ensures c.loop-c.invariant c.in_ok-walk_code.ensures

pub walk_codes-returns : goal.walk_codes-returns
walk_codes-returns g t c = on.codes_end c.args.cs.now c.loop-c.c-index c.loop-c-test.false c.loop-c.invariant
