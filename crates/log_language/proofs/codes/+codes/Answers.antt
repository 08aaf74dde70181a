use Rattle.log_language.proofs.OnCodes as on
use Rattle.log_language.proofs.codes.+codes.Goals as goal

pub tell_code-returns-in-Nothing : goal.tell_code-returns-in-Nothing
tell_code-returns-in-Nothing t c = on.on_Nothing c.in-Nothing.is

pub tell_code-returns-in-Static : goal.tell_code-returns-in-Static
tell_code-returns-in-Static t c = on.on_Static c.in-Static.is

pub tell_code-returns-in_ok-tell_value-in-Value : goal.tell_code-returns-in_ok-tell_value-in-Value
tell_code-returns-in_ok-tell_value-in-Value t c = on.on_Value c.in-Value.is c.get.ensures c.in_ok-tell_value-in-Value.ensures

pub tell_code-returns-in_ok-tell_settings-in-Declare : goal.tell_code-returns-in_ok-tell_settings-in-Declare
tell_code-returns-in_ok-tell_settings-in-Declare t c = on.on_Declare c.in-Declare.is c.as_slice.ensures c.in_ok-tell_settings-in-Declare.ensures

pub tell_code-returns-in_ok-tell_codes-in-Block : goal.tell_code-returns-in_ok-tell_codes-in-Block
tell_code-returns-in_ok-tell_codes-in-Block t c = on.on_Block c.in-Block.is c.as_slice-in-Block.ensures c.in_ok-tell_codes-in-Block.ensures

pub tell_code-returns-in_ok-tell_code-in-Label : goal.tell_code-returns-in_ok-tell_code-in-Label
tell_code-returns-in_ok-tell_code-in-Label t c = on.on_Label c.in-Label.is c.get-in-Label.ensures c.in_ok-tell_code-in-Label.ensures

pub tell_code-returns-in_ok-tell_code-in-Case : goal.tell_code-returns-in_ok-tell_code-in-Case
tell_code-returns-in_ok-tell_code-in-Case t c = on.on_Case c.in-Case.is c.get-in-Case.ensures c.in_ok-tell_code-in-Case.ensures

pub tell_code-returns-in_ok-tell_code-in-Default : goal.tell_code-returns-in_ok-tell_code-in-Default
tell_code-returns-in_ok-tell_code-in-Default t c = on.on_Default c.in-Default.is c.get-in-Default.ensures c.in_ok-tell_code-in-Default.ensures

pub tell_code-returns-in_ok-join-in-If : goal.tell_code-returns-in_ok-join-in-If
tell_code-returns-in_ok-join-in-If t c = on.on_If c.in-If.is c.get-in-If.ensures c.get-in-If-2.ensures c.get-in-If-3.ensures c.in_ok-tell_value-in-If.ensures c.in_ok-save-in-If.ensures c.in_ok-tell_code-in-If.ensures c.in_ok-switch-in-If.ensures c.in_ok-tell_code-in-If-2.ensures c.in_ok-join-in-If.ensures

pub tell_code-returns-in_ok-tell_codes-in-Switch : goal.tell_code-returns-in_ok-tell_codes-in-Switch
tell_code-returns-in_ok-tell_codes-in-Switch t c = on.on_Switch c.in-Switch.is c.get-in-Switch.ensures c.as_slice-in-Switch.ensures c.in_ok-tell_value-in-Switch.ensures c.in_ok-tell_codes-in-Switch.ensures

pub tell_code-returns-in_ok-tell_maybe-in-Loop-3 : goal.tell_code-returns-in_ok-tell_maybe-in-Loop-3
tell_code-returns-in_ok-tell_maybe-in-Loop-3 t c = on.on_Loop c.in-Loop.is c.get-in-Loop.ensures c.in_ok-enter_loop-in-Loop.ensures c.in_ok-tell_maybe-in-Loop.ensures c.in_ok-tell_code-in-Loop.ensures c.in_ok-tell_maybe-in-Loop-2.ensures c.in_ok-leave_loop-in-Loop.ensures c.in_ok-tell_maybe-in-Loop-3.ensures

pub tell_code-returns-in_ok-leave_loop-in-Repeat : goal.tell_code-returns-in_ok-leave_loop-in-Repeat
tell_code-returns-in_ok-leave_loop-in-Repeat t c = on.on_Repeat c.in-Repeat.is c.get-in-Repeat.ensures c.get-in-Repeat-2.ensures c.in_ok-enter_loop-in-Repeat.ensures c.in_ok-tell_code-in-Repeat.ensures c.in_ok-tell_value-in-Repeat.ensures c.in_ok-leave_loop-in-Repeat.ensures

pub tell_code-returns-in-Goto : goal.tell_code-returns-in-Goto
tell_code-returns-in-Goto t c = on.on_Goto c.in-Goto.is

pub tell_code-returns-in-Continue : goal.tell_code-returns-in-Continue
tell_code-returns-in-Continue t c = on.on_Continue c.in-Continue.is

pub tell_code-returns-in-Break : goal.tell_code-returns-in-Break
tell_code-returns-in-Break t c = on.on_Break c.in-Break.is

pub tell_code-returns-in_ok-tell_maybe-in-Return : goal.tell_code-returns-in_ok-tell_maybe-in-Return
tell_code-returns-in_ok-tell_maybe-in-Return t c = on.on_Return c.in-Return.is c.in_ok-tell_maybe-in-Return.ensures

pub tell_codes-loop-c-init : goal.tell_codes-loop-c-init
tell_codes-loop-c-init t c = on.codes_start c.args.cs.now c.args.told.now

pub tell_codes-loop-c-preserved : goal.tell_codes-loop-c-preserved
tell_codes-loop-c-preserved t c = on.codes_more c.args.cs.now c.loop-c.c-index c.loop-c-test.true c.c-item.is c.get.ensures c.loop-c.invariant c.in_ok-tell_code.ensures

pub tell_codes-returns : goal.tell_codes-returns
tell_codes-returns t c = on.codes_end c.args.cs.now c.loop-c.c-index c.loop-c-test.false c.loop-c.invariant
