use Rattle.core_marks.specs.Marks.{switch_marks, value_marks, values_marks, settings_marks, code_marks, items_marks}
use Rattle.core_marks.proofs.CodeMarks as marks
use Rattle.core_marks.proofs.Loops as loops
use Rattle.core_marks.proofs.codes.+marking.Goals as goal

pub put_code-returns-in-Nothing : goal.put_code-returns-in-Nothing
put_code-returns-in-Nothing t c =
    loops.none c.args.out.now _
    (marks.marks-Nothing c.args.code.now _ c.in-Nothing.is)

pub put_code-returns-in_ok-put_value-in-Value : goal.put_code-returns-in_ok-put_value-in-Value
put_code-returns-in_ok-put_value-in-Value t c =
    loops.one c.args.out.now c.put_value.new.out _ _
    (loops.part value_marks c.args.out.now c.put_value.new.out _ _ c.in_ok-put_value-in-Value.ensures c.get.ensures)
    (marks.marks-Value c.args.code.now _ _ c.in-Value.is)

pub put_code-returns-in_ok-put_settings-in-Declare : goal.put_code-returns-in_ok-put_settings-in-Declare
put_code-returns-in_ok-put_settings-in-Declare t c =
    loops.one c.args.out.now c.put_settings.new.out _ _
    (loops.part settings_marks c.args.out.now c.put_settings.new.out _ _ c.in_ok-put_settings-in-Declare.ensures c.as_slice.ensures)
    (marks.marks-Declare c.args.code.now _ _ _ _ c.in-Declare.is)

pub put_code-returns-in_ok-put_values-in-Static : goal.put_code-returns-in_ok-put_values-in-Static
put_code-returns-in_ok-put_values-in-Static t c =
    loops.one c.args.out.now c.put_values.new.out _ _
    (loops.part values_marks c.args.out.now c.put_values.new.out _ _ c.in_ok-put_values-in-Static.ensures c.as_slice-in-Static.ensures)
    (marks.marks-Static c.args.code.now _ _ c.in-Static.is)

pub put_code-returns-in_ok-put_items-in-Block : goal.put_code-returns-in_ok-put_items-in-Block
put_code-returns-in_ok-put_items-in-Block t c =
    loops.one c.args.out.now c.put_items.new.out _ _
    (loops.part items_marks c.args.out.now c.put_items.new.out _ _ c.in_ok-put_items-in-Block.ensures c.as_slice-in-Block.ensures)
    (marks.marks-Block c.args.code.now _ _ c.in-Block.is)

pub put_code-returns-in_ok-put_code-in-Label : goal.put_code-returns-in_ok-put_code-in-Label
put_code-returns-in_ok-put_code-in-Label t c =
    loops.one c.args.out.now c.put_code.new.out _ _
    (loops.part code_marks c.args.out.now c.put_code.new.out _ _ c.in_ok-put_code-in-Label.ensures c.get-in-Label.ensures)
    (marks.marks-Label c.args.code.now _ _ c.in-Label.is)

pub put_code-returns-in_ok-put_code-in-Case : goal.put_code-returns-in_ok-put_code-in-Case
put_code-returns-in_ok-put_code-in-Case t c =
    loops.two c.args.out.now c.put_value-in-Case.new.out c.put_code-in-Case.new.out _ _ _
    (loops.part value_marks c.args.out.now c.put_value-in-Case.new.out _ _ c.in_ok-put_value-in-Case.ensures c.get-in-Case.ensures)
    (loops.part code_marks c.put_value-in-Case.new.out c.put_code-in-Case.new.out _ _ c.in_ok-put_code-in-Case.ensures c.get-in-Case-2.ensures)
    (marks.marks-Case c.args.code.now _ _ _ c.in-Case.is)

pub put_code-returns-in_ok-put_code-in-Default : goal.put_code-returns-in_ok-put_code-in-Default
put_code-returns-in_ok-put_code-in-Default t c =
    loops.one c.args.out.now c.put_code-in-Default.new.out _ _
    (loops.part code_marks c.args.out.now c.put_code-in-Default.new.out _ _ c.in_ok-put_code-in-Default.ensures c.get-in-Default.ensures)
    (marks.marks-Default c.args.code.now _ c.in-Default.is)

pub put_code-returns-in_ok-put_code-in-If-2 : goal.put_code-returns-in_ok-put_code-in-If-2
put_code-returns-in_ok-put_code-in-If-2 t c =
    loops.four c.args.out.now c.put_sides.new.out c.put_value-in-If.new.out c.put_code-in-If.new.out c.put_code-in-If-2.new.out _ _ _ _ _
    c.in_ok-put_sides-in-If.ensures
    (loops.part value_marks c.put_sides.new.out c.put_value-in-If.new.out _ _ c.in_ok-put_value-in-If.ensures c.get-in-If.ensures)
    (loops.part code_marks c.put_value-in-If.new.out c.put_code-in-If.new.out _ _ c.in_ok-put_code-in-If.ensures c.get-in-If-2.ensures)
    (loops.part code_marks c.put_code-in-If.new.out c.put_code-in-If-2.new.out _ _ c.in_ok-put_code-in-If-2.ensures c.get-in-If-3.ensures)
    (marks.marks-If c.args.code.now _ _ _ _ c.in-If.is)

pub put_code-returns-in_ok-put_items-in-Switch : goal.put_code-returns-in_ok-put_items-in-Switch
put_code-returns-in_ok-put_items-in-Switch t c =
    loops.three c.args.out.now c.put_switch.new.out c.put_value-in-Switch.new.out c.put_items-in-Switch.new.out _ _ _ _
    (loops.part (λ cs. switch_marks c.in-Switch.at cs) c.args.out.now c.put_switch.new.out _ _ c.in_ok-put_switch-in-Switch.ensures c.as_slice-in-Switch.ensures)
    (loops.part value_marks c.put_switch.new.out c.put_value-in-Switch.new.out _ _ c.in_ok-put_value-in-Switch.ensures c.get-in-Switch.ensures)
    (loops.part items_marks c.put_value-in-Switch.new.out c.put_items-in-Switch.new.out _ _ c.in_ok-put_items-in-Switch.ensures c.as_slice-in-Switch-2.ensures)
    (marks.marks-Switch c.args.code.now _ _ _ _ _ _ c.in-Switch.is)

pub put_code-returns-in_ok-put_code-in-Loop : goal.put_code-returns-in_ok-put_code-in-Loop
put_code-returns-in_ok-put_code-in-Loop t c =
    loops.three c.args.out.now c.put_test.new.out c.put_option.new.out c.put_code-in-Loop.new.out _ _ _ _
    c.in_ok-put_test-in-Loop.ensures
    c.in_ok-put_option-in-Loop.ensures
    (loops.part code_marks c.put_option.new.out c.put_code-in-Loop.new.out _ _ c.in_ok-put_code-in-Loop.ensures c.get-in-Loop.ensures)
    (marks.marks-Loop c.args.code.now _ _ _ _ c.in-Loop.is)

pub put_code-returns-in_ok-put_code-in-Repeat : goal.put_code-returns-in_ok-put_code-in-Repeat
put_code-returns-in_ok-put_code-in-Repeat t c =
    loops.three c.args.out.now c.put_sides-in-Repeat.new.out c.put_value-in-Repeat.new.out c.put_code-in-Repeat.new.out _ _ _ _
    c.in_ok-put_sides-in-Repeat.ensures
    (loops.part value_marks c.put_sides-in-Repeat.new.out c.put_value-in-Repeat.new.out _ _ c.in_ok-put_value-in-Repeat.ensures c.get-in-Repeat.ensures)
    (loops.part code_marks c.put_value-in-Repeat.new.out c.put_code-in-Repeat.new.out _ _ c.in_ok-put_code-in-Repeat.ensures c.get-in-Repeat-2.ensures)
    (marks.marks-Repeat c.args.code.now _ _ _ c.in-Repeat.is)

pub put_code-returns-in-Goto : goal.put_code-returns-in-Goto
put_code-returns-in-Goto t c =
    loops.none c.args.out.now _
    (marks.marks-Goto c.args.code.now _ c.in-Goto.is)

pub put_code-returns-in-Continue : goal.put_code-returns-in-Continue
put_code-returns-in-Continue t c =
    loops.none c.args.out.now _
    (marks.marks-Continue c.args.code.now c.in-Continue.is)

pub put_code-returns-in-Break : goal.put_code-returns-in-Break
put_code-returns-in-Break t c =
    loops.none c.args.out.now _
    (marks.marks-Break c.args.code.now c.in-Break.is)

pub put_code-returns-in_ok-put_option-in-Return : goal.put_code-returns-in_ok-put_option-in-Return
put_code-returns-in_ok-put_option-in-Return t c =
    loops.one c.args.out.now c.put_option-in-Return.new.out _ _
    c.in_ok-put_option-in-Return.ensures
    (marks.marks-Return c.args.code.now _ c.in-Return.is)

pub put_items-loop-item-init : goal.put_items-loop-item-init
put_items-loop-item-init t c = loops.begins code_marks c.args.items.now c.args.out.now

pub put_items-loop-item-preserved : goal.put_items-loop-item-preserved
put_items-loop-item-preserved t c =
    loops.goes_on code_marks c.args.items.now c.loop-item.item-index _ c.args.out.now c.loop-item.out c.put_code.new.out c.loop-item-test.true c.item-item.is
    (loops.part code_marks c.loop-item.out c.put_code.new.out _ _ c.in_ok-put_code.ensures c.get.ensures) c.loop-item.invariant

pub put_items-returns : goal.put_items-returns
put_items-returns t c = loops.ends code_marks c.args.items.now c.loop-item.item-index c.args.out.now c.loop-item.out c.loop-item-test.false c.loop-item.invariant
