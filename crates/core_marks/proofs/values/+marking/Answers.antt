use Rattle.core_marks.specs.Marks.{value_marks, values_marks}
use Rattle.core_marks.proofs.ExprMarks as marks
use Rattle.core_marks.proofs.Loops as loops
use Rattle.core_marks.proofs.values.+marking.Goals as goal

pub put_value-returns-in-Constant : goal.put_value-returns-in-Constant
put_value-returns-in-Constant t c =
    loops.none c.args.out.now _
    (marks.marks-Constant c.args.e.now _ c.in-Constant.is)

pub put_value-returns-in-Fixed : goal.put_value-returns-in-Fixed
put_value-returns-in-Fixed t c =
    loops.none c.args.out.now _
    (marks.marks-Fixed c.args.e.now _ c.in-Fixed.is)

pub put_value-returns-in-Local : goal.put_value-returns-in-Local
put_value-returns-in-Local t c =
    loops.none c.args.out.now _
    (marks.marks-Local c.args.e.now _ c.in-Local.is)

pub put_value-returns-in_ok-put_value-in-Load : goal.put_value-returns-in_ok-put_value-in-Load
put_value-returns-in_ok-put_value-in-Load t c =
    loops.two c.args.out.now c.put_read.new.out c.put_value.new.out _ _ _
    c.in_ok-put_read-in-Load.ensures
    (loops.part value_marks c.put_read.new.out c.put_value.new.out _ _ c.in_ok-put_value-in-Load.ensures c.get.ensures)
    (marks.marks-Load c.args.e.now _ _ c.in-Load.is)

pub put_value-returns-in_ok-put_value-in-Target : goal.put_value-returns-in_ok-put_value-in-Target
put_value-returns-in_ok-put_value-in-Target t c =
    loops.one c.args.out.now c.put_value-in-Target.new.out _ _
    (loops.part value_marks c.args.out.now c.put_value-in-Target.new.out _ _ c.in_ok-put_value-in-Target.ensures c.get-in-Target.ensures)
    (marks.marks-Target c.args.e.now _ c.in-Target.is)

pub put_value-returns-in_ok-put_value-in-Pointer : goal.put_value-returns-in_ok-put_value-in-Pointer
put_value-returns-in_ok-put_value-in-Pointer t c =
    loops.one c.args.out.now c.put_value-in-Pointer.new.out _ _
    (loops.part value_marks c.args.out.now c.put_value-in-Pointer.new.out _ _ c.in_ok-put_value-in-Pointer.ensures c.get-in-Pointer.ensures)
    (marks.marks-Pointer c.args.e.now _ c.in-Pointer.is)

pub put_value-returns-in_ok-put_value-in-Offset : goal.put_value-returns-in_ok-put_value-in-Offset
put_value-returns-in_ok-put_value-in-Offset t c =
    loops.one c.args.out.now c.put_value-in-Offset.new.out _ _
    (loops.part value_marks c.args.out.now c.put_value-in-Offset.new.out _ _ c.in_ok-put_value-in-Offset.ensures c.get-in-Offset.ensures)
    (marks.marks-Offset c.args.e.now _ _ c.in-Offset.is)

pub put_value-returns-in_ok-put_value-in-Extract : goal.put_value-returns-in_ok-put_value-in-Extract
put_value-returns-in_ok-put_value-in-Extract t c =
    loops.one c.args.out.now c.put_value-in-Extract.new.out _ _
    (loops.part value_marks c.args.out.now c.put_value-in-Extract.new.out _ _ c.in_ok-put_value-in-Extract.ensures c.get-in-Extract.ensures)
    (marks.marks-Extract c.args.e.now _ _ _ c.in-Extract.is)

pub put_value-returns-in_ok-put_value-in-Convert : goal.put_value-returns-in_ok-put_value-in-Convert
put_value-returns-in_ok-put_value-in-Convert t c =
    loops.one c.args.out.now c.put_value-in-Convert.new.out _ _
    (loops.part value_marks c.args.out.now c.put_value-in-Convert.new.out _ _ c.in_ok-put_value-in-Convert.ensures c.get-in-Convert.ensures)
    (marks.marks-Convert c.args.e.now _ _ c.in-Convert.is)

pub put_value-returns-in_ok-put_value-in-Cast : goal.put_value-returns-in_ok-put_value-in-Cast
put_value-returns-in_ok-put_value-in-Cast t c =
    loops.one c.args.out.now c.put_value-in-Cast.new.out _ _
    (loops.part value_marks c.args.out.now c.put_value-in-Cast.new.out _ _ c.in_ok-put_value-in-Cast.ensures c.get-in-Cast.ensures)
    (marks.marks-Cast c.args.e.now _ _ c.in-Cast.is)

pub put_value-returns-in_ok-put_value-in-Turn : goal.put_value-returns-in_ok-put_value-in-Turn
put_value-returns-in_ok-put_value-in-Turn t c =
    loops.two c.args.out.now c.put_turning_unless.new.out c.put_value-in-Turn.new.out _ _ _
    c.in_ok-put_turning_unless-in-Turn.ensures
    (loops.part value_marks c.put_turning_unless.new.out c.put_value-in-Turn.new.out _ _ c.in_ok-put_value-in-Turn.ensures c.get-in-Turn.ensures)
    (marks.marks-Turn c.args.e.now _ _ _ _ _ c.in-Turn.is)

pub put_value-returns-in_ok-put_value-in-Not : goal.put_value-returns-in_ok-put_value-in-Not
put_value-returns-in_ok-put_value-in-Not t c =
    loops.one c.args.out.now c.put_value-in-Not.new.out _ _
    (loops.part value_marks c.args.out.now c.put_value-in-Not.new.out _ _ c.in_ok-put_value-in-Not.ensures c.get-in-Not.ensures)
    (marks.marks-Not c.args.e.now _ c.in-Not.is)

pub put_value-returns-in_ok-put_value-in-Operate-2 : goal.put_value-returns-in_ok-put_value-in-Operate-2
put_value-returns-in_ok-put_value-in-Operate-2 t c =
    loops.three c.args.out.now c.put_operator_unless.new.out c.put_value-in-Operate.new.out c.put_value-in-Operate-2.new.out _ _ _ _
    c.in_ok-put_operator_unless-in-Operate.ensures
    (loops.part value_marks c.put_operator_unless.new.out c.put_value-in-Operate.new.out _ _ c.in_ok-put_value-in-Operate.ensures c.get-in-Operate.ensures)
    (loops.part value_marks c.put_value-in-Operate.new.out c.put_value-in-Operate-2.new.out _ _ c.in_ok-put_value-in-Operate-2.ensures c.get-in-Operate-2.ensures)
    (marks.marks-Operate c.args.e.now _ _ _ _ _ c.in-Operate.is)

pub put_value-returns-in_ok-put_value-in-And-2 : goal.put_value-returns-in_ok-put_value-in-And-2
put_value-returns-in_ok-put_value-in-And-2 t c =
    loops.three c.args.out.now c.put_sides.new.out c.put_value-in-And.new.out c.put_value-in-And-2.new.out _ _ _ _
    c.in_ok-put_sides-in-And.ensures
    (loops.part value_marks c.put_sides.new.out c.put_value-in-And.new.out _ _ c.in_ok-put_value-in-And.ensures c.get-in-And.ensures)
    (loops.part value_marks c.put_value-in-And.new.out c.put_value-in-And-2.new.out _ _ c.in_ok-put_value-in-And-2.ensures c.get-in-And-2.ensures)
    (marks.marks-And c.args.e.now _ _ _ c.in-And.is)

pub put_value-returns-in_ok-put_value-in-Or-2 : goal.put_value-returns-in_ok-put_value-in-Or-2
put_value-returns-in_ok-put_value-in-Or-2 t c =
    loops.three c.args.out.now c.put_sides-in-Or.new.out c.put_value-in-Or.new.out c.put_value-in-Or-2.new.out _ _ _ _
    c.in_ok-put_sides-in-Or.ensures
    (loops.part value_marks c.put_sides-in-Or.new.out c.put_value-in-Or.new.out _ _ c.in_ok-put_value-in-Or.ensures c.get-in-Or.ensures)
    (loops.part value_marks c.put_value-in-Or.new.out c.put_value-in-Or-2.new.out _ _ c.in_ok-put_value-in-Or-2.ensures c.get-in-Or-2.ensures)
    (marks.marks-Or c.args.e.now _ _ _ c.in-Or.is)

pub put_value-returns-in_ok-put_value-in-Choose-3 : goal.put_value-returns-in_ok-put_value-in-Choose-3
put_value-returns-in_ok-put_value-in-Choose-3 t c =
    loops.four c.args.out.now c.put_sides-in-Choose.new.out c.put_value-in-Choose.new.out c.put_value-in-Choose-2.new.out c.put_value-in-Choose-3.new.out _ _ _ _ _
    c.in_ok-put_sides-in-Choose.ensures
    (loops.part value_marks c.put_sides-in-Choose.new.out c.put_value-in-Choose.new.out _ _ c.in_ok-put_value-in-Choose.ensures c.get-in-Choose.ensures)
    (loops.part value_marks c.put_value-in-Choose.new.out c.put_value-in-Choose-2.new.out _ _ c.in_ok-put_value-in-Choose-2.ensures c.get-in-Choose-2.ensures)
    (loops.part value_marks c.put_value-in-Choose-2.new.out c.put_value-in-Choose-3.new.out _ _ c.in_ok-put_value-in-Choose-3.ensures c.get-in-Choose-3.ensures)
    (marks.marks-Choose c.args.e.now _ _ _ _ c.in-Choose.is)

pub put_value-returns-in_ok-put_value-in-Store-2 : goal.put_value-returns-in_ok-put_value-in-Store-2
put_value-returns-in_ok-put_value-in-Store-2 t c =
    loops.three c.args.out.now c.put_written.new.out c.put_value-in-Store.new.out c.put_value-in-Store-2.new.out _ _ _ _
    c.in_ok-put_written-in-Store.ensures
    (loops.part value_marks c.put_written.new.out c.put_value-in-Store.new.out _ _ c.in_ok-put_value-in-Store.ensures c.get-in-Store.ensures)
    (loops.part value_marks c.put_value-in-Store.new.out c.put_value-in-Store-2.new.out _ _ c.in_ok-put_value-in-Store-2.ensures c.get-in-Store-2.ensures)
    (marks.marks-Store c.args.e.now _ _ _ _ c.in-Store.is)

pub put_value-returns-in_ok-put_value-in-Update-2 : goal.put_value-returns-in_ok-put_value-in-Update-2
put_value-returns-in_ok-put_value-in-Update-2 t c =
    loops.four c.args.out.now c.put_operator.new.out c.put_written-in-Update.new.out c.put_value-in-Update.new.out c.put_value-in-Update-2.new.out _ _ _ _ _
    c.in_ok-put_operator-in-Update.ensures
    c.in_ok-put_written-in-Update.ensures
    (loops.part value_marks c.put_written-in-Update.new.out c.put_value-in-Update.new.out _ _ c.in_ok-put_value-in-Update.ensures c.get-in-Update.ensures)
    (loops.part value_marks c.put_value-in-Update.new.out c.put_value-in-Update-2.new.out _ _ c.in_ok-put_value-in-Update-2.ensures c.get-in-Update-2.ensures)
    (marks.marks-Update c.args.e.now _ _ _ _ _ c.in-Update.is)

pub put_value-returns-in_ok-put_value-in-Step : goal.put_value-returns-in_ok-put_value-in-Step
put_value-returns-in_ok-put_value-in-Step t c =
    loops.three c.args.out.now c.put_operator-in-Step.new.out c.put_written-in-Step.new.out c.put_value-in-Step.new.out _ _ _ _
    c.in_ok-put_operator-in-Step.ensures
    c.in_ok-put_written-in-Step.ensures
    (loops.part value_marks c.put_written-in-Step.new.out c.put_value-in-Step.new.out _ _ c.in_ok-put_value-in-Step.ensures c.get-in-Step.ensures)
    (marks.marks-Step c.args.e.now _ _ _ _ _ c.in-Step.is)

pub put_value-returns-in_ok-put_value-in-Comma-2 : goal.put_value-returns-in_ok-put_value-in-Comma-2
put_value-returns-in_ok-put_value-in-Comma-2 t c =
    loops.two c.args.out.now c.put_value-in-Comma.new.out c.put_value-in-Comma-2.new.out _ _ _
    (loops.part value_marks c.args.out.now c.put_value-in-Comma.new.out _ _ c.in_ok-put_value-in-Comma.ensures c.get-in-Comma.ensures)
    (loops.part value_marks c.put_value-in-Comma.new.out c.put_value-in-Comma-2.new.out _ _ c.in_ok-put_value-in-Comma-2.ensures c.get-in-Comma-2.ensures)
    (marks.marks-Comma c.args.e.now _ _ c.in-Comma.is)

pub put_value-returns-in_ok-put_values-in-Call : goal.put_value-returns-in_ok-put_values-in-Call
put_value-returns-in_ok-put_values-in-Call t c =
    loops.two c.args.out.now c.put_call.new.out c.put_values.new.out _ _ _
    c.in_ok-put_call-in-Call.ensures
    (loops.part values_marks c.put_call.new.out c.put_values.new.out _ _ c.in_ok-put_values-in-Call.ensures c.as_slice.ensures)
    (marks.marks-Call c.args.e.now _ _ _ _ _ c.in-Call.is)

pub put_values-loop-item-init : goal.put_values-loop-item-init
put_values-loop-item-init t c = loops.begins value_marks c.args.items.now c.args.out.now

pub put_values-loop-item-preserved : goal.put_values-loop-item-preserved
put_values-loop-item-preserved t c =
    loops.goes_on value_marks c.args.items.now c.loop-item.item-index _ c.args.out.now c.loop-item.out c.put_value.new.out c.loop-item-test.true c.item-item.is
    (loops.part value_marks c.loop-item.out c.put_value.new.out _ _ c.in_ok-put_value.ensures c.get.ensures) c.loop-item.invariant

pub put_values-returns : goal.put_values-returns
put_values-returns t c = loops.ends value_marks c.args.items.now c.loop-item.item-index c.args.out.now c.loop-item.out c.loop-item-test.false c.loop-item.invariant
