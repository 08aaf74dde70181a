use Rattle.log_language.proofs.OnValues as on
use Rattle.log_language.proofs.values.+values.Goals as goal

pub tell_value-returns-in-Constant : goal.tell_value-returns-in-Constant
tell_value-returns-in-Constant t c = on.on_Constant c.in-Constant.is

pub tell_value-returns-in-Fixed : goal.tell_value-returns-in-Fixed
tell_value-returns-in-Fixed t c = on.on_Fixed c.in-Fixed.is

pub tell_value-returns-in-Local : goal.tell_value-returns-in-Local
tell_value-returns-in-Local t c = on.on_Local c.in-Local.is

pub tell_value-returns-in_ok-tell_value-in-Target : goal.tell_value-returns-in_ok-tell_value-in-Target
tell_value-returns-in_ok-tell_value-in-Target t c = on.on_Target c.in-Target.is c.get.ensures c.in_ok-tell_value-in-Target.ensures

pub tell_value-returns-in_ok-tell_value-in-Pointer : goal.tell_value-returns-in_ok-tell_value-in-Pointer
tell_value-returns-in_ok-tell_value-in-Pointer t c = on.on_Pointer c.in-Pointer.is c.get-in-Pointer.ensures c.in_ok-tell_value-in-Pointer.ensures

pub tell_value-returns-in_ok-tell_value-in-Not : goal.tell_value-returns-in_ok-tell_value-in-Not
tell_value-returns-in_ok-tell_value-in-Not t c = on.on_Not c.in-Not.is c.get-in-Not.ensures c.in_ok-tell_value-in-Not.ensures

pub tell_value-returns-in_ok-tell_value-in-Offset : goal.tell_value-returns-in_ok-tell_value-in-Offset
tell_value-returns-in_ok-tell_value-in-Offset t c = on.on_Offset c.in-Offset.is c.get-in-Offset.ensures c.in_ok-tell_value-in-Offset.ensures

pub tell_value-returns-in_ok-tell_value-in-Extract : goal.tell_value-returns-in_ok-tell_value-in-Extract
tell_value-returns-in_ok-tell_value-in-Extract t c = on.on_Extract c.in-Extract.is c.get-in-Extract.ensures c.in_ok-tell_value-in-Extract.ensures

pub tell_value-returns-in_ok-tell_value-in-Convert : goal.tell_value-returns-in_ok-tell_value-in-Convert
tell_value-returns-in_ok-tell_value-in-Convert t c = on.on_Convert c.in-Convert.is c.get-in-Convert.ensures c.in_ok-tell_value-in-Convert.ensures

pub tell_value-returns-in_ok-tell_value-in-Cast : goal.tell_value-returns-in_ok-tell_value-in-Cast
tell_value-returns-in_ok-tell_value-in-Cast t c = on.on_Cast c.in-Cast.is c.get-in-Cast.ensures c.in_ok-tell_value-in-Cast.ensures

pub tell_value-returns-in_ok-tell_value-in-Turn : goal.tell_value-returns-in_ok-tell_value-in-Turn
tell_value-returns-in_ok-tell_value-in-Turn t c = on.on_Turn c.in-Turn.is c.get-in-Turn.ensures c.in_ok-tell_value-in-Turn.ensures

pub tell_value-returns-in_ok-tell_value-in-Load : goal.tell_value-returns-in_ok-tell_value-in-Load
tell_value-returns-in_ok-tell_value-in-Load t c = on.on_Load c.in-Load.is c.get-in-Load.ensures c.in_ok-tell_value-in-Load.ensures

pub tell_value-returns-in_ok-tell_value-in-Step : goal.tell_value-returns-in_ok-tell_value-in-Step
tell_value-returns-in_ok-tell_value-in-Step t c = on.on_Step c.in-Step.is c.get-in-Step.ensures c.in_ok-tell_value-in-Step.ensures

pub tell_value-returns-in_ok-tell_value-in-Operate-2 : goal.tell_value-returns-in_ok-tell_value-in-Operate-2
tell_value-returns-in_ok-tell_value-in-Operate-2 t c = on.on_Operate c.in-Operate.is c.get-in-Operate.ensures c.get-in-Operate-2.ensures c.in_ok-tell_value-in-Operate.ensures c.in_ok-tell_value-in-Operate-2.ensures

pub tell_value-returns-in_ok-tell_value-in-And-2 : goal.tell_value-returns-in_ok-tell_value-in-And-2
tell_value-returns-in_ok-tell_value-in-And-2 t c = on.on_And c.in-And.is c.get-in-And.ensures c.get-in-And-2.ensures c.in_ok-tell_value-in-And.ensures c.in_ok-tell_value-in-And-2.ensures

pub tell_value-returns-in_ok-tell_value-in-Or-2 : goal.tell_value-returns-in_ok-tell_value-in-Or-2
tell_value-returns-in_ok-tell_value-in-Or-2 t c = on.on_Or c.in-Or.is c.get-in-Or.ensures c.get-in-Or-2.ensures c.in_ok-tell_value-in-Or.ensures c.in_ok-tell_value-in-Or-2.ensures

pub tell_value-returns-in_ok-tell_value-in-Store-2 : goal.tell_value-returns-in_ok-tell_value-in-Store-2
tell_value-returns-in_ok-tell_value-in-Store-2 t c = on.on_Store c.in-Store.is c.get-in-Store.ensures c.get-in-Store-2.ensures c.in_ok-tell_value-in-Store.ensures c.in_ok-tell_value-in-Store-2.ensures

pub tell_value-returns-in_ok-tell_value-in-Update-2 : goal.tell_value-returns-in_ok-tell_value-in-Update-2
tell_value-returns-in_ok-tell_value-in-Update-2 t c = on.on_Update c.in-Update.is c.get-in-Update.ensures c.get-in-Update-2.ensures c.in_ok-tell_value-in-Update.ensures c.in_ok-tell_value-in-Update-2.ensures

pub tell_value-returns-in_ok-tell_value-in-Comma-2 : goal.tell_value-returns-in_ok-tell_value-in-Comma-2
tell_value-returns-in_ok-tell_value-in-Comma-2 t c = on.on_Comma c.in-Comma.is c.get-in-Comma.ensures c.get-in-Comma-2.ensures c.in_ok-tell_value-in-Comma.ensures c.in_ok-tell_value-in-Comma-2.ensures

pub tell_value-returns-in_ok-join-in-Choose : goal.tell_value-returns-in_ok-join-in-Choose
tell_value-returns-in_ok-join-in-Choose t c = on.on_Choose c.in-Choose.is c.get-in-Choose.ensures c.get-in-Choose-2.ensures c.get-in-Choose-3.ensures c.in_ok-tell_value-in-Choose.ensures c.in_ok-save-in-Choose.ensures c.in_ok-tell_value-in-Choose-2.ensures c.in_ok-switch-in-Choose.ensures c.in_ok-tell_value-in-Choose-3.ensures c.in_ok-join-in-Choose.ensures

pub tell_value-returns-in_ok-tell_callee-in-Call : goal.tell_value-returns-in_ok-tell_callee-in-Call
tell_value-returns-in_ok-tell_callee-in-Call t c = on.on_Call c.in-Call.is c.as_slice.ensures c.in_ok-tell_values-in-Call.ensures c.in_ok-tell_callee-in-Call.ensures

pub tell_values-loop-e-init : goal.tell_values-loop-e-init
tell_values-loop-e-init t c = on.values_start c.args.es.now c.args.told.now

pub tell_values-loop-e-preserved : goal.tell_values-loop-e-preserved
tell_values-loop-e-preserved t c = on.values_more c.args.es.now c.loop-e.e-index c.loop-e-test.true c.e-item.is c.get.ensures c.loop-e.invariant c.in_ok-tell_value.ensures

pub tell_values-returns : goal.tell_values-returns
tell_values-returns t c = on.values_end c.args.es.now c.loop-e.e-index c.loop-e-test.false c.loop-e.invariant
