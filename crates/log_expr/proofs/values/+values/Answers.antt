use Rattle.log_expr.proofs.ExprWalks as on
use Rattle.log_expr.proofs.values.+values.Goals as goal

pub walk_value-returns-in-Constant : goal.walk_value-returns-in-Constant
walk_value-returns-in-Constant g t c = on.on_Constant c.in-Constant.is

pub walk_value-returns-in-Fixed : goal.walk_value-returns-in-Fixed
walk_value-returns-in-Fixed g t c = on.on_Fixed c.in-Fixed.is

pub walk_value-returns-in-Local : goal.walk_value-returns-in-Local
walk_value-returns-in-Local g t c = on.on_Local c.in-Local.is

pub walk_value-returns-in_ok-walk_value-in-Target : goal.walk_value-returns-in_ok-walk_value-in-Target
walk_value-returns-in_ok-walk_value-in-Target g t c = on.on_Target c.in-Target.is c.get.ensures c.in_ok-walk_value-in-Target.ensures

pub walk_value-returns-in_ok-walk_value-in-Pointer : goal.walk_value-returns-in_ok-walk_value-in-Pointer
walk_value-returns-in_ok-walk_value-in-Pointer g t c = on.on_Pointer c.in-Pointer.is c.get-in-Pointer.ensures c.in_ok-walk_value-in-Pointer.ensures

pub walk_value-returns-in_ok-walk_value-in-Not : goal.walk_value-returns-in_ok-walk_value-in-Not
walk_value-returns-in_ok-walk_value-in-Not g t c = on.on_Not c.in-Not.is c.get-in-Not.ensures c.in_ok-walk_value-in-Not.ensures

pub walk_value-returns-in_ok-walk_value-in-Offset : goal.walk_value-returns-in_ok-walk_value-in-Offset
walk_value-returns-in_ok-walk_value-in-Offset g t c = on.on_Offset c.in-Offset.is c.get-in-Offset.ensures c.in_ok-walk_value-in-Offset.ensures

pub walk_value-returns-in_ok-walk_value-in-Extract : goal.walk_value-returns-in_ok-walk_value-in-Extract
walk_value-returns-in_ok-walk_value-in-Extract g t c = on.on_Extract c.in-Extract.is c.get-in-Extract.ensures c.in_ok-walk_value-in-Extract.ensures

pub walk_value-returns-in_ok-walk_value-in-Convert : goal.walk_value-returns-in_ok-walk_value-in-Convert
walk_value-returns-in_ok-walk_value-in-Convert g t c = on.on_Convert c.in-Convert.is c.get-in-Convert.ensures c.in_ok-walk_value-in-Convert.ensures

pub walk_value-returns-in_ok-walk_value-in-Cast : goal.walk_value-returns-in_ok-walk_value-in-Cast
walk_value-returns-in_ok-walk_value-in-Cast g t c = on.on_Cast c.in-Cast.is c.get-in-Cast.ensures c.in_ok-walk_value-in-Cast.ensures

pub walk_value-returns-in_ok-stop-in-Load : goal.walk_value-returns-in_ok-stop-in-Load
walk_value-returns-in_ok-stop-in-Load g t c = on.on_Load c.in-Load.is c.get-in-Load.ensures c.in_ok-walk_value-in-Load.ensures c.in_ok-stop-in-Load.ensures

pub walk_value-returns-in_ok-stop-in-Turn : goal.walk_value-returns-in_ok-stop-in-Turn
walk_value-returns-in_ok-stop-in-Turn g t c = on.on_Turn c.in-Turn.is c.get-in-Turn.ensures c.in_ok-walk_value-in-Turn.ensures c.in_ok-stop-in-Turn.ensures

pub walk_value-returns-in_ok-stop-in-Step : goal.walk_value-returns-in_ok-stop-in-Step
walk_value-returns-in_ok-stop-in-Step g t c = on.on_Step c.in-Step.is c.get-in-Step.ensures c.in_ok-walk_value-in-Step.ensures c.in_ok-stop-in-Step.ensures

pub walk_value-returns-in_ok-stop-in-Operate : goal.walk_value-returns-in_ok-stop-in-Operate
walk_value-returns-in_ok-stop-in-Operate g t c = on.on_Operate c.in-Operate.is c.get-in-Operate.ensures c.get-in-Operate-2.ensures c.in_ok-walk_value-in-Operate.ensures c.in_ok-walk_value-in-Operate-2.ensures c.in_ok-stop-in-Operate.ensures

pub walk_value-returns-in_ok-stop-in-Store : goal.walk_value-returns-in_ok-stop-in-Store
walk_value-returns-in_ok-stop-in-Store g t c = on.on_Store c.in-Store.is c.get-in-Store.ensures c.get-in-Store-2.ensures c.in_ok-walk_value-in-Store.ensures c.in_ok-walk_value-in-Store-2.ensures c.in_ok-stop-in-Store.ensures

pub walk_value-returns-in_ok-stop-in-Update-2 : goal.walk_value-returns-in_ok-stop-in-Update-2
walk_value-returns-in_ok-stop-in-Update-2 g t c = on.on_Update c.in-Update.is c.get-in-Update.ensures c.get-in-Update-2.ensures c.in_ok-walk_value-in-Update.ensures c.in_ok-stop-in-Update.ensures c.in_ok-walk_value-in-Update-2.ensures c.in_ok-stop-in-Update-2.ensures

pub walk_value-returns-in_ok-walk_value-in-Comma-2 : goal.walk_value-returns-in_ok-walk_value-in-Comma-2
walk_value-returns-in_ok-walk_value-in-Comma-2 g t c = on.on_Comma c.in-Comma.is c.get-in-Comma.ensures c.get-in-Comma-2.ensures c.in_ok-walk_value-in-Comma.ensures c.in_ok-walk_value-in-Comma-2.ensures

pub walk_value-returns-in_ok-join-in-And : goal.walk_value-returns-in_ok-join-in-And
walk_value-returns-in_ok-join-in-And g t c = on.on_And c.in-And.is c.get-in-And.ensures c.get-in-And-2.ensures c.in_ok-walk_value-in-And.ensures c.in_ok-save-in-And.ensures c.in_ok-walk_value-in-And-2.ensures c.in_ok-join-in-And.ensures

pub walk_value-returns-in_ok-join-in-Or : goal.walk_value-returns-in_ok-join-in-Or
walk_value-returns-in_ok-join-in-Or g t c = on.on_Or c.in-Or.is c.get-in-Or.ensures c.get-in-Or-2.ensures c.in_ok-walk_value-in-Or.ensures c.in_ok-save-in-Or.ensures c.in_ok-walk_value-in-Or-2.ensures c.in_ok-join-in-Or.ensures

pub walk_value-returns-in_ok-join-in-Choose : goal.walk_value-returns-in_ok-join-in-Choose
walk_value-returns-in_ok-join-in-Choose g t c = on.on_Choose c.in-Choose.is c.get-in-Choose.ensures c.get-in-Choose-2.ensures c.get-in-Choose-3.ensures c.in_ok-walk_value-in-Choose.ensures c.in_ok-save-in-Choose.ensures c.in_ok-walk_value-in-Choose-2.ensures c.in_ok-switch-in-Choose.ensures c.in_ok-walk_value-in-Choose-3.ensures c.in_ok-join-in-Choose.ensures

pub walk_value-returns-in_ok-stop-in-Call : goal.walk_value-returns-in_ok-stop-in-Call
walk_value-returns-in_ok-stop-in-Call g t c = on.on_Call c.in-Call.is c.as_slice.ensures c.len.ensures c.in_ok-walk_values-in-Call.ensures c.in_ok-step_callee-in-Call.ensures c.in_ok-stop-in-Call.ensures

pub walk_values-loop-e-init : goal.walk_values-loop-e-init
walk_values-loop-e-init g t c = on.leads_start c.args.es.now c.args.table.now c.args.trail.now

pub walk_values-loop-e-preserved : goal.walk_values-loop-e-preserved
walk_values-loop-e-preserved g t c = on.leads_more c.args.es.now c.loop-e.e-index c.loop-e-test.true c.e-item.is c.get.ensures c.loop-e.invariant c.in_ok-walk_value.ensures

pub walk_values-returns : goal.walk_values-returns
walk_values-returns g t c = on.leads_end c.args.es.now c.loop-e.e-index c.loop-e-test.false c.loop-e.invariant
