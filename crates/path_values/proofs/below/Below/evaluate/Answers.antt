use Rattle.std.proofs.Common.{subst}
use Rattle.std.specs.Prelude.{IfOk}
use Rattle.path_values.specs.Evaluations.{EvaluatedIn}
use Rattle.path_values.proofs.OnForms as on
use Rattle.path_values.proofs.below.Below.evaluate.Goals as goal

pub returns-in-Constant-clause-evaluated : goal.returns-in-Constant-clause-evaluated
returns-in-Constant-clause-evaluated g c =
    subst (λ t. IfOk c.constant.result (λ n. EvaluatedIn g.C.Calls.around g.C.Calls.ready c.args.self.now t
    c.args.bank.now c.constant.new.bank c.args.walked.now c.constant.new.walked c.args.place n))
    (on.on_Constant c.args.expression.now _ c.in-Constant.is) c.constant.ensures

pub returns-in-Fixed-clause-evaluated : goal.returns-in-Fixed-clause-evaluated
returns-in-Fixed-clause-evaluated g c =
    subst (λ t. IfOk c.fixed.result (λ n. EvaluatedIn g.C.Calls.around g.C.Calls.ready c.args.self.now t
    c.args.bank.now c.fixed.new.bank c.args.walked.now c.fixed.new.walked c.args.place n))
    (on.on_Fixed c.args.expression.now _ c.in-Fixed.is) c.fixed.ensures

pub returns-in-Local-clause-evaluated : goal.returns-in-Local-clause-evaluated
returns-in-Local-clause-evaluated g c =
    subst (λ t. IfOk c.local.result (λ n. EvaluatedIn g.C.Calls.around g.C.Calls.ready c.args.self.now t
    c.args.bank.now c.local.new.bank c.args.walked.now c.local.new.walked c.args.place n))
    (on.on_Local c.args.expression.now _ c.in-Local.is) c.local.ensures

pub returns-in-Load-clause-evaluated : goal.returns-in-Load-clause-evaluated
returns-in-Load-clause-evaluated g c =
    subst (λ t. IfOk c.load.result (λ n. EvaluatedIn g.C.Calls.around g.C.Calls.ready c.args.self.now t
    c.args.bank.now c.load.new.bank c.args.walked.now c.load.new.walked c.args.place n))
    (on.on_Load c.args.expression.now _ _ _ c.in-Load.is c.get.ensures) c.load.ensures.evaluated

pub returns-in-Target-clause-evaluated : goal.returns-in-Target-clause-evaluated
returns-in-Target-clause-evaluated g c =
    subst (λ t. IfOk c.target.result (λ n. EvaluatedIn g.C.Calls.around g.C.Calls.ready c.args.self.now t
    c.args.bank.now c.target.new.bank c.args.walked.now c.target.new.walked c.args.place n))
    (on.on_Target c.args.expression.now _ _ c.in-Target.is c.get-in-Target.ensures) c.target.ensures.evaluated

pub returns-in-Pointer-clause-evaluated : goal.returns-in-Pointer-clause-evaluated
returns-in-Pointer-clause-evaluated g c =
    subst (λ t. IfOk c.pointer.result (λ n. EvaluatedIn g.C.Calls.around g.C.Calls.ready c.args.self.now t
    c.args.bank.now c.pointer.new.bank c.args.walked.now c.pointer.new.walked c.args.place n))
    (on.on_Pointer c.args.expression.now _ _ c.in-Pointer.is c.get-in-Pointer.ensures) c.pointer.ensures.evaluated

pub returns-in-Offset-clause-evaluated : goal.returns-in-Offset-clause-evaluated
returns-in-Offset-clause-evaluated g c =
    subst (λ t. IfOk c.offset.result (λ n. EvaluatedIn g.C.Calls.around g.C.Calls.ready c.args.self.now t
    c.args.bank.now c.offset.new.bank c.args.walked.now c.offset.new.walked c.args.place n))
    (on.on_Offset c.args.expression.now _ _ _ c.in-Offset.is c.get-in-Offset.ensures) c.offset.ensures.evaluated

pub returns-in-Convert-clause-evaluated : goal.returns-in-Convert-clause-evaluated
returns-in-Convert-clause-evaluated g c =
    subst (λ t. IfOk c.convert.result (λ n. EvaluatedIn g.C.Calls.around g.C.Calls.ready c.args.self.now t
    c.args.bank.now c.convert.new.bank c.args.walked.now c.convert.new.walked c.args.place n))
    (on.on_Convert c.args.expression.now _ _ _ c.in-Convert.is c.get-in-Convert.ensures) c.convert.ensures.evaluated

pub returns-in-Cast-clause-evaluated : goal.returns-in-Cast-clause-evaluated
returns-in-Cast-clause-evaluated g c =
    subst (λ t. IfOk c.cast.result (λ n. EvaluatedIn g.C.Calls.around g.C.Calls.ready c.args.self.now t
    c.args.bank.now c.cast.new.bank c.args.walked.now c.cast.new.walked c.args.place n))
    (on.on_Cast c.args.expression.now _ _ _ c.in-Cast.is c.get-in-Cast.ensures) c.cast.ensures.evaluated

pub returns-in-Turn-clause-evaluated : goal.returns-in-Turn-clause-evaluated
returns-in-Turn-clause-evaluated g c =
    subst (λ t. IfOk c.turn.result (λ n. EvaluatedIn g.C.Calls.around g.C.Calls.ready c.args.self.now t
    c.args.bank.now c.turn.new.bank c.args.walked.now c.turn.new.walked c.args.place n))
    (on.on_Turn c.args.expression.now _ _ _ _ _ _ c.in-Turn.is c.get-in-Turn.ensures) (c.turn.ensures.evaluated _)

pub returns-in-Not-clause-evaluated : goal.returns-in-Not-clause-evaluated
returns-in-Not-clause-evaluated g c =
    subst (λ t. IfOk c.not.result (λ n. EvaluatedIn g.C.Calls.around g.C.Calls.ready c.args.self.now t
    c.args.bank.now c.not.new.bank c.args.walked.now c.not.new.walked c.args.place n))
    (on.on_Not c.args.expression.now _ _ c.in-Not.is c.get-in-Not.ensures) c.not.ensures.evaluated

pub returns-in-Operate-clause-evaluated : goal.returns-in-Operate-clause-evaluated
returns-in-Operate-clause-evaluated g c =
    subst (λ t. IfOk c.operate.result (λ n. EvaluatedIn g.C.Calls.around g.C.Calls.ready c.args.self.now t
    c.args.bank.now c.operate.new.bank c.args.walked.now c.operate.new.walked c.args.place n))
    (on.on_Operate c.args.expression.now _ _ _ _ _ _ _ c.in-Operate.is c.get-in-Operate.ensures c.get-in-Operate-2.ensures)
    (c.operate.ensures.evaluated _)

pub returns-in-And-clause-evaluated : goal.returns-in-And-clause-evaluated
returns-in-And-clause-evaluated g c =
    subst (λ t. IfOk c.both.result (λ n. EvaluatedIn g.C.Calls.around g.C.Calls.ready c.args.self.now t
    c.args.bank.now c.both.new.bank c.args.walked.now c.both.new.walked c.args.place n))
    (on.on_And c.args.expression.now _ _ _ _ _ c.in-And.is c.get-in-And.ensures c.get-in-And-2.ensures) c.both.ensures.evaluated

pub returns-in-Or-clause-evaluated : goal.returns-in-Or-clause-evaluated
returns-in-Or-clause-evaluated g c =
    subst (λ t. IfOk c.either.result (λ n. EvaluatedIn g.C.Calls.around g.C.Calls.ready c.args.self.now t
    c.args.bank.now c.either.new.bank c.args.walked.now c.either.new.walked c.args.place n))
    (on.on_Or c.args.expression.now _ _ _ _ _ c.in-Or.is c.get-in-Or.ensures c.get-in-Or-2.ensures) c.either.ensures.evaluated

pub returns-in-Choose-clause-evaluated : goal.returns-in-Choose-clause-evaluated
returns-in-Choose-clause-evaluated g c =
    subst (λ t. IfOk c.choose.result (λ n. EvaluatedIn g.C.Calls.around g.C.Calls.ready c.args.self.now t
    c.args.bank.now c.choose.new.bank c.args.walked.now c.choose.new.walked c.args.place n))
    (on.on_Choose c.args.expression.now _ _ _ _ _ _ _ c.in-Choose.is c.get-in-Choose.ensures c.get-in-Choose-2.ensures c.get-in-Choose-3.ensures)
    c.choose.ensures.evaluated

pub returns-in-Store-clause-evaluated : goal.returns-in-Store-clause-evaluated
returns-in-Store-clause-evaluated g c =
    subst (λ t. IfOk c.store.result (λ n. EvaluatedIn g.C.Calls.around g.C.Calls.ready c.args.self.now t
    c.args.bank.now c.store.new.bank c.args.walked.now c.store.new.walked c.args.place n))
    (on.on_Store c.args.expression.now _ _ _ _ _ _ c.in-Store.is c.get-in-Store.ensures c.get-in-Store-2.ensures) c.store.ensures.evaluated

pub returns-in-Update-clause-evaluated : goal.returns-in-Update-clause-evaluated
returns-in-Update-clause-evaluated g c =
    subst (λ t. IfOk c.update.result (λ n. EvaluatedIn g.C.Calls.around g.C.Calls.ready c.args.self.now t
    c.args.bank.now c.update.new.bank c.args.walked.now c.update.new.walked c.args.place n))
    (on.on_Update c.args.expression.now _ _ _ _ _ _ _ c.in-Update.is c.get-in-Update.ensures c.get-in-Update-2.ensures)
    c.update.ensures.evaluated

pub returns-in-Step-clause-evaluated : goal.returns-in-Step-clause-evaluated
returns-in-Step-clause-evaluated g c =
    subst (λ t. IfOk c.step.result (λ n. EvaluatedIn g.C.Calls.around g.C.Calls.ready c.args.self.now t
    c.args.bank.now c.step.new.bank c.args.walked.now c.step.new.walked c.args.place n))
    (on.on_Step c.args.expression.now _ _ _ _ _ _ c.in-Step.is c.get-in-Step.ensures) c.step.ensures.evaluated

pub returns-in-Comma-clause-evaluated : goal.returns-in-Comma-clause-evaluated
returns-in-Comma-clause-evaluated g c =
    subst (λ t. IfOk c.comma.result (λ n. EvaluatedIn g.C.Calls.around g.C.Calls.ready c.args.self.now t
    c.args.bank.now c.comma.new.bank c.args.walked.now c.comma.new.walked c.args.place n))
    (on.on_Comma c.args.expression.now _ _ _ _ c.in-Comma.is c.get-in-Comma.ensures c.get-in-Comma-2.ensures) c.comma.ensures.evaluated

pub returns-in-Call-clause-evaluated : goal.returns-in-Call-clause-evaluated
returns-in-Call-clause-evaluated g c =
    subst (λ t. IfOk c.call.result (λ n. EvaluatedIn g.C.Calls.around g.C.Calls.ready c.args.self.now t
    c.args.bank.now c.call.new.bank c.args.walked.now c.call.new.walked c.args.place n))
    (on.on_Call c.args.expression.now _ _ _ _ _ _ c.in-Call.is c.as_slice.ensures) c.call.ensures.evaluated
