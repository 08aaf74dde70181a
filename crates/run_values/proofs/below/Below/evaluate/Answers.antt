use Rattle.std.proofs.Common.{refl, sym, subst, arith}
use Rattle.run_values.specs.Forms.{Fits, RunsAs, EndsAt}
use Rattle.run_values.proofs.OnForms as on
use Rattle.run_values.proofs.below.Below.evaluate.Goals as goal

pub returns-in-Constant-clause-runs : goal.returns-in-Constant-clause-runs
returns-in-Constant-clause-runs g c =
    subst (λ v. RunsAs (g.L.Scene.setting c.args.self.now.scene.now) c.args.self.now.frame.now c.args.base c.args.m.now
    c.args.m.now c.constant.result v) (sym (on.on_Constant c.args.e.now _ c.in-Constant.is)) (rw c.constant.ensures refl)

pub returns-in-Constant-clause-next : goal.returns-in-Constant-clause-next
returns-in-Constant-clause-next g c =
    subst (λ v. EndsAt (g.L.Scene.setting c.args.self.now.scene.now) c.args.base c.constant.result v) (sym (on.on_Constant c.args.e.now _ c.in-Constant.is)) (rw c.constant.ensures (omega arith))

pub returns-in-Fixed-clause-runs : goal.returns-in-Fixed-clause-runs
returns-in-Fixed-clause-runs g c =
    subst (λ v. RunsAs (g.L.Scene.setting c.args.self.now.scene.now) c.args.self.now.frame.now c.args.base c.args.m.now
    c.args.m.now c.fixed.result v) (sym (on.on_Fixed c.args.e.now _ c.in-Fixed.is)) (rw c.fixed.ensures refl)

pub returns-in-Fixed-clause-next : goal.returns-in-Fixed-clause-next
returns-in-Fixed-clause-next g c =
    subst (λ v. EndsAt (g.L.Scene.setting c.args.self.now.scene.now) c.args.base c.fixed.result v) (sym (on.on_Fixed c.args.e.now _ c.in-Fixed.is)) (rw c.fixed.ensures (omega arith))

pub returns-in-Local-clause-runs : goal.returns-in-Local-clause-runs
returns-in-Local-clause-runs g c =
    subst (λ v. RunsAs (g.L.Scene.setting c.args.self.now.scene.now) c.args.self.now.frame.now c.args.base c.args.m.now
    c.args.m.now c.local.result v) (sym (on.on_Local c.args.e.now _ c.in-Local.is)) (rw c.local.ensures refl)

pub returns-in-Local-clause-next : goal.returns-in-Local-clause-next
returns-in-Local-clause-next g c =
    subst (λ v. EndsAt (g.L.Scene.setting c.args.self.now.scene.now) c.args.base c.local.result v) (sym (on.on_Local c.args.e.now _ c.in-Local.is)) (rw c.local.ensures (omega arith))

pub loaded-requires-clause-low : goal.loaded-requires-clause-low
loaded-requires-clause-low g c =
    subst (λ v. Fits (g.L.Scene.setting c.args.self.now.scene.now) c.args.base v)
    (on.on_Load c.args.e.now _ _ _ c.in-Load.is c.get.ensures) c.requires.low

pub returns-in-Load-clause-runs : goal.returns-in-Load-clause-runs
returns-in-Load-clause-runs g c =
    subst (λ v. RunsAs (g.L.Scene.setting c.args.self.now.scene.now) c.args.self.now.frame.now c.args.base c.args.m.now
    c.loaded.new.m c.loaded.result v)
    (sym (on.on_Load c.args.e.now _ _ _ c.in-Load.is c.get.ensures)) c.loaded.ensures.runs

pub returns-in-Load-clause-next : goal.returns-in-Load-clause-next
returns-in-Load-clause-next g c =
    subst (λ v. EndsAt (g.L.Scene.setting c.args.self.now.scene.now) c.args.base c.loaded.result v)
    (sym (on.on_Load c.args.e.now _ _ _ c.in-Load.is c.get.ensures)) c.loaded.ensures.next

pub target-requires-clause-low : goal.target-requires-clause-low
target-requires-clause-low g c =
    subst (λ v. Fits (g.L.Scene.setting c.args.self.now.scene.now) c.args.base v)
    (on.on_Target c.args.e.now _ _ c.in-Target.is c.get-in-Target.ensures) c.requires.low

pub returns-in-Target-clause-runs : goal.returns-in-Target-clause-runs
returns-in-Target-clause-runs g c =
    subst (λ v. RunsAs (g.L.Scene.setting c.args.self.now.scene.now) c.args.self.now.frame.now c.args.base c.args.m.now
    c.target.new.m c.target.result v)
    (sym (on.on_Target c.args.e.now _ _ c.in-Target.is c.get-in-Target.ensures)) c.target.ensures.runs

pub returns-in-Target-clause-next : goal.returns-in-Target-clause-next
returns-in-Target-clause-next g c =
    subst (λ v. EndsAt (g.L.Scene.setting c.args.self.now.scene.now) c.args.base c.target.result v)
    (sym (on.on_Target c.args.e.now _ _ c.in-Target.is c.get-in-Target.ensures)) c.target.ensures.next

pub pointer-requires-clause-low : goal.pointer-requires-clause-low
pointer-requires-clause-low g c =
    subst (λ v. Fits (g.L.Scene.setting c.args.self.now.scene.now) c.args.base v)
    (on.on_Pointer c.args.e.now _ _ c.in-Pointer.is c.get-in-Pointer.ensures) c.requires.low

pub returns-in-Pointer-clause-runs : goal.returns-in-Pointer-clause-runs
returns-in-Pointer-clause-runs g c =
    subst (λ v. RunsAs (g.L.Scene.setting c.args.self.now.scene.now) c.args.self.now.frame.now c.args.base c.args.m.now
    c.pointer.new.m c.pointer.result v)
    (sym (on.on_Pointer c.args.e.now _ _ c.in-Pointer.is c.get-in-Pointer.ensures)) c.pointer.ensures.runs

pub returns-in-Pointer-clause-next : goal.returns-in-Pointer-clause-next
returns-in-Pointer-clause-next g c =
    subst (λ v. EndsAt (g.L.Scene.setting c.args.self.now.scene.now) c.args.base c.pointer.result v)
    (sym (on.on_Pointer c.args.e.now _ _ c.in-Pointer.is c.get-in-Pointer.ensures)) c.pointer.ensures.next

pub offset-requires-clause-low : goal.offset-requires-clause-low
offset-requires-clause-low g c =
    subst (λ v. Fits (g.L.Scene.setting c.args.self.now.scene.now) c.args.base v)
    (on.on_Offset c.args.e.now _ _ _ c.in-Offset.is c.get-in-Offset.ensures) c.requires.low

pub returns-in-Offset-clause-runs : goal.returns-in-Offset-clause-runs
returns-in-Offset-clause-runs g c =
    subst (λ v. RunsAs (g.L.Scene.setting c.args.self.now.scene.now) c.args.self.now.frame.now c.args.base c.args.m.now
    c.offset.new.m c.offset.result v)
    (sym (on.on_Offset c.args.e.now _ _ _ c.in-Offset.is c.get-in-Offset.ensures)) c.offset.ensures.runs

pub returns-in-Offset-clause-next : goal.returns-in-Offset-clause-next
returns-in-Offset-clause-next g c =
    subst (λ v. EndsAt (g.L.Scene.setting c.args.self.now.scene.now) c.args.base c.offset.result v)
    (sym (on.on_Offset c.args.e.now _ _ _ c.in-Offset.is c.get-in-Offset.ensures)) c.offset.ensures.next

pub extracted-requires-clause-low : goal.extracted-requires-clause-low
extracted-requires-clause-low g c =
    subst (λ v. Fits (g.L.Scene.setting c.args.self.now.scene.now) c.args.base v)
    (on.on_Extract c.args.e.now _ _ _ _ c.in-Extract.is c.get-in-Extract.ensures) c.requires.low

pub returns-in-Extract-clause-runs : goal.returns-in-Extract-clause-runs
returns-in-Extract-clause-runs g c =
    subst (λ v. RunsAs (g.L.Scene.setting c.args.self.now.scene.now) c.args.self.now.frame.now c.args.base c.args.m.now
    c.extracted.new.m c.extracted.result v)
    (sym (on.on_Extract c.args.e.now _ _ _ _ c.in-Extract.is c.get-in-Extract.ensures)) c.extracted.ensures.runs

pub returns-in-Extract-clause-next : goal.returns-in-Extract-clause-next
returns-in-Extract-clause-next g c =
    subst (λ v. EndsAt (g.L.Scene.setting c.args.self.now.scene.now) c.args.base c.extracted.result v)
    (sym (on.on_Extract c.args.e.now _ _ _ _ c.in-Extract.is c.get-in-Extract.ensures)) c.extracted.ensures.next

pub converted-requires-clause-low : goal.converted-requires-clause-low
converted-requires-clause-low g c =
    subst (λ v. Fits (g.L.Scene.setting c.args.self.now.scene.now) c.args.base v)
    (on.on_Convert c.args.e.now _ _ _ c.in-Convert.is c.get-in-Convert.ensures) c.requires.low

pub returns-in-Convert-clause-runs : goal.returns-in-Convert-clause-runs
returns-in-Convert-clause-runs g c =
    subst (λ v. RunsAs (g.L.Scene.setting c.args.self.now.scene.now) c.args.self.now.frame.now c.args.base c.args.m.now
    c.converted.new.m c.converted.result v)
    (sym (on.on_Convert c.args.e.now _ _ _ c.in-Convert.is c.get-in-Convert.ensures)) c.converted.ensures.runs

pub returns-in-Convert-clause-next : goal.returns-in-Convert-clause-next
returns-in-Convert-clause-next g c =
    subst (λ v. EndsAt (g.L.Scene.setting c.args.self.now.scene.now) c.args.base c.converted.result v)
    (sym (on.on_Convert c.args.e.now _ _ _ c.in-Convert.is c.get-in-Convert.ensures)) c.converted.ensures.next

pub cast-requires-clause-low : goal.cast-requires-clause-low
cast-requires-clause-low g c =
    subst (λ v. Fits (g.L.Scene.setting c.args.self.now.scene.now) c.args.base v)
    (on.on_Cast c.args.e.now _ _ _ c.in-Cast.is c.get-in-Cast.ensures) c.requires.low

pub returns-in-Cast-clause-runs : goal.returns-in-Cast-clause-runs
returns-in-Cast-clause-runs g c =
    subst (λ v. RunsAs (g.L.Scene.setting c.args.self.now.scene.now) c.args.self.now.frame.now c.args.base c.args.m.now
    c.cast.new.m c.cast.result v)
    (sym (on.on_Cast c.args.e.now _ _ _ c.in-Cast.is c.get-in-Cast.ensures)) c.cast.ensures.runs

pub returns-in-Cast-clause-next : goal.returns-in-Cast-clause-next
returns-in-Cast-clause-next g c =
    subst (λ v. EndsAt (g.L.Scene.setting c.args.self.now.scene.now) c.args.base c.cast.result v)
    (sym (on.on_Cast c.args.e.now _ _ _ c.in-Cast.is c.get-in-Cast.ensures)) c.cast.ensures.next

pub turned-requires-clause-low : goal.turned-requires-clause-low
turned-requires-clause-low g c =
    subst (λ v. Fits (g.L.Scene.setting c.args.self.now.scene.now) c.args.base v)
    (on.on_Turn c.args.e.now _ _ _ _ _ _ c.in-Turn.is c.get-in-Turn.ensures) c.requires.low

pub returns-in-Turn-clause-runs : goal.returns-in-Turn-clause-runs
returns-in-Turn-clause-runs g c =
    subst (λ v. RunsAs (g.L.Scene.setting c.args.self.now.scene.now) c.args.self.now.frame.now c.args.base c.args.m.now
    c.turned.new.m c.turned.result v)
    (sym (on.on_Turn c.args.e.now _ _ _ _ _ _ c.in-Turn.is c.get-in-Turn.ensures)) c.turned.ensures.runs

pub returns-in-Turn-clause-next : goal.returns-in-Turn-clause-next
returns-in-Turn-clause-next g c =
    subst (λ v. EndsAt (g.L.Scene.setting c.args.self.now.scene.now) c.args.base c.turned.result v)
    (sym (on.on_Turn c.args.e.now _ _ _ _ _ _ c.in-Turn.is c.get-in-Turn.ensures)) c.turned.ensures.next

pub negated-requires-clause-low : goal.negated-requires-clause-low
negated-requires-clause-low g c =
    subst (λ v. Fits (g.L.Scene.setting c.args.self.now.scene.now) c.args.base v)
    (on.on_Not c.args.e.now _ _ c.in-Not.is c.get-in-Not.ensures) c.requires.low

pub returns-in-Not-clause-runs : goal.returns-in-Not-clause-runs
returns-in-Not-clause-runs g c =
    subst (λ v. RunsAs (g.L.Scene.setting c.args.self.now.scene.now) c.args.self.now.frame.now c.args.base c.args.m.now
    c.negated.new.m c.negated.result v)
    (sym (on.on_Not c.args.e.now _ _ c.in-Not.is c.get-in-Not.ensures)) c.negated.ensures.runs

pub returns-in-Not-clause-next : goal.returns-in-Not-clause-next
returns-in-Not-clause-next g c =
    subst (λ v. EndsAt (g.L.Scene.setting c.args.self.now.scene.now) c.args.base c.negated.result v)
    (sym (on.on_Not c.args.e.now _ _ c.in-Not.is c.get-in-Not.ensures)) c.negated.ensures.next

pub operate-requires-clause-low : goal.operate-requires-clause-low
operate-requires-clause-low g c =
    subst (λ v. Fits (g.L.Scene.setting c.args.self.now.scene.now) c.args.base v)
    (on.on_Operate c.args.e.now _ _ _ _ _ _ _ c.in-Operate.is c.get-in-Operate.ensures c.get-in-Operate-2.ensures) c.requires.low

pub returns-in-Operate-clause-runs : goal.returns-in-Operate-clause-runs
returns-in-Operate-clause-runs g c =
    subst (λ v. RunsAs (g.L.Scene.setting c.args.self.now.scene.now) c.args.self.now.frame.now c.args.base c.args.m.now
    c.operate.new.m c.operate.result v)
    (sym (on.on_Operate c.args.e.now _ _ _ _ _ _ _ c.in-Operate.is c.get-in-Operate.ensures c.get-in-Operate-2.ensures)) c.operate.ensures.runs

pub returns-in-Operate-clause-next : goal.returns-in-Operate-clause-next
returns-in-Operate-clause-next g c =
    subst (λ v. EndsAt (g.L.Scene.setting c.args.self.now.scene.now) c.args.base c.operate.result v)
    (sym (on.on_Operate c.args.e.now _ _ _ _ _ _ _ c.in-Operate.is c.get-in-Operate.ensures c.get-in-Operate-2.ensures)) c.operate.ensures.next

pub both-requires-clause-low : goal.both-requires-clause-low
both-requires-clause-low g c =
    subst (λ v. Fits (g.L.Scene.setting c.args.self.now.scene.now) c.args.base v)
    (on.on_And c.args.e.now _ _ _ _ _ c.in-And.is c.get-in-And.ensures c.get-in-And-2.ensures) c.requires.low

pub returns-in-And-clause-runs : goal.returns-in-And-clause-runs
returns-in-And-clause-runs g c =
    subst (λ v. RunsAs (g.L.Scene.setting c.args.self.now.scene.now) c.args.self.now.frame.now c.args.base c.args.m.now
    c.both.new.m c.both.result v)
    (sym (on.on_And c.args.e.now _ _ _ _ _ c.in-And.is c.get-in-And.ensures c.get-in-And-2.ensures)) c.both.ensures.runs

pub returns-in-And-clause-next : goal.returns-in-And-clause-next
returns-in-And-clause-next g c =
    subst (λ v. EndsAt (g.L.Scene.setting c.args.self.now.scene.now) c.args.base c.both.result v)
    (sym (on.on_And c.args.e.now _ _ _ _ _ c.in-And.is c.get-in-And.ensures c.get-in-And-2.ensures)) c.both.ensures.next

pub either-requires-clause-low : goal.either-requires-clause-low
either-requires-clause-low g c =
    subst (λ v. Fits (g.L.Scene.setting c.args.self.now.scene.now) c.args.base v)
    (on.on_Or c.args.e.now _ _ _ _ _ c.in-Or.is c.get-in-Or.ensures c.get-in-Or-2.ensures) c.requires.low

pub returns-in-Or-clause-runs : goal.returns-in-Or-clause-runs
returns-in-Or-clause-runs g c =
    subst (λ v. RunsAs (g.L.Scene.setting c.args.self.now.scene.now) c.args.self.now.frame.now c.args.base c.args.m.now
    c.either.new.m c.either.result v)
    (sym (on.on_Or c.args.e.now _ _ _ _ _ c.in-Or.is c.get-in-Or.ensures c.get-in-Or-2.ensures)) c.either.ensures.runs

pub returns-in-Or-clause-next : goal.returns-in-Or-clause-next
returns-in-Or-clause-next g c =
    subst (λ v. EndsAt (g.L.Scene.setting c.args.self.now.scene.now) c.args.base c.either.result v)
    (sym (on.on_Or c.args.e.now _ _ _ _ _ c.in-Or.is c.get-in-Or.ensures c.get-in-Or-2.ensures)) c.either.ensures.next

pub choose-requires-clause-low : goal.choose-requires-clause-low
choose-requires-clause-low g c =
    subst (λ v. Fits (g.L.Scene.setting c.args.self.now.scene.now) c.args.base v)
    (on.on_Choose c.args.e.now _ _ _ _ _ _ _ c.in-Choose.is c.get-in-Choose.ensures c.get-in-Choose-2.ensures c.get-in-Choose-3.ensures) c.requires.low

pub returns-in-Choose-clause-runs : goal.returns-in-Choose-clause-runs
returns-in-Choose-clause-runs g c =
    subst (λ v. RunsAs (g.L.Scene.setting c.args.self.now.scene.now) c.args.self.now.frame.now c.args.base c.args.m.now
    c.choose.new.m c.choose.result v)
    (sym (on.on_Choose c.args.e.now _ _ _ _ _ _ _ c.in-Choose.is c.get-in-Choose.ensures c.get-in-Choose-2.ensures c.get-in-Choose-3.ensures)) c.choose.ensures.runs

pub returns-in-Choose-clause-next : goal.returns-in-Choose-clause-next
returns-in-Choose-clause-next g c =
    subst (λ v. EndsAt (g.L.Scene.setting c.args.self.now.scene.now) c.args.base c.choose.result v)
    (sym (on.on_Choose c.args.e.now _ _ _ _ _ _ _ c.in-Choose.is c.get-in-Choose.ensures c.get-in-Choose-2.ensures c.get-in-Choose-3.ensures)) c.choose.ensures.next

pub store-requires-clause-low : goal.store-requires-clause-low
store-requires-clause-low g c =
    subst (λ v. Fits (g.L.Scene.setting c.args.self.now.scene.now) c.args.base v)
    (on.on_Store c.args.e.now _ _ _ _ _ _ c.in-Store.is c.get-in-Store.ensures c.get-in-Store-2.ensures) c.requires.low

pub returns-in-Store-clause-runs : goal.returns-in-Store-clause-runs
returns-in-Store-clause-runs g c =
    subst (λ v. RunsAs (g.L.Scene.setting c.args.self.now.scene.now) c.args.self.now.frame.now c.args.base c.args.m.now
    c.store.new.m c.store.result v)
    (sym (on.on_Store c.args.e.now _ _ _ _ _ _ c.in-Store.is c.get-in-Store.ensures c.get-in-Store-2.ensures)) c.store.ensures.runs

pub returns-in-Store-clause-next : goal.returns-in-Store-clause-next
returns-in-Store-clause-next g c =
    subst (λ v. EndsAt (g.L.Scene.setting c.args.self.now.scene.now) c.args.base c.store.result v)
    (sym (on.on_Store c.args.e.now _ _ _ _ _ _ c.in-Store.is c.get-in-Store.ensures c.get-in-Store-2.ensures)) c.store.ensures.next

pub update-requires-clause-low : goal.update-requires-clause-low
update-requires-clause-low g c =
    subst (λ v. Fits (g.L.Scene.setting c.args.self.now.scene.now) c.args.base v)
    (on.on_Update c.args.e.now _ _ _ _ _ _ _ c.in-Update.is c.get-in-Update.ensures c.get-in-Update-2.ensures) c.requires.low

pub returns-in-Update-clause-runs : goal.returns-in-Update-clause-runs
returns-in-Update-clause-runs g c =
    subst (λ v. RunsAs (g.L.Scene.setting c.args.self.now.scene.now) c.args.self.now.frame.now c.args.base c.args.m.now
    c.update.new.m c.update.result v)
    (sym (on.on_Update c.args.e.now _ _ _ _ _ _ _ c.in-Update.is c.get-in-Update.ensures c.get-in-Update-2.ensures)) c.update.ensures.runs

pub returns-in-Update-clause-next : goal.returns-in-Update-clause-next
returns-in-Update-clause-next g c =
    subst (λ v. EndsAt (g.L.Scene.setting c.args.self.now.scene.now) c.args.base c.update.result v)
    (sym (on.on_Update c.args.e.now _ _ _ _ _ _ _ c.in-Update.is c.get-in-Update.ensures c.get-in-Update-2.ensures)) c.update.ensures.next

pub step-requires-clause-low : goal.step-requires-clause-low
step-requires-clause-low g c =
    subst (λ v. Fits (g.L.Scene.setting c.args.self.now.scene.now) c.args.base v)
    (on.on_Step c.args.e.now _ _ _ _ _ _ c.in-Step.is c.get-in-Step.ensures) c.requires.low

pub returns-in-Step-clause-runs : goal.returns-in-Step-clause-runs
returns-in-Step-clause-runs g c =
    subst (λ v. RunsAs (g.L.Scene.setting c.args.self.now.scene.now) c.args.self.now.frame.now c.args.base c.args.m.now
    c.step.new.m c.step.result v)
    (sym (on.on_Step c.args.e.now _ _ _ _ _ _ c.in-Step.is c.get-in-Step.ensures)) c.step.ensures.runs

pub returns-in-Step-clause-next : goal.returns-in-Step-clause-next
returns-in-Step-clause-next g c =
    subst (λ v. EndsAt (g.L.Scene.setting c.args.self.now.scene.now) c.args.base c.step.result v)
    (sym (on.on_Step c.args.e.now _ _ _ _ _ _ c.in-Step.is c.get-in-Step.ensures)) c.step.ensures.next

pub comma-requires-clause-low : goal.comma-requires-clause-low
comma-requires-clause-low g c =
    subst (λ v. Fits (g.L.Scene.setting c.args.self.now.scene.now) c.args.base v)
    (on.on_Comma c.args.e.now _ _ _ _ c.in-Comma.is c.get-in-Comma.ensures c.get-in-Comma-2.ensures) c.requires.low

pub returns-in-Comma-clause-runs : goal.returns-in-Comma-clause-runs
returns-in-Comma-clause-runs g c =
    subst (λ v. RunsAs (g.L.Scene.setting c.args.self.now.scene.now) c.args.self.now.frame.now c.args.base c.args.m.now
    c.comma.new.m c.comma.result v)
    (sym (on.on_Comma c.args.e.now _ _ _ _ c.in-Comma.is c.get-in-Comma.ensures c.get-in-Comma-2.ensures)) c.comma.ensures.runs

pub returns-in-Comma-clause-next : goal.returns-in-Comma-clause-next
returns-in-Comma-clause-next g c =
    subst (λ v. EndsAt (g.L.Scene.setting c.args.self.now.scene.now) c.args.base c.comma.result v)
    (sym (on.on_Comma c.args.e.now _ _ _ _ c.in-Comma.is c.get-in-Comma.ensures c.get-in-Comma-2.ensures)) c.comma.ensures.next

pub call-requires-clause-low : goal.call-requires-clause-low
call-requires-clause-low g c =
    subst (λ v. Fits (g.L.Scene.setting c.args.self.now.scene.now) c.args.base v)
    (on.on_Call c.args.e.now _ _ _ _ _ _ c.in-Call.is c.as_slice.ensures) c.requires.low

pub returns-in-Call-clause-runs : goal.returns-in-Call-clause-runs
returns-in-Call-clause-runs g c =
    subst (λ v. RunsAs (g.L.Scene.setting c.args.self.now.scene.now) c.args.self.now.frame.now c.args.base c.args.m.now
    c.call.new.m c.call.result v)
    (sym (on.on_Call c.args.e.now _ _ _ _ _ _ c.in-Call.is c.as_slice.ensures)) c.call.ensures.runs

pub returns-in-Call-clause-next : goal.returns-in-Call-clause-next
returns-in-Call-clause-next g c =
    subst (λ v. EndsAt (g.L.Scene.setting c.args.self.now.scene.now) c.args.base c.call.result v)
    (sym (on.on_Call c.args.e.now _ _ _ _ _ _ c.in-Call.is c.as_slice.ensures)) c.call.ensures.next
