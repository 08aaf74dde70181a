use Rattle.std.proofs.Common.{List, map, refl}
use Rattle.std.proofs.lemmas.Result.{on_ok_weaker}
use Rattle.c_language.specs.declared.unit.Stmt.{Stmt}
use Rattle.c_means.specs.Items.{Label, every_of}
use Rattle.c_means.specs.Statements.{stmt}
use Rattle.c_checks.proofs.Labeling as labeling
use Rattle.c_checks.proofs.found_labels.+every.Goals as goal

abbrev every : Stmt → List Label
every x = (stmt x).every

pub every_label-returns-in-Block : goal.every_label-returns-in-Block
every_label-returns-in-Block t c =
    on_ok_weaker c.every_among.result (λ said. labeling.child (λ (xs : List Stmt). every_of (map stmt xs)) c.args.found.now said
    c.as_slice.ensures (labeling.on-Block _ _ c.in-Block.is).every) c.every_among.ensures

pub every_label-returns-in-Declared : goal.every_label-returns-in-Declared
every_label-returns-in-Declared t c = labeling.none c.args.found.now (labeling.on-Declared _ c.in-Declared.is).every

pub every_label-returns-in-Value : goal.every_label-returns-in-Value
every_label-returns-in-Value t c = labeling.none c.args.found.now (labeling.on-Value _ _ c.in-Value.is).every

pub every_label-returns-in_ok-push-in-Label : goal.every_label-returns-in_ok-push-in-Label
every_label-returns-in_ok-push-in-Label t c =
    on_ok_weaker c.every_label.result (λ said. labeling.label c.args.found.now (every c.in-Label.body) c.in-Label.at
    c.in_ok-push-in-Label.ensures.ok (labeling.child every c.push.new.self said c.get.ensures refl) c.in_ok-clone-in-Label.ensures.cases
    (labeling.on-Label _ _ _ c.in-Label.is).every) c.every_label.ensures

pub every_label-returns-in-Case : goal.every_label-returns-in-Case
every_label-returns-in-Case t c =
    on_ok_weaker c.every_label-in-Case.result (λ said. labeling.child every c.args.found.now said c.get-in-Case.ensures
    (labeling.on-Case _ _ _ c.in-Case.is).every) c.every_label-in-Case.ensures

pub every_label-returns-in-Default : goal.every_label-returns-in-Default
every_label-returns-in-Default t c =
    on_ok_weaker c.every_label-in-Default.result (λ said. labeling.child every c.args.found.now said c.get-in-Default.ensures
    (labeling.on-Default _ _ c.in-Default.is).every) c.every_label-in-Default.ensures

pub every_label-returns-in_ok-every_label-in-If : goal.every_label-returns-in_ok-every_label-in-If
every_label-returns-in_ok-every_label-in-If t c =
    on_ok_weaker c.every_negative.result (λ said. labeling.same c.args.found.now
    (labeling.behind c.args.found.now (every c.in-If.positive) _
    (labeling.child every c.args.found.now c.in_ok-every_label-in-If.ensures c.get-in-If.ensures refl) said)
    (labeling.on-If _ _ _ _ c.in-If.is).every) c.every_negative.ensures

pub every_label-returns-in-Switch : goal.every_label-returns-in-Switch
every_label-returns-in-Switch t c =
    on_ok_weaker c.every_label-in-Switch.result (λ said. labeling.child every c.args.found.now said c.get-in-Switch.ensures
    (labeling.on-Switch _ _ _ c.in-Switch.is).every) c.every_label-in-Switch.ensures

pub every_label-returns-in-While : goal.every_label-returns-in-While
every_label-returns-in-While t c =
    on_ok_weaker c.every_label-in-While.result (λ said. labeling.child every c.args.found.now said c.get-in-While.ensures
    (labeling.on-While _ _ _ c.in-While.is).every) c.every_label-in-While.ensures

pub every_label-returns-in-Do : goal.every_label-returns-in-Do
every_label-returns-in-Do t c =
    on_ok_weaker c.every_label-in-Do.result (λ said. labeling.child every c.args.found.now said c.get-in-Do.ensures
    (labeling.on-Do _ _ _ c.in-Do.is).every) c.every_label-in-Do.ensures

pub every_label-returns-in-For : goal.every_label-returns-in-For
every_label-returns-in-For t c =
    on_ok_weaker c.every_label-in-For.result (λ said. labeling.child every c.args.found.now said c.get-in-For.ensures
    (labeling.on-For _ _ _ _ _ c.in-For.is).every) c.every_label-in-For.ensures

pub every_label-returns-in-Goto : goal.every_label-returns-in-Goto
every_label-returns-in-Goto t c = labeling.none c.args.found.now (labeling.on-Goto _ _ c.in-Goto.is).every

pub every_label-returns-in-Continue : goal.every_label-returns-in-Continue
every_label-returns-in-Continue t c = labeling.none c.args.found.now (labeling.on-Continue _ c.in-Continue.is).every

pub every_label-returns-in-Break : goal.every_label-returns-in-Break
every_label-returns-in-Break t c = labeling.none c.args.found.now (labeling.on-Break _ c.in-Break.is).every

pub every_label-returns-in-Return : goal.every_label-returns-in-Return
every_label-returns-in-Return t c = labeling.none c.args.found.now (labeling.on-Return _ _ c.in-Return.is).every
