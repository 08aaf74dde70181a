use Rattle.std.proofs.Common.{List, refl}
use Rattle.std.proofs.lemmas.Result.{on_ok_weaker}
use Rattle.c_language.specs.declared.unit.Stmt.{Stmt}
use Rattle.c_means.specs.Items.{Label}
use Rattle.c_means.specs.Statements.{stmt}
use Rattle.c_checks.proofs.Labeling as labeling
use Rattle.c_checks.proofs.found_labels.+front.Goals as goal

abbrev front : Stmt → List Label
front x = (stmt x).labels

pub returns-in-Block : goal.returns-in-Block
returns-in-Block t c = labeling.none c.args.found.now (labeling.on-Block _ _ c.in-Block.is).labels

pub returns-in-Declared : goal.returns-in-Declared
returns-in-Declared t c = labeling.none c.args.found.now (labeling.on-Declared _ c.in-Declared.is).labels

pub returns-in-Value : goal.returns-in-Value
returns-in-Value t c = labeling.none c.args.found.now (labeling.on-Value _ _ c.in-Value.is).labels

pub returns-in_ok-push-in-Label : goal.returns-in_ok-push-in-Label
returns-in_ok-push-in-Label t c =
    on_ok_weaker c.front_labels.result (λ said. labeling.label c.args.found.now (front c.in-Label.body) c.in-Label.at
    c.in_ok-push-in-Label.ensures.ok (labeling.child front c.push.new.self said c.get.ensures refl)
    c.in_ok-clone-in-Label.ensures.cases
    (labeling.on-Label _ _ _ c.in-Label.is).labels) c.front_labels.ensures

pub returns-in-Case : goal.returns-in-Case
returns-in-Case t c =
    on_ok_weaker c.front_labels-in-Case.result (λ said. labeling.child front c.args.found.now said c.get-in-Case.ensures
    (labeling.on-Case _ _ _ c.in-Case.is).labels) c.front_labels-in-Case.ensures

pub returns-in-Default : goal.returns-in-Default
returns-in-Default t c =
    on_ok_weaker c.front_labels-in-Default.result (λ said. labeling.child front c.args.found.now said c.get-in-Default.ensures
    (labeling.on-Default _ _ c.in-Default.is).labels) c.front_labels-in-Default.ensures

pub returns-in-If : goal.returns-in-If
returns-in-If t c = labeling.none c.args.found.now (labeling.on-If _ _ _ _ c.in-If.is).labels

pub returns-in-Switch : goal.returns-in-Switch
returns-in-Switch t c = labeling.none c.args.found.now (labeling.on-Switch _ _ _ c.in-Switch.is).labels

pub returns-in-While : goal.returns-in-While
returns-in-While t c = labeling.none c.args.found.now (labeling.on-While _ _ _ c.in-While.is).labels

pub returns-in-Do : goal.returns-in-Do
returns-in-Do t c = labeling.none c.args.found.now (labeling.on-Do _ _ _ c.in-Do.is).labels

pub returns-in-For : goal.returns-in-For
returns-in-For t c = labeling.none c.args.found.now (labeling.on-For _ _ _ _ _ c.in-For.is).labels

pub returns-in-Goto : goal.returns-in-Goto
returns-in-Goto t c = labeling.none c.args.found.now (labeling.on-Goto _ _ c.in-Goto.is).labels

pub returns-in-Continue : goal.returns-in-Continue
returns-in-Continue t c = labeling.none c.args.found.now (labeling.on-Continue _ c.in-Continue.is).labels

pub returns-in-Break : goal.returns-in-Break
returns-in-Break t c = labeling.none c.args.found.now (labeling.on-Break _ c.in-Break.is).labels

pub returns-in-Return : goal.returns-in-Return
returns-in-Return t c = labeling.none c.args.found.now (labeling.on-Return _ _ c.in-Return.is).labels
