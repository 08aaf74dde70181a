use Rattle.std.proofs.Common.{List, map, sym, ◌∙◌}
use Rattle.std.proofs.lemmas.Result.{on_ok_weaker}
use Rattle.c_language.specs.declared.unit.Stmt.{Stmt}
use Rattle.c_means.specs.Items.{labels_of}
use Rattle.c_means.specs.Statements.{stmt}
use Rattle.c_checks.proofs.Labeling as labeling
use Rattle.c_checks.proofs.found_labels.block_labels.Goals as goal

pub returns-in-Block : goal.returns-in-Block
returns-in-Block c =
    on_ok_weaker c.front_among.result (λ said. labeling.child (λ (xs : List Stmt). labels_of (map stmt xs))
    c.args.found.now said c.as_slice.ensures (labeling.on-Block _ _ c.in-Block.is).own) c.front_among.ensures

pub returns-in-Declared : goal.returns-in-Declared
returns-in-Declared c = labeling.none c.args.found.now (labeling.on-Declared _ c.in-Declared.is).own

pub returns-in-Value : goal.returns-in-Value
returns-in-Value c = labeling.none c.args.found.now (labeling.on-Value _ _ c.in-Value.is).own

pub returns-in-Label : goal.returns-in-Label
returns-in-Label c =
    let has = labeling.on-Label _ _ _ c.in-Label.is in
    on_ok_weaker c.front_labels.result (λ said. labeling.same c.args.found.now said (has.own ∙ sym has.labels)) c.front_labels.ensures

pub returns-in-Case : goal.returns-in-Case
returns-in-Case c =
    let has = labeling.on-Case _ _ _ c.in-Case.is in
    on_ok_weaker c.front_labels-in-Case.result (λ said. labeling.same c.args.found.now said (has.own ∙ sym has.labels)) c.front_labels-in-Case.ensures

pub returns-in-Default : goal.returns-in-Default
returns-in-Default c =
    let has = labeling.on-Default _ _ c.in-Default.is in
    on_ok_weaker c.front_labels-in-Default.result (λ said. labeling.same c.args.found.now said (has.own ∙ sym has.labels)) c.front_labels-in-Default.ensures

pub returns-in-If : goal.returns-in-If
returns-in-If c = labeling.none c.args.found.now (labeling.on-If _ _ _ _ c.in-If.is).own

pub returns-in-Switch : goal.returns-in-Switch
returns-in-Switch c = labeling.none c.args.found.now (labeling.on-Switch _ _ _ c.in-Switch.is).own

pub returns-in-While : goal.returns-in-While
returns-in-While c = labeling.none c.args.found.now (labeling.on-While _ _ _ c.in-While.is).own

pub returns-in-Do : goal.returns-in-Do
returns-in-Do c = labeling.none c.args.found.now (labeling.on-Do _ _ _ c.in-Do.is).own

pub returns-in-For : goal.returns-in-For
returns-in-For c = labeling.none c.args.found.now (labeling.on-For _ _ _ _ _ c.in-For.is).own

pub returns-in-Goto : goal.returns-in-Goto
returns-in-Goto c = labeling.none c.args.found.now (labeling.on-Goto _ _ c.in-Goto.is).own

pub returns-in-Continue : goal.returns-in-Continue
returns-in-Continue c = labeling.none c.args.found.now (labeling.on-Continue _ c.in-Continue.is).own

pub returns-in-Break : goal.returns-in-Break
returns-in-Break c = labeling.none c.args.found.now (labeling.on-Break _ c.in-Break.is).own

pub returns-in-Return : goal.returns-in-Return
returns-in-Return c = labeling.none c.args.found.now (labeling.on-Return _ _ c.in-Return.is).own
