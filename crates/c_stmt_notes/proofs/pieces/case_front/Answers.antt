use Rattle.c_means.specs.Notes.{noted}
use Rattle.c_item_notes.specs.Levels.{judged}
use Rattle.c_stmt_notes.proofs.Expressions.{case_is}
use Rattle.c_stmt_notes.proofs.pieces.case_front.Goals as goal

pub returns : goal.returns
returns c =
    case_is (judged c.args.source.now) c.args.at c.args.x.now.chooses c.in_ok-y.y (noted c.args.value.now c.args.scope.now)
    c.case_label-breach.result c.case_value-constant.result c.args.found.now c.and_case.new.found c.args.scope.now c.heard.new.scope
    c.in_ok-y.ensures c.case_label-breach.ensures c.case_value-constant.ensures c.in_ok-and_case.ensures
