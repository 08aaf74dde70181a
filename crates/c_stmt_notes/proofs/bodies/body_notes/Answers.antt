use Rattle.std.proofs.Common.{sym, ap, ◌∙◌}
use Rattle.std.proofs.lemmas.Result.{IfOk-weaker}
use Rattle.c_language.specs.declared.unit.Body.{Body}
use Rattle.c_language.specs.declared.unit.Stmt.{Stmt}
use Rattle.c_means.specs.Programs.{body_context, body_item, code_in}
use Rattle.c_means.specs.Statements.{stmt}
use Rattle.c_item_notes.specs.Levels.{judged}
use Rattle.c_item_notes.specs.ItemTellings.{summed, summed_in}
use Rattle.c_stmt_notes.specs.StatementTellings.{body_head}
use Rattle.c_stmt_notes.proofs.bodies.body_notes.Goals as goal

pub returns-in-Read : goal.returns-in-Read
returns-in-Read c =
    let j = judged c.args.source.now in
    let f = body_head c.args.returned.now c.args.scope.now in
    IfOk-weaker c.block_notes.result _ _ (λ n h. h
    ∙ ap (λ (b : Stmt). summed j ((stmt b).content (body_context f (stmt b)))) c.get.ensures
    ∙ ap (λ (b : Body). summed j (body_item f (code_in b))) (sym c.in-Read.is)) c.block_notes.ensures

pub returns-in-Unread : goal.returns-in-Unread
returns-in-Unread c =
    ap (λ n. summed_in n c.args.scope.now) c.nothing_noted.ensures
    ∙ ap (λ (b : Body). summed (judged c.args.source.now) (body_item (body_head c.args.returned.now c.args.scope.now) (code_in b)))
    (sym c.in-Unread.is)
