use Rattle.std.proofs.Common.{◌∷◌, map, ap, ◌∙◌}
use Rattle.c_means.specs.Names.{all, scoped, names_of, stmt_names}
use Rattle.c_names.proofs.Arms as arms
use Rattle.c_names.proofs.NamesOf as names
use Rattle.c_names.proofs.statements.+statement.Goals as goal

pub put_stmt-returns-in_ok-put_stmts-in-Block : goal.put_stmt-returns-in_ok-put_stmts-in-Block
put_stmt-returns-in_ok-put_stmts-in-Block t c =
    arms.made c.scope.result c.scope.new.done _ _ c.scope.ensures (arms.last scoped (arms.top (λ z. all (map stmt_names z)) c.in_ok-put_stmts-in-Block.ensures c.as_slice.ensures) ∙ arms.named (names.stmt-Block _ _ c.in-Block.is))

pub put_stmt-returns-in-Declared : goal.put_stmt-returns-in-Declared
put_stmt-returns-in-Declared t c =
    arms.made c.put_declaration.result c.put_declaration.new.done _ _ c.put_declaration.ensures (arms.named (names.stmt-Declared _ c.in-Declared.is))

pub put_stmt-returns-in-Value : goal.put_stmt-returns-in-Value
put_stmt-returns-in-Value t c =
    arms.made c.put_value.result c.put_value.new.done _ _ c.put_value.ensures (arms.named (names.stmt-Value _ _ c.in-Value.is))

pub put_stmt-returns-in-Label : goal.put_stmt-returns-in-Label
put_stmt-returns-in-Label t c =
    arms.made c.put_stmt.result c.put_stmt.new.done _ _ c.put_stmt.ensures (ap (λ z. stmt_names z ∷ c.args.done.now) c.get.ensures ∙ arms.named (names.stmt-Label _ _ _ c.in-Label.is))

pub put_stmt-returns-in_ok-put_stmt-in-Case : goal.put_stmt-returns-in_ok-put_stmt-in-Case
put_stmt-returns-in_ok-put_stmt-in-Case t c =
    arms.made c.join.result c.join.new.done _ _ c.join.ensures (arms.join-two (arms.top names_of c.in_ok-put_expr-in-Case.ensures c.get-in-Case.ensures)
    (arms.top stmt_names c.in_ok-put_stmt-in-Case.ensures c.get-in-Case-2.ensures) ∙ arms.named (names.stmt-Case _ _ _ c.in-Case.is))

pub put_stmt-returns-in-Default : goal.put_stmt-returns-in-Default
put_stmt-returns-in-Default t c =
    arms.made c.put_stmt-in-Default.result c.put_stmt-in-Default.new.done _ _ c.put_stmt-in-Default.ensures (ap (λ z. stmt_names z ∷ c.args.done.now) c.get-in-Default.ensures ∙ arms.named (names.stmt-Default _ _ c.in-Default.is))

pub put_stmt-returns-in_ok-join-in-If-2 : goal.put_stmt-returns-in_ok-join-in-If-2
put_stmt-returns-in_ok-join-in-If-2 t c =
    arms.made c.scope-in-If.result c.scope-in-If.new.done _ _ c.scope-in-If.ensures (arms.last scoped (c.in_ok-join-in-If-2.ensures ∙ arms.join-two (arms.top names_of c.in_ok-put_expr-in-If.ensures c.get-in-If.ensures)
    (c.in_ok-join-in-If.ensures ∙ arms.join-two (arms.top (λ z. scoped (stmt_names z)) c.in_ok-put_inner-in-If.ensures c.get-in-If-2.ensures) c.in_ok-put_else-in-If.ensures))
    ∙ arms.named (names.stmt-If _ _ _ _ c.in-If.is))

pub put_stmt-returns-in_ok-join-in-Switch : goal.put_stmt-returns-in_ok-join-in-Switch
put_stmt-returns-in_ok-join-in-Switch t c =
    arms.made c.scope-in-Switch.result c.scope-in-Switch.new.done _ _ c.scope-in-Switch.ensures (arms.last scoped (c.in_ok-join-in-Switch.ensures ∙ arms.join-two (arms.top names_of c.in_ok-put_expr-in-Switch.ensures c.get-in-Switch.ensures)
    (arms.top (λ z. scoped (stmt_names z)) c.in_ok-put_inner-in-Switch.ensures c.get-in-Switch-2.ensures)) ∙ arms.named (names.stmt-Switch _ _ _ c.in-Switch.is))

pub put_stmt-returns-in_ok-join-in-While : goal.put_stmt-returns-in_ok-join-in-While
put_stmt-returns-in_ok-join-in-While t c =
    arms.made c.scope-in-While.result c.scope-in-While.new.done _ _ c.scope-in-While.ensures (arms.last scoped (c.in_ok-join-in-While.ensures ∙ arms.join-two (arms.top names_of c.in_ok-put_expr-in-While.ensures c.get-in-While.ensures)
    (arms.top (λ z. scoped (stmt_names z)) c.in_ok-put_inner-in-While.ensures c.get-in-While-2.ensures)) ∙ arms.named (names.stmt-While _ _ _ c.in-While.is))

pub put_stmt-returns-in_ok-join-in-Do : goal.put_stmt-returns-in_ok-join-in-Do
put_stmt-returns-in_ok-join-in-Do t c =
    arms.made c.scope-in-Do.result c.scope-in-Do.new.done _ _ c.scope-in-Do.ensures (arms.last scoped (c.in_ok-join-in-Do.ensures ∙ arms.join-two (arms.top (λ z. scoped (stmt_names z)) c.in_ok-put_inner-in-Do.ensures c.get-in-Do.ensures)
    (arms.top names_of c.in_ok-put_expr-in-Do.ensures c.get-in-Do-2.ensures)) ∙ arms.named (names.stmt-Do _ _ _ c.in-Do.is))

pub put_stmt-returns-in_ok-put_inner-in-For : goal.put_stmt-returns-in_ok-put_inner-in-For
put_stmt-returns-in_ok-put_inner-in-For t c =
    arms.made c.end_for.result c.end_for.new.done _ _ c.end_for.ensures (arms.last scoped (arms.join-two c.in_ok-put_start-in-For.ensures (arms.join-two c.in_ok-put_value-in-For.ensures
    (arms.join-two c.in_ok-put_value-in-For-2.ensures (arms.top (λ z. scoped (stmt_names z)) c.in_ok-put_inner-in-For.ensures c.get-in-For.ensures)))) ∙ arms.named (names.stmt-For _ _ _ _ _ c.in-For.is))

pub put_stmt-returns-in-Goto : goal.put_stmt-returns-in-Goto
put_stmt-returns-in-Goto t c =
    arms.made c.put_nothing.result c.put_nothing.new.done _ _ c.put_nothing.ensures (arms.named (names.stmt-Goto _ _ c.in-Goto.is))

pub put_stmt-returns-in-Continue : goal.put_stmt-returns-in-Continue
put_stmt-returns-in-Continue t c =
    arms.made c.put_nothing-in-Continue.result c.put_nothing-in-Continue.new.done _ _ c.put_nothing-in-Continue.ensures (arms.named (names.stmt-Continue _ c.in-Continue.is))

pub put_stmt-returns-in-Break : goal.put_stmt-returns-in-Break
put_stmt-returns-in-Break t c =
    arms.made c.put_nothing-in-Break.result c.put_nothing-in-Break.new.done _ _ c.put_nothing-in-Break.ensures (arms.named (names.stmt-Break _ c.in-Break.is))

pub put_stmt-returns-in-Return : goal.put_stmt-returns-in-Return
put_stmt-returns-in-Return t c =
    arms.made c.put_value-in-Return.result c.put_value-in-Return.new.done _ _ c.put_value-in-Return.ensures (arms.named (names.stmt-Return _ _ c.in-Return.is))

pub put_stmts-returns : goal.put_stmts-returns
put_stmts-returns t c =
    arms.made c.join_all.result c.join_all.new.done _ _ c.join_all.ensures (arms.put_all stmt_names c.args.items.now c.loop-item.item-index
    c.loop-item.done c.args.done.now c.loop-item-test.false c.loop-item.invariant)
