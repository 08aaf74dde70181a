use Rattle.std.proofs.Common.{◌≡◌, Some, drop, sym, ap, ◌∙◌, subst}
use Rattle.c_grammar.specs.UnitReading as spec
use Rattle.c_scope.specs.Local.{scope_of}
use Rattle.c_reading.specs.Cursor.{state_of, Fails}
use Rattle.c_parser.proofs.BlockReads.{found_gives, unread_gives}
use Rattle.c_parser.proofs.bodies.read_block.Goals as goal

pub returns-in_ok-found-in-Ok : goal.returns-in_ok-found-in-Ok
returns-in_ok-found-in-Ok c =
    let s = state_of c.args.group.now c.args.file.now c.args.c.now in
    let rest = drop c.statement.new.c.position c.args.group.now in
    let scope = scope_of c.args.file.now c.statement.new.c.names in
    let read : spec.stmt_at 256 0 s ≡ Some (c.in-Ok.block, (rest, scope)) =
    subst (λ h. spec.stmt_at h 0 s ≡ Some (c.in-Ok.block, (rest, scope))) c.most_height.ensures c.in-Ok.ensures in
    ap Some (sym (c.in_ok-found-in-Ok.ensures ∙ found_gives c.args.at c.is_at_end.result c.in-Ok.block rest scope
    (spec.stmt_at 256 0 s) c.is_at_end.ensures read))

pub returns-in-Err : goal.returns-in-Err
returns-in-Err c =
    let s = state_of c.args.group.now c.args.file.now c.args.c.now in
    let fails = subst (λ h. Fails c.in-Err.fault (spec.stmt_at h 0 s)) c.most_height.ensures c.in-Err.ensures in
    rw c.unread.ensures (unread_gives c.args.at c.in-Err.fault (spec.stmt_at 256 0 s) fails)
