use Rattle.std.proofs.Common.{◌≡◌, map, max, drop}
use Rattle.c_grammar.specs.Units.{highest_stmt, stmt_shape}
use Rattle.c_heights.specs.Capped.{capped}
use Rattle.c_heights.proofs.unit.+statement.Given as goal

abbrev pub invariant-highest_stmt-loop-item : goal.invariant-highest_stmt-loop-item
invariant-highest_stmt-loop-item l =
    max l.most (capped (highest_stmt (map stmt_shape (drop l.item-index l.items)))) ≡ capped
    (highest_stmt (map stmt_shape l.items))
