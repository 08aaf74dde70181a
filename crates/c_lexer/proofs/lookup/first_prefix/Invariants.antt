use Rattle.std.proofs.Common.{◌≡◌, length, map}
use Rattle.c_lexer.specs.Tables.{first_prefix}
use Rattle.c_lexer.proofs.lookup.first_prefix.Given as goal

abbrev pub invariant-loop-table : goal.invariant-loop-table
invariant-loop-table l =
    first_prefix (map (λ row. (row.0.now, row.1)) l.table) l.text
    ≡ first_prefix (map (λ row. (row.0.now, row.1)) l.initial.table) l.text

abbrev pub decreases-loop-table : goal.decreases-loop-table
decreases-loop-table l = length l.table
