use Rattle.std.proofs.Common.{◌≡◌, ◌++◌, map, drop}
use Rattle.c_means.specs.Items.{labels_of}
use Rattle.c_means.specs.Statements.{stmt}
use Rattle.c_checks.proofs.found_labels.front_among.Given as goal

abbrev pub invariant-loop-stmt : goal.invariant-loop-stmt
invariant-loop-stmt l =
    l.found ++ labels_of (map stmt (drop l.stmt-index l.stmts)) ≡ l.fn.found ++ labels_of (map stmt l.stmts)
