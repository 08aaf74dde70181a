use Rattle.std.proofs.Common.{◌≡◌, ◌++◌, map, drop}
use Rattle.c_means.specs.Items.{every_of}
use Rattle.c_means.specs.Statements.{stmt}
use Rattle.c_checks.proofs.found_labels.+every.Given as goal

abbrev pub invariant-every_among-loop-stmt : goal.invariant-every_among-loop-stmt
invariant-every_among-loop-stmt l =
    l.found ++ every_of (map stmt (drop l.stmt-index l.stmts)) ≡ l.fn.found ++ every_of (map stmt l.stmts)
