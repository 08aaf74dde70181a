use Rattle.std.proofs.Common.{◌≡◌, drop}
use Rattle.c_means.specs.Names.{stmt_names}
use Rattle.c_names.specs.Working.{put_each}
use Rattle.c_names.proofs.statements.+statement.Given as goal

abbrev pub invariant-put_stmts-loop-item : goal.invariant-put_stmts-loop-item
invariant-put_stmts-loop-item l = put_each stmt_names (drop l.item-index l.items) l.done ≡ put_each stmt_names l.items l.fn.done
