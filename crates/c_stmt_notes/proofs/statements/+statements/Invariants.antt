use Rattle.std.proofs.Common.{◌≡◌, drop, map}
use Rattle.c_means.specs.Statements.{stmt}
use Rattle.c_item_notes.specs.Levels.{judged}
use Rattle.c_item_notes.specs.ItemTellings.{summed_in}
use Rattle.c_stmt_notes.specs.StatementTellings.{context_in}
use Rattle.c_stmt_notes.proofs.Turns.{walked}
use Rattle.c_stmt_notes.proofs.statements.+statements.Given as goal

abbrev pub invariant-all_items-loop-item : goal.invariant-all_items-loop-item
invariant-all_items-loop-item l =
    walked (judged l.source) (context_in l.x l.fn.scope) (map stmt (drop l.item-index l.items))
    (summed_in l.found l.scope)
    ≡ walked (judged l.source) (context_in l.x l.fn.scope) (map stmt l.items) (summed_in l.fn.found l.fn.scope)
