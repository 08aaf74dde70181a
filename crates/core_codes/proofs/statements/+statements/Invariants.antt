use Rattle.std.proofs.Common.{map, drop}
use Rattle.c_means.specs.Statements.{stmt}
use Rattle.core_codes.proofs.InTurn.{Leads}
use Rattle.core_codes.proofs.statements.+statements.Given as goal

abbrev pub invariant-all_items-loop-item : goal.invariant-all_items-loop-item
invariant-all_items-loop-item g l =
    Leads (g.P.Parts.numbering l.parts) l.x l.fn.scope (map stmt l.items) (map stmt (drop l.item-index l.items))
    l.made l.scope
