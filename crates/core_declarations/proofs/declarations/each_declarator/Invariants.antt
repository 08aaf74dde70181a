use Rattle.std.proofs.Common.{drop, map}
use Rattle.c_means.specs.Statements.{declaring}
use Rattle.core_declarations.proofs.InOrder.{Leads}
use Rattle.core_declarations.proofs.declarations.each_declarator.Given as goal

abbrev pub invariant-loop-item : goal.invariant-loop-item
invariant-loop-item g l =
    Leads (g.C.Places.numbering l.callees) l.storage l.specified l.fn.scope (map declaring l.items)
    (map declaring (drop l.item-index l.items)) l.begun l.scope
