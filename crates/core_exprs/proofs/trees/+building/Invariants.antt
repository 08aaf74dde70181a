use Rattle.std.proofs.Common.{drop}
use Rattle.core_exprs.specs.Found.{LeadsTo}
use Rattle.core_exprs.proofs.trees.+building.Given as goal

abbrev pub invariant-all_arguments-loop-item : goal.invariant-all_arguments-loop-item
invariant-all_arguments-loop-item g l =
    LeadsTo (g.C.Places.numbering l.callees) l.fn.faults l.items l.fn.scope (drop l.item-index l.items) l.all l.scope
