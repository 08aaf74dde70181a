use Rattle.std.proofs.Common.{◌≡◌, drop, map}
use Rattle.c_language.specs.Initials.{fills_all}
use Rattle.c_initials.specs.Filled.{filling_in}
use Rattle.c_means.specs.Initials.{all_fills, listed_item}
use Rattle.core_declarations.proofs.Fillings.{Leads}
use Rattle.core_declarations.proofs.initials.+initial.Given as goal

abbrev pub invariant-fills_all-loop-item : goal.invariant-fills_all-loop-item
invariant-fills_all-loop-item g l =
    (fills_all (all_fills (map listed_item (drop l.item-index l.items))) (filling_in l.found.filling l.scope)
    ≡ fills_all (all_fills (map listed_item l.items)) (filling_in l.fn.found.filling l.fn.scope))
    × Leads (g.C.Places.numbering l.callees) l.items l.fn.found l.fn.scope (drop l.item-index l.items) l.found l.scope
