use Rattle.std.proofs.Common.{◌≡◌, drop, map}
use Rattle.c_language.specs.Initials.{fills_all}
use Rattle.c_initials.specs.Filled.{filling_in}
use Rattle.c_means.specs.Initials.{all_elements, all_fills, listed_item}
use Rattle.c_item_notes.specs.Levels.{judged}
use Rattle.c_item_notes.specs.InitialTellings.{see, seen_in}
use Rattle.c_item_notes.proofs.initials.+initial.Given as goal

abbrev pub invariant-fills_all-loop-item : goal.invariant-fills_all-loop-item
invariant-fills_all-loop-item l =
    (fills_all (all_fills (map listed_item (drop l.item-index l.items))) (filling_in l.found.filling l.scope)
    ≡ fills_all (all_fills (map listed_item l.items)) (filling_in l.fn.found.filling l.fn.scope))
    × (see (judged l.source) (all_elements (map listed_item (drop l.item-index l.items))) (seen_in l.found.notes l.scope)
    ≡ see (judged l.source) (all_elements (map listed_item l.items)) (seen_in l.fn.found.notes l.fn.scope))
