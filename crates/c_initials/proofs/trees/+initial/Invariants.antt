use Rattle.std.proofs.Common.{◌≡◌, drop, map}
use Rattle.c_language.specs.Initials.{fills_all}
use Rattle.c_initials.specs.Filled.{filling_in}
use Rattle.c_initials.specs.Said.{item_fills}
use Rattle.c_initials.proofs.trees.+initial.Given as goal

abbrev pub invariant-fills_all-loop-item : goal.invariant-fills_all-loop-item
invariant-fills_all-loop-item l =
    fills_all (map item_fills (drop l.item-index l.items)) (filling_in l.filling l.scope)
    ≡ fills_all (map item_fills l.items) (filling_in l.fn.filling l.fn.scope)
