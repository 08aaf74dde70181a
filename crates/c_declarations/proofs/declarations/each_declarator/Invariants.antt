use Rattle.std.proofs.Common.{◌≡◌, drop, map}
use Rattle.c_declarations.specs.Views.{declares_in, each_as, item_of}
use Rattle.c_declarations.proofs.declarations.each_declarator.Given as goal

abbrev pub invariant-loop-item : goal.invariant-loop-item
invariant-loop-item l =
    each_as l.storage l.specified (declares_in l.found l.scope) (map item_of (drop l.item-index l.items))
    ≡ each_as l.storage l.specified (declares_in l.fn.found l.fn.scope) (map item_of l.items)
