use Rattle.std.proofs.Common.{◌≡◌, map, max, drop}
use Rattle.c_grammar.specs.Grammar.{highest}
use Rattle.c_grammar.specs.Units.{item_of}
use Rattle.c_heights.specs.Capped.{capped}
use Rattle.c_heights.proofs.unit.+initializer.Given as goal

abbrev pub invariant-highest_item-loop-item : goal.invariant-highest_item-loop-item
invariant-highest_item-loop-item l =
    max l.most (capped (highest (map item_of (drop l.item-index l.items)))) ≡ capped (highest (map item_of l.items))
