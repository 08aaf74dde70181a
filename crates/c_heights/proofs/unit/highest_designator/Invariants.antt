use Rattle.std.proofs.Common.{◌≡◌, map, max, drop}
use Rattle.c_grammar.specs.Grammar.{highest}
use Rattle.c_grammar.specs.Units.{designator_piece}
use Rattle.c_heights.specs.Capped.{capped}
use Rattle.c_heights.proofs.unit.highest_designator.Given as goal

abbrev pub invariant-loop-item : goal.invariant-loop-item
invariant-loop-item l =
    max l.most (capped (highest (map designator_piece (drop l.item-index l.items)))) ≡ capped
    (highest (map designator_piece l.items))
