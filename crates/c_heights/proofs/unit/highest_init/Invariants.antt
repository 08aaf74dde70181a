use Rattle.std.proofs.Common.{◌≡◌, map, max, drop}
use Rattle.std.specs.Prelude.{Bool}
use Rattle.c_grammar.specs.Grammar.{highest}
use Rattle.c_grammar.specs.Units.{init_piece}
use Rattle.c_heights.specs.Capped.{capped}
use Rattle.c_heights.proofs.unit.highest_init.Given as goal

abbrev pub invariant-loop-item : goal.invariant-loop-item
invariant-loop-item l =
    (is_type : Bool) → max l.most (capped (highest (map (init_piece is_type) (drop l.item-index l.items)))) ≡ capped
    (highest (map (init_piece is_type) l.items))
