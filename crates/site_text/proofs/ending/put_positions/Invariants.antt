use Rattle.std.proofs.Common.{◌≡◌, ◌++◌, drop}
use Rattle.std.specs.List.{flat_map}
use Rattle.site_text.specs.Ends.{position_text}
use Rattle.site_text.proofs.ending.put_positions.Given as goal

abbrev pub invariant-loop-position : goal.invariant-loop-position
invariant-loop-position l =
    l.text ++ flat_map position_text (drop l.position-index l.positions) ≡ l.fn.text ++ flat_map position_text l.positions
