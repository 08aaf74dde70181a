use Rattle.std.proofs.Common.{◌≡◌, ◌≤◌, length, take, map, reverse}
use Rattle.c_grammar.specs.Parts.{is_type_among}
use Rattle.c_scope.specs.Local.{frame_of}
use Rattle.c_scope.proofs.levels.Levels.walk.Given as goal

abbrev pub invariant-walk : goal.invariant-walk
invariant-walk l = record {
  within : l.index ≤ length l.self-inside.levels.items;
  rest : is_type_among l.name (map (frame_of l.file) (reverse (take l.index l.self-inside.levels.items)))
      ≡ is_type_among l.name (map (frame_of l.file) (reverse l.self-inside.levels.items));
}

abbrev pub decreases-walk : goal.decreases-walk
decreases-walk l = l.index
