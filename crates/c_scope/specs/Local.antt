-- The names in scope while the names of the file are kept apart.
use Rattle.std.specs.Prelude.{List, [], ◌∷◌, ◌++◌, map, Bool, true, false, Option, option_map}
use Rattle.std.specs.List.{find}
use Rattle.c_grammar.specs.Parts.{Name, Bound, Frame, Scope, same_name}

-- The names of a block, the last declared first, and whether the block has the names of the file besides, which were
-- declared before these.
pub record Level : Type 0 where
  pub names : Frame
  pub over_file : Bool

-- The blocks that are entered, the innermost first, and the parameters of the function whose declarator was read last.
pub record Local : Type 0 where
  pub levels : List Level
  pub parameters : Level

abbrev pub over : Bool → Frame → Frame → Frame
over true file names = names ++ file
over false file names = names

abbrev pub frame_of : Frame → Level → Frame
frame_of file level = over level.over_file file level.names

-- what is in scope, given the names of the file
abbrev pub scope_of : Frame → Local → Scope
scope_of file local = record { frames = map (frame_of file) local.levels; parameters = frame_of file local.parameters }

-- whether the last declaration of a name in a block makes it a typedef name, if the block declares it
abbrev pub found : Name → Frame → Option Bool
found name names = option_map (λ (b : Bound). b.is_type) (find (λ (b : Bound). same_name name b.name) names)

-- a name is declared in the innermost block, if any
abbrev pub declared_at : Bound → List Level → List Level
declared_at b [] = []
declared_at b (l ∷ ls) = record l { names = b ∷ l.names } ∷ ls
