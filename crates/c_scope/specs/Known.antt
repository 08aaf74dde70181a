-- What the names of the blocks are, and what each was when it was declared.
use Rattle.std.specs.Prelude.{◌≡◌, List, [], ◌∷◌, ◌++◌, reverse, Bool, false, Option}
use Rattle.c_grammar.specs.Parts.{Name, Frame}
use Rattle.c_scope.specs.Local.{Level, found}
use Rattle.c_scope.specs.Kinds.{kind_at}
use Rattle.c_scope.specs.declared.known.Known.{Known}

-- the names of all blocks, the last declared first
abbrev pub flat : List Level → Frame
flat [] = []
flat (l ∷ ls) = l.names ++ flat ls

-- what each name was when it was declared
abbrev pub hidden_by : Frame → List (Option Bool)
hidden_by [] = []
hidden_by (b ∷ bs) = found b.name bs ∷ hidden_by bs

pub record Knows (known : Known) (names : Frame) : Type 0 where
  pub now : (name : Name) → kind_at known.kinds name ≡ found name names
  pub before : reverse known.hidden.items ≡ hidden_by names

-- only the outermost block may have the names of the file besides
abbrev pub OutermostAlone : Bool → List Level → Type 0
OutermostAlone in_file [] = in_file ≡ false
OutermostAlone in_file (l ∷ []) = l.over_file ≡ in_file
OutermostAlone in_file (l ∷ m ∷ ls) = (l.over_file ≡ false) × OutermostAlone in_file (m ∷ ls)

abbrev pub IsUsual : Known → List Level → Bool → Type 0
IsUsual known levels in_file = OutermostAlone in_file levels × Knows known (flat levels)
