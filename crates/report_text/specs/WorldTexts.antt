-- The texts of worlds.
use Rattle.std.specs.Prelude.{ℕ, ◌+◌, List, [], ◌∷◌, ◌++◌, codes}
use Rattle.std.specs.List.{flat_map}
use Rattle.plain_data.specs.Worlds.{WorldTables}
use Rattle.report_text.specs.Numbers.{Text, count_text}

abbrev pub entry_line : Text → ℕ × ℕ → Text
entry_line head entry = count_text head entry.0 ++ (count_text (codes " ") entry.1 ++ codes "\n")

-- its words by place, and its initial bytes by address
abbrev pub world_text : ℕ → WorldTables → Text
world_text number world =
    count_text (codes "world ") number ++ (codes "\n" ++ (flat_map (entry_line (codes "w ")) world.words ++ flat_map (entry_line (codes "b ")) world.bytes))

-- the worlds, numbered from this one on
abbrev pub world_texts : ℕ → List WorldTables → Text
world_texts number [] = []
world_texts number (world ∷ worlds) = world_text number world ++ world_texts (number + 1) worlds
