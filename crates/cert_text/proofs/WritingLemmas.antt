-- The text of a world, part by part.
use Rattle.std.proofs.Common.{◌≡◌, ℕ, Bool, true, false, cond, [], ◌∷◌, ◌++◌, append_assoc, refl, sym, ap, ◌∙◌}
use Rattle.std.specs.Prelude.{map}
use Rattle.std.specs.List.{filter, concat, flat_map}
use Rattle.std.proofs.lemmas.List.Folds.{concat-append}
use Rattle.plain_data.specs.Worlds.{Table, WorldTables}
use Rattle.cert_text.specs.Lines.{Text}
use Rattle.cert_text.specs.WorldTexts.{head_line, end_line, word_line, byte_line, has_line, world_text}

abbrev word_text : ℕ × ℕ → Text
word_text e = cond (has_line e) (word_line e) []

words-text : (table : Table) → concat (map word_line (filter has_line table)) ≡ flat_map word_text table
words-text [] = refl
words-text (e ∷ table) = by (has_line e) (words-text table)
  where
    by : (t : Bool) → concat (map word_line (filter has_line table)) ≡ flat_map word_text table
        → concat (map word_line (cond t (e ∷ filter has_line table) (filter has_line table))) ≡ cond t (word_line e) [] ++ flat_map word_text table
    by true ih = ap (λ r. word_line e ++ r) ih
    by false ih = ih

bytes-text : (table : Table) → concat (map byte_line table) ≡ flat_map byte_line table
bytes-text [] = refl
bytes-text (e ∷ table) = ap (λ r. byte_line e ++ r) (bytes-text table)

parts : (world : WorldTables) → world_text world ≡ head_line ++ (flat_map word_text world.words ++ (flat_map byte_line world.bytes ++ end_line))
parts world =
    ap (λ r. head_line ++ r) (concat-append (map word_line (filter has_line world.words)) (map byte_line world.bytes ++ end_line ∷ [])
    ∙ ap (λ r. r ++ concat (map byte_line world.bytes ++ end_line ∷ [])) (words-text world.words)
    ∙ ap (λ r. flat_map word_text world.words ++ r) (concat-append (map byte_line world.bytes) (end_line ∷ []) ∙ ap (λ r. r ++ end_line) (bytes-text world.bytes)))

-- put one after the other
pub world-put : (text a b c d : Text) (world : WorldTables) → a ≡ text ++ head_line → b ≡ a ++ flat_map (λ e. cond (has_line e) (word_line e) []) world.words
    → c ≡ b ++ flat_map byte_line world.bytes → d ≡ c ++ end_line → d ≡ text ++ world_text world
world-put text a b c d world ea eb ec ed =
    let words = flat_map word_text world.words in
    let bytes = flat_map byte_line world.bytes in
    ed ∙ ap (λ r. r ++ end_line) (ec ∙ ap (λ r. r ++ bytes) (eb ∙ ap (λ r. r ++ words) ea))
    ∙ append_assoc ((text ++ head_line) ++ words) bytes end_line
    ∙ append_assoc (text ++ head_line) words (bytes ++ end_line)
    ∙ append_assoc text head_line (words ++ (bytes ++ end_line))
    ∙ ap (λ r. text ++ r) (sym (parts world))
