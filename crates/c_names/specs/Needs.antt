-- The words that are needed, over what is kept of the names of external declarations: as `c_means` defines it, step by
-- step.
use Rattle.std.specs.Prelude.{ℕ, zero, suc, ◌+◌, ◌*◌, cond, List, [], ◌∷◌, ◌++◌, length}
use Rattle.c_means.specs.Names.{Word}
use Rattle.c_means.specs.Programs.{declares_word, has_word}
use Rattle.c_names.specs.declared.needs.Needing.{Needing}
use Rattle.c_names.specs.declared.summaries.Names.{Names}

-- what a declaration uses, where it declares a word, in front of what is left to look at
abbrev pub with_uses : Word → Names → List Word → List Word
with_uses w x todo = cond (declares_word w x.declares) (x.uses ++ todo) todo

abbrev pub with_all_uses : Word → List Names → List Word → List Word
with_all_uses w [] todo = todo
with_all_uses w (x ∷ xs) todo = with_uses w x (with_all_uses w xs todo)

abbrev pub looked_at : List Names → Word → Needing → Needing
looked_at xs w z =
    cond (has_word w z.found) z (record { todo = with_all_uses w xs z.todo; found = w ∷ z.found })

abbrev pub step_from : List Names → List Word → List Word → Needing
step_from xs [] found = record { todo = []; found = found }
step_from xs (w ∷ todo) found = looked_at xs w (record { todo = todo; found = found })

abbrev pub step : List Names → Needing → Needing
step xs z = step_from xs z.todo z.found

abbrev pub steps : List Names → ℕ → Needing → Needing
steps xs zero z = z
steps xs (suc n) z = steps xs n (step xs z)

abbrev pub all_uses : List Names → ℕ
all_uses [] = 0
all_uses (x ∷ xs) = length x.declares * length x.uses + all_uses xs

-- the words that are needed where some are used, the last found first
abbrev pub needed_words : List Names → List Word → List Word
needed_words xs ws =
    (steps xs (all_uses xs) (steps xs (length ws) (step xs (record { todo = ws; found = [] })))).found
