-- Texts, and numbers in them.
use Rattle.std.specs.Prelude.{ℕ, List, ◌++◌}
use Rattle.std.specs.Fmt.{decimal}

abbrev pub Text : Type 0
Text = List ℕ

-- a number behind its head
unfoldable pub count_text : Text → ℕ → Text
count_text head count = head ++ decimal count
