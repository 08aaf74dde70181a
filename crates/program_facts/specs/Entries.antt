-- Facts in order, each with the variables that it watches.
use Rattle.std.specs.Prelude.{◌≡◌, ℕ, zero, suc, List, [], ◌∷◌, ◌++◌, length, map, Option, Some, None}
use Rattle.plain_data.specs.declared.fact.Fact.{Fact}
use Rattle.plain_data.specs.declared.fact.Facts.{Facts}
use Rattle.plain_data.specs.declared.fact.Watched.{Watched}
use Rattle.core_tree.specs.declared.expr.Watched.{Watched as Variable}

-- a fact, with the variables that it watches, in order: only a print fact watches some
pub record Entry : Type 0 where
  pub fact : Fact
  pub shown : List Variable

abbrev pub plain : Fact → Entry
plain f = record { fact = f; shown = [] }

-- the same fact in each line, from the first to this one
abbrev pub each_line : (ℕ → Fact) → ℕ → List Entry
each_line f zero = []
each_line f (suc n) = each_line f n ++ (plain (f (suc n)) ∷ [])

-- a variable of the fact of a number, by the offset of its name in its first declaration
abbrev pub watched : ℕ → Variable → Watched
watched number x = record { fact = number; object = x.at }

abbrev pub all_watched : ℕ → List Variable → List Watched
all_watched number xs = map (λ x. watched number x) xs

-- a variable was put behind others, if there is one
abbrev pub PutsVariable : ℕ → Option Variable → List Watched → List Watched → Type 0
PutsVariable number None old now = now ≡ old
PutsVariable number (Some x) old now = now ≡ old ++ watched number x ∷ []

-- a fact behind others, whose number is how many there are then, and its watched variables behind theirs
abbrev pub with_fact : Facts → Fact → List Variable → Facts
with_fact all f shown = record {
  facts = all.facts ++ f ∷ [];
  watched = all.watched ++ all_watched (length (all.facts ++ f ∷ [])) shown;
}

abbrev pub with_all : Facts → List Entry → Facts
with_all all [] = all
with_all all (e ∷ es) = with_all (with_fact all e.fact e.shown) es

abbrev pub no_facts : Facts
no_facts = record { facts = []; watched = [] }
