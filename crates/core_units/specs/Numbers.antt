-- How the functions of a program are numbered in its core: those of the source that are reached, in order, then those
-- of the prelude, then the others of the source, in order.
use Rattle.std.specs.Prelude.{ℕ, suc, ◌+◌, Bool, true, false, not, cond, List, [], ◌∷◌, length}
use Rattle.std.specs.Str.{bytes_eq}
use Rattle.c_language.specs.Scopes.{Name}
use Rattle.c_means.specs.Programs.{Function, Program, functions_of, has_function}
use Rattle.core_programs.specs.Marked.{reached_among}
use Rattle.core_programs.specs.Numberings.{Numbers}

-- those that aren't reached, in order
abbrev pub others_among : List Function → List Function → List Function
others_among found [] = []
others_among found (f ∷ fs) = cond (has_function f found) (others_among found fs) (f ∷ others_among found fs)

-- the next number behind one that is taken, or isn't
abbrev pub next_number : Bool → ℕ → ℕ
next_number true n = suc n
next_number false n = n

-- the number of the first function of a name, where these are the next number of one that is reached, and of another
abbrev pub number_from : List Function → ℕ → ℕ → List Function → Name → ℕ
number_from found n m [] name = 0
number_from found n m (f ∷ fs) name =
    cond (bytes_eq f.name name) (cond (has_function f found) n m)
    (number_from found (next_number (has_function f found) n) (next_number (not (has_function f found)) m) fs name)

-- the number of the first of a name
abbrev pub position_from : ℕ → List Function → Name → ℕ
position_from n [] name = 0
position_from n (f ∷ fs) name = cond (bytes_eq f.name name) n (position_from (suc n) fs name)

-- the number of the first that isn't reached
abbrev pub first_other : List Function → List Function → List Function → ℕ
first_other found fs prelude = length (reached_among found fs) + length prelude

abbrev pub numbers_of : List Function → Program → List Function → Numbers
numbers_of found p prelude = record {
  source = number_from found 0 (first_other found (functions_of p) prelude) (functions_of p);
  prelude = position_from (length (reached_among found (functions_of p))) prelude;
}
