-- What stands at the tokens of the functions of a program.
use Rattle.std.specs.Prelude.{ℕ, suc, Bool, false, cond, ◌&&◌, nat_eq, List, [], ◌∷◌, ◌++◌}
use Rattle.std.specs.List.{list_any}
use Rattle.core_tree.specs.declared.program.Core.{Core}
use Rattle.core_tree.specs.declared.program.Function.{Function}
use Rattle.core_marks.specs.declared.mark.Mark.{Mark}
use Rattle.core_marks.specs.declared.mark.Mark.TheVariants.{Body}
use Rattle.core_marks.specs.Marks.{items_marks}

abbrev pub function_marks : Function → List Mark
function_marks f = items_marks f.items

-- A program has the functions of its source that are reached in front of those of the library.
abbrev pub own_functions : List Function → List Function
own_functions [] = []
own_functions (f ∷ fs) = cond f.is_prelude [] (f ∷ own_functions fs)

-- what stands at their tokens
abbrev pub marks_in_front : List Function → List Mark
marks_in_front [] = []
marks_in_front (f ∷ fs) = cond f.is_prelude [] (function_marks f ++ marks_in_front fs)

-- of the functions of the source that are reached
abbrev pub source_marks : Core → List Mark
source_marks p = marks_in_front p.functions

-- the mark is a call of the function of this number by its body
abbrev pub calls_body : ℕ → Mark → Bool
calls_body n (Body at function) = nat_eq function n
calls_body n _ = false

abbrev pub is_called : ℕ → List Mark → Bool
is_called n marks = list_any (λ m. calls_body n m) marks

-- of a function of the library that is called
abbrev pub library_function_marks : List Mark → ℕ → Function → List Mark
library_function_marks calls n f = cond (f.is_prelude && is_called n calls) (function_marks f) []

-- from this number on
abbrev pub library_functions_marks : List Mark → ℕ → List Function → List Mark
library_functions_marks calls n [] = []
library_functions_marks calls n (f ∷ fs) = library_function_marks calls n f ++ library_functions_marks calls (suc n) fs

-- of the functions of the library that are reached: those that a function of the source calls, since none of them calls
-- another
abbrev pub library_marks : Core → List Mark
library_marks p = library_functions_marks (source_marks p) 0 p.functions
