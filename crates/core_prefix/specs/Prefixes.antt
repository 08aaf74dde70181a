-- A core without its last functions.
use Rattle.std.specs.Prelude.{ℕ, Bool, true, nat_le, nat_lt, ◌&&◌, cond, length, take}
use Rattle.std.specs.List.{list_all}
use Rattle.core_tree.specs.declared.program.Core.{Core}
use Rattle.core_tree.specs.declared.program.Function.{Function}
use Rattle.core_marks.specs.declared.mark.Mark.{Mark}
use Rattle.core_marks.specs.declared.mark.Mark.TheVariants as mark
use Rattle.core_marks.specs.Programs.{function_marks}

-- what stands at a token is no call of a function by its body, or of one below the bound
abbrev pub mark_below : ℕ → Mark → Bool
mark_below n (mark.Branch at side) = true
mark_below n (mark.Call at) = true
mark_below n (mark.Body at function) = nat_lt function n
mark_below n (mark.Log site) = true
mark_below n (mark.Exit at) = true
mark_below n (mark.Abort at) = true
mark_below n (mark.Stop at kind) = true

-- each call in a function's body is of a function below the bound
abbrev pub calls_below : ℕ → Function → Bool
calls_below n f = list_all (mark_below n) (function_marks f)

-- The first so many functions are there, `main` is one of them, and none of them calls another one. What runs before
-- `main` is called, initializers of objects, has no level of calls below it, so no function matters to it.
abbrev pub is_closed : ℕ → Core → Bool
is_closed n p =
    nat_le n (length p.functions) && (nat_lt p.main n && list_all (calls_below n) (take n p.functions))

abbrev pub prefix : ℕ → Core → Core
prefix n p = record p { functions = take n p.functions }

-- without the functions behind the first so many, where these need none of them
abbrev pub cut : ℕ → Core → Core
cut n p = record p { functions = cond (is_closed n p) (take n p.functions) p.functions }
