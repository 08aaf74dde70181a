-- The functions that a source's core has, with what stands at their tokens.
use Rattle.std.specs.Prelude.{ℕ, cond, List, [], ◌∷◌, map, Option, Some, None, slice_get}
use Rattle.c_language.specs.declared.unit.External.{External}
use Rattle.c_language.specs.Scopes.{Name}
use Rattle.c_means.specs.declared.profile.Profile.{Profile}
use Rattle.c_means.specs.Marks.{Mark}
use Rattle.c_means.specs.Parts.{Level, Limits}
use Rattle.c_means.specs.Programs.{Function, functions_of, has_function, reached}
use Rattle.c_means.specs.Runs as whole
use Rattle.c_means.specs.Units.{least, machine_of, silent}
use Rattle.core_tree.specs.declared.program.Core.{Core}
use Rattle.core_tree.specs.declared.program.Function.{Function as CoreFunction}
use Rattle.core_marks.specs.Programs.{function_marks, own_functions}
use Rattle.core_tree.specs.Programs.{body_of, body_room, body_size, machine, measures_of}
use Rattle.core_tree.specs.States.{Measures, Output, plain}
use Rattle.elaborate.specs.Tokens.{all_told}
use Rattle.core_programs.specs.Numberings.{placed}

-- each of these is that of the one in its place
abbrev pub AllAre : {A B : Type 0} → (A → B → Type 0) → List A → List B → Type 0
AllAre R [] [] = Unit {0}
AllAre R (x ∷ xs) (y ∷ ys) = R x y × AllAre R xs ys
AllAre R _ _ = ⊥

-- ---- names

-- none where there is no function of the number
abbrev pub name_if : Option CoreFunction → Name
name_if None = []
name_if (Some f) = f.name

abbrev pub name_in : Core → ℕ → Name
name_in p n = name_if (slice_get p.functions n)

-- ---- functions

-- of the functions of a program those that are reached, in order
abbrev pub reached_among : List Function → List Function → List Function
reached_among found [] = []
reached_among found (f ∷ fs) = cond (has_function f found) (f ∷ reached_among found fs) (reached_among found fs)

-- A function's name; what stands at its tokens: sides of branches, calls, which functions these enter by their bodies,
-- log calls with their formats and watched variables, and kinds of undefined behaviour; and how many nodes it unrolls
-- to and how many places it takes, within limits, with so many levels of calls left below it.
pub record Told : Type 0 where
  pub name : Name
  pub marks : List Mark
  pub size : Limits → ℕ → ℕ
  pub room : Limits → ℕ → ℕ

-- no size and no room depends on the world
abbrev pub measures_in : Core → Limits → ℕ → CoreFunction → Measures
measures_in p limits n x = measures_of (machine plain p silent limits 0) n x

abbrev pub told_in : Core → CoreFunction → Told
told_in p x = record {
  name = x.name;
  marks = all_told (name_in p) (function_marks x);
  size = λ limits n. body_size {O = Output} (body_of x) (measures_in p limits n x);
  room = λ limits n. body_room {O = Output} (body_of x) (measures_in p limits n x);
}

-- as the meaning of C says
abbrev pub level_in : whole.Machine → Limits → ℕ → Function → Level
level_in m limits n f = whole.level_of (placed m silent limits 0) n f limits.turns

abbrev pub told_of : whole.Machine → Function → Told
told_of m f = record {
  name = f.name;
  marks = whole.function_marks m f;
  size = λ limits n. f.body.size (level_in m limits n f);
  room = λ limits n. whole.body_room f (level_in m limits n f);
}

-- the functions of the source that are reached, in order (what stands at tokens depends on no world and no bounds)
abbrev pub told_source : List External → Profile → List Told
told_source xs profile =
    let m = machine_of xs profile silent least 1 in
    map (told_of m) (reached_among (reached profile m.program) (functions_of m.program))

-- those of a core
abbrev pub told_core : Core → List Told
told_core p = map (told_in p) (own_functions p.functions)
