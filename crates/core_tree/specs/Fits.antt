-- Runs whose printed bytes are a log, told of the run that prints and of the run along the log.
use Rattle.std.specs.Prelude.{ℕ, Bool, true, false, ◌&&◌, nat_eq, List, [], ◌∷◌, length, Option, Some, None}
use Rattle.plain_data.specs.declared.run.Finish.TheVariants as finish
use Rattle.c_means.specs.declared.kind.Kind.{Kind}
use Rattle.c_means.specs.declared.kind.Kind.TheVariants as k
use Rattle.c_means.specs.Parts.{World, Limits}
use Rattle.core_tree.specs.declared.program.Core.{Core}
use Rattle.core_tree.specs.States.{Output, plain, along, Done}
use Rattle.core_tree.specs.Programs.{machine, end_of, nothing_left}

-- the run didn't leave the bounds
abbrev pub is_within : Kind → Bool
is_within (k.Ended (finish.Left at)) = false
is_within _ = true

abbrev pub same_bytes : List ℕ → List ℕ → Bool
same_bytes [] [] = true
same_bytes [] (y ∷ ys) = false
same_bytes (x ∷ xs) [] = false
same_bytes (x ∷ xs) (y ∷ ys) = nat_eq x y && same_bytes xs ys

-- what was printed is the log
abbrev pub has_printed : List ℕ → Option (Done Output) → Bool
has_printed log None = false
has_printed log (Some d) = is_within d.kind && same_bytes d.out.printed log

-- the run along the log is at its end
abbrev pub has_reached : List ℕ → Option (Done ℕ) → Bool
has_reached log None = false
has_reached log (Some d) = is_within d.kind && nat_eq d.out (length log)

-- a run along a log
abbrev pub run_along : List ℕ → Core → World → Limits → ℕ → Option (Done ℕ)
run_along log p world limits depth = end_of (machine (along log) p world limits depth) 0

-- the run that prints fits the log
abbrev pub fits : List ℕ → Core → World → Limits → ℕ → Bool
fits log p world limits depth = has_printed log (end_of (machine plain p world limits depth) nothing_left)
