-- What is reached and needed is the same where the source is asked: log and identity functions are.
use Rattle.std.proofs.Common.{◌≡◌, ℕ, zero, suc, ◌+◌, List, [], ◌∷◌, ◌++◌, length, refl, ap}
use Rattle.c_language.specs.Scopes.{Name}
use Rattle.c_means.specs.declared.profile.Profile.{Profile}
use Rattle.c_means.specs.Names.{Word}
use Rattle.c_means.specs.Programs.{Function, Needs, Program, all_called, all_needs, all_uses, called_by, functions_of, main'}
use Rattle.c_means.specs.Programs.{need, needs_of, newly, reach, reached, run_body, used_by}
use Rattle.assumptions.specs.Asked.{asked}

reach_same : (p : Profile) (fs : List Function) (n : ℕ) (todo : List Name) (found : List Function) →
    reach n (asked p) fs todo found ≡ reach n p fs todo found
reach_same p fs zero todo found = refl
reach_same p fs (suc n) [] found = refl
reach_same p fs (suc n) (name ∷ todo) found =
    let new = newly found (run_body p fs name) in reach_same p fs n (called_by new ++ todo) (new ++ found)

pub reached_same : (p : Profile) (program : Program) → reached (asked p) program ≡ reached p program
reached_same p program =
    let fs = functions_of program in reach_same p fs (suc (suc (all_called fs))) (main' ∷ []) []

pub needs_same : (p : Profile) (program : Program) → needs_of (asked p) program ≡ needs_of p program
needs_same p program = ap of_reached (reached_same p program)
  where
    words : List Function → List Word
    words found = let ws = used_by found in need (suc (length ws + all_uses program.outers)) program.outers ws []

    of_reached : List Function → Needs
    of_reached found = all_needs (words found) found program.outers
