-- The search for functions that are reached, over their summaries: as `c_means` defines it, step by step.
use Rattle.std.specs.Prelude.{ℕ, zero, suc, ◌+◌, Bool, false, cond, ◌||◌, nat_eq, List, [], ◌∷◌, ◌++◌, length, Option}
use Rattle.std.specs.Prelude.{Some, None, is_some}
use Rattle.std.specs.Str.{bytes_eq}
use Rattle.c_language.specs.Scopes.{Name, last_where}
use Rattle.c_means.specs.declared.profile.Profile.{Profile}
use Rattle.c_means.specs.Programs.{main'}
use Rattle.c_means.specs.Rules.{log_of, identity_index}
use Rattle.c_reach.specs.declared.search.Reaching.{Reaching}
use Rattle.c_reach.specs.declared.summaries.FunctionNotes.{FunctionNotes}

abbrev pub has_at : ℕ → List FunctionNotes → Bool
has_at n [] = false
has_at n (f ∷ fs) = nat_eq n f.at || has_at n fs

-- the first function of a name, where they stand in reversed order
abbrev pub named_in : List FunctionNotes → Name → Option FunctionNotes
named_in fs name = last_where (λ f. bytes_eq f.name name) None fs

-- the bodies of log and identity functions don't run
abbrev pub run_body : Profile → List FunctionNotes → Name → Option FunctionNotes
run_body p fs name = cond (is_some (log_of p name) || is_some (identity_index p name)) None (named_in fs name)

abbrev pub gone_to : FunctionNotes → Reaching → Reaching
gone_to f z = cond (has_at f.at z.found) z (record { todo = f.body.called ++ z.todo; found = f ∷ z.found })

abbrev pub gone_on : Option FunctionNotes → Reaching → Reaching
gone_on None z = z
gone_on (Some f) z = gone_to f z

abbrev pub step_from : Profile → List FunctionNotes → List Name → List FunctionNotes → Reaching
step_from p fs [] found = record { todo = []; found = found }
step_from p fs (name ∷ todo) found = gone_on (run_body p fs name) (record { todo = todo; found = found })

abbrev pub step : Profile → List FunctionNotes → Reaching → Reaching
step p fs z = step_from p fs z.todo z.found

abbrev pub steps : Profile → List FunctionNotes → ℕ → Reaching → Reaching
steps p fs zero z = z
steps p fs (suc n) z = steps p fs n (step p fs z)

abbrev pub all_called : List FunctionNotes → ℕ
all_called [] = 0
all_called (f ∷ fs) = length f.body.called + all_called fs

abbrev pub begun : Reaching
begun = record { todo = main' ∷ []; found = [] }

-- the functions that are reached, the last found first; `fs` are all in reversed order, `all` in order
abbrev pub reached : Profile → List FunctionNotes → List FunctionNotes → List FunctionNotes
reached p fs all = (steps p fs (all_called all) (step p fs (step p fs begun))).found
