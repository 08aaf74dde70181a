-- What a run shows along a stripped log.
use Rattle.std.specs.Prelude.{◌≡◌, ℕ, ℤ, List, Some, Any, All, slice_get}
use Rattle.plain_data.specs.declared.run.Undefined.{Undefined}
use Rattle.plain_data.specs.declared.run.Finish.{Finish}
use Rattle.plain_data.specs.declared.run.Finish.TheVariants as finish
use Rattle.plain_data.specs.declared.run.Side.{Side}
use Rattle.plain_data.specs.declared.run.Happening.{Happening}
use Rattle.plain_data.specs.declared.run.Happening.TheVariants as happening
use Rattle.plain_data.specs.declared.run.Event.{Event}
use Rattle.plain_data.specs.declared.run.Run.{Run}
use Rattle.plain_data.specs.declared.fact.Fact.{Fact}
use Rattle.plain_data.specs.declared.fact.Fact.TheVariants as fact
use Rattle.log_text.specs.Lines.{line_of}

-- the run stays within its bounds
abbrev pub StaysIn : Finish → Type 0
StaysIn (finish.Left at) = ⊥
StaysIn _ = Unit {0}

-- the run fits the log: it prints exactly the log and doesn't leave the bounds
pub record Fits (log : List ℕ) (run : Run) : Type 0 where
  pub stays : StaysIn run.finish
  pub prints : run.printed ≡ log

-- the event begins in this line of the log
abbrev pub BeginsIn : List ℕ → ℕ → Event → Type 0
BeginsIn log line event = line_of log event.printed ≡ line

abbrev pub IsBranch : ℕ → Side → Happening → Type 0
IsBranch at side what = what ≡ happening.Branch at side

abbrev pub IsCall : ℕ → Happening → Type 0
IsCall at what = what ≡ happening.Call at

-- a print by this site
abbrev pub IsPrint : ℕ → Happening → Type 0
IsPrint at (happening.Print site count seen) = site ≡ at
IsPrint at _ = ⊥

-- the run ends by undefined behaviour of this kind
abbrev pub StopsBy : Undefined → Finish → Type 0
StopsBy kind (finish.Stopped met at) = met ≡ kind
StopsBy kind _ = ⊥

abbrev pub Returns : Finish → Type 0
Returns (finish.Return value) = Unit {0}
Returns _ = ⊥

abbrev pub Exits : Finish → Type 0
Exits (finish.Exit value) = Unit {0}
Exits _ = ⊥

-- the fact holds on the run
abbrev pub Holds : List ℕ → Run → Fact → Type 0
Holds log run (fact.Branch at side) = Any (λ event. IsBranch at side event.what) run.events
Holds log run (fact.BranchIn at side line) = Any (λ event. IsBranch at side event.what × BeginsIn log line event) run.events
Holds log run (fact.Call at) = Any (λ event. IsCall at event.what) run.events
Holds log run (fact.CallIn at line) = Any (λ event. IsCall at event.what × BeginsIn log line event) run.events
Holds log run (fact.Print at line) = Any (λ event. IsPrint at event.what × BeginsIn log line event) run.events
Holds log run (fact.StopAt kind at) = run.finish ≡ finish.Stopped kind at
Holds log run fact.Returned = Returns run.finish
Holds log run fact.Exited = Exits run.finish
Holds log run fact.Aborted = run.finish ≡ finish.Abort
Holds log run (fact.StopOf kind) = StopsBy kind run.finish

-- a print saw this value in this place of its watched variables
abbrev pub Saw : ℕ → ℤ → Happening → Type 0
Saw place value (happening.Print at count seen) = slice_get seen place ≡ Some value
Saw place value _ = ⊥

-- a watched variable, by its place in what the site's prints see, has this value: each print by the site that
-- begins in the line saw it
abbrev pub ValueIs : List ℕ → Run → ℕ → ℕ → ℕ → ℤ → Type 0
ValueIs log run at line place value =
    All (λ event. IsPrint at event.what → BeginsIn log line event → Saw place value event.what) run.events
