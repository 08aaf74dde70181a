-- What an answer says of a part of the core that was run on the machine.
use Rattle.std.specs.Prelude.{◌≡◌, ◌+◌, ◌<◌, ◌^◌, ℕ, ℤ, true, false, List, map, Option, Some, Result, Ok, Err}
use Rattle.c_means.specs.Parts.{Env}
use Rattle.c_machine.specs.declared.halt.Halt.{Halt}
use Rattle.c_machine.specs.declared.halt.Halt.TheVariants.{Over, Memory}
use Rattle.c_machine.specs.declared.machine.Machine.{Machine}
use Rattle.c_machine.specs.declared.value.Value.{Value}
use Rattle.c_machine.specs.States.{state}
use Rattle.c_machine.specs.Worth.{worth}
use Rattle.core_tree.specs.States.{Output, Done, Outcome}
use Rattle.elaborate.specs.Means.{as_done}

-- the state of the definition that the machine is
abbrev pub done : Machine → Done Output
done m = as_done (state m)

-- the places of what begins at a base, and takes so many, have numbers that count
abbrev pub Low : ℕ → ℕ → Type 0
Low base room = base + room < 2 ^ 63

-- The answer of a call that leaves a state is the outcome by the definition: what was found, or that the run is over.
-- Where there is no memory it says nothing.
abbrev pub RunsTo : {A B : Type 0} → (A → B) → Result A Halt → Done Output → Outcome Output B → Type 0
RunsTo view (Ok x) d o = o ≡ Some (Ok (view x, d))
RunsTo view (Err Over) d o = o ≡ Some (Err d)
RunsTo view (Err Memory) d o = Unit {0}

-- the answer is a value
abbrev pub RunsWorth : Result Value Halt → Done Output → Outcome Output ℤ → Type 0
RunsWorth r d o = RunsTo worth r d o

-- a list of values
abbrev pub worths : List Value → List ℤ
worths vs = map worth vs
