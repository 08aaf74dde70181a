-- The state of the definition that the machine is, and what a call of the machine answers by it.
use Rattle.std.specs.Prelude.{◌≡◌, ◌≤◌, ◌^◌, ℕ, ℤ, pos, negsuc, Bool, true, false, Option, Some, None, IsSome, Result, Ok, Err}
use Rattle.std.specs.declared.alloc.AllocError.{AllocError}
use Rattle.plain_data.specs.declared.run.Side.TheVariants as side
use Rattle.plain_data.specs.declared.run.Happening.TheVariants.{Branch}
use Rattle.c_language.specs.Integers.{is_zero}
use Rattle.c_means.specs.Operators as means
use Rattle.c_means.specs.Parts.{State, Outcome, note}
use Rattle.c_memory.specs.Memories.{store_of, initial_bytes}
use Rattle.c_machine.specs.declared.halt.Halt.{Halt}
use Rattle.c_machine.specs.declared.halt.Halt.TheVariants.{Over, Memory}
use Rattle.c_machine.specs.declared.machine.Machine.{Machine}
use Rattle.c_machine.specs.declared.operand.Operand.{Operand}
use Rattle.c_machine.specs.declared.value.Value.{Value}
use Rattle.c_machine.specs.Worth.{worth, IsNumber}

unfoldable pub state : Machine → State
state m = record {
  kind = m.kind;
  value = m.value;
  store = store_of (initial_bytes m.world) m.memory.cells;
  count = m.count;
  printed = m.printed;
  events = m.events;
  met = m.met;
}

-- The answer of a call that leaves a state is the outcome by the definition: what was found, or that the run is over.
-- Where there is no memory it says nothing.
abbrev pub RunsTo : {A B : Type 0} → (A → B) → Result A Halt → State → Outcome B → Type 0
RunsTo view (Ok x) d o = o ≡ Ok (view x, d)
RunsTo view (Err Over) d o = o ≡ Err d
RunsTo view (Err Memory) d o = Unit {0}

abbrev pub Runs : {A : Type 0} → Result A Halt → State → Outcome A → Type 0
Runs r d o = RunsTo (λ x. x) r d o

-- the answer is a value
abbrev pub RunsWorth : Result Value Halt → State → Outcome ℤ → Type 0
RunsWorth r d o = RunsTo worth r d o

-- the side that a value takes was noted
abbrev pub Branches : Result Bool AllocError → State → ℕ → ℤ → State → Type 0
Branches (Ok true) d at z before = (is_zero z ≡ false) × (d ≡ note (Branch at side.Yes) before)
Branches (Ok false) d at z before = (is_zero z ≡ true) × (d ≡ note (Branch at side.No) before)
Branches (Err e) d at z before = Unit {0}

-- an operand as the definition has it: an integer is kept as a number
abbrev pub seen : Operand → means.Operand
seen x = record { kind = x.kind; element = x.element; value = worth x.value }

abbrev pub HasNumber : Operand → Type 0
HasNumber x = IsSome x.kind → IsNumber x.value

-- the address to which a number leads, or that there is none
abbrev pub IsFar : ℤ → Type 0
IsFar (pos n) = 2 ^ 64 ≤ n
IsFar (negsuc n) = Unit {0}

abbrev pub Leads : Option ℕ → ℤ → Type 0
Leads (Some to) z = z ≡ pos to
Leads None z = IsFar z
