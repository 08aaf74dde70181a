-- What steps of the machine answer, by the core's states.
use Rattle.std.specs.Prelude.{◌≡◌, ℕ, ℤ, Bool, true, false, Result, Ok, Err}
use Rattle.std.specs.declared.alloc.AllocError.{AllocError}
use Rattle.plain_data.specs.declared.run.Side.TheVariants as side
use Rattle.plain_data.specs.declared.run.Happening.TheVariants.{Branch}
use Rattle.c_language.specs.Integers.{is_zero}
use Rattle.c_machine.specs.declared.halt.Halt.{Halt}
use Rattle.core_tree.specs.States.{Output, Done, Outcome, note, plain}
use Rattle.core_running.specs.Running.{RunsTo}

abbrev pub Runs : {A : Type 0} → Result A Halt → Done Output → Outcome Output A → Type 0
Runs r d o = RunsTo (λ x. x) r d o

-- the side that a value takes was noted
abbrev pub Branches : Result Bool AllocError → Done Output → ℕ → ℤ → Done Output → Type 0
Branches (Ok true) d at z before = (is_zero z ≡ false) × (d ≡ note plain (Branch at side.Yes) before)
Branches (Ok false) d at z before = (is_zero z ≡ true) × (d ≡ note plain (Branch at side.No) before)
Branches (Err e) d at z before = Unit {0}
