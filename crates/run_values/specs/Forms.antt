-- What an answer says of a form of expression that was run.
use Rattle.std.specs.Prelude.{◌≡◌, ◌+◌, ℕ, Result, IfOk}
use Rattle.c_machine.specs.declared.halt.Halt.{Halt}
use Rattle.c_machine.specs.declared.machine.Machine.{Machine}
use Rattle.c_machine.specs.Worth.{worth}
use Rattle.core_tree.specs.States.{Output}
use Rattle.core_tree.specs.Values.{Value}
use Rattle.core_running.specs.declared.found.Found.{Found}
use Rattle.core_running.specs.declared.frame.Frame.{Frame}
use Rattle.core_running.specs.Frames.{env_of}
use Rattle.core_running.specs.Running.{done, Low, RunsTo}
use Rattle.core_running.specs.Settings.{Setting, level}

-- its places have numbers that count
abbrev pub Fits : Setting → ℕ → Value Output → Type 0
Fits s base v = Low base (v.needs.room s.measures)

-- the machine does what it does, from one state to the next
abbrev pub RunsAs : Setting → Frame → ℕ → Machine → Machine → Result Found Halt → Value Output → Type 0
RunsAs s f base m n r v = RunsTo (λ x. worth x.value) r (done n) (v.run (level s) (env_of f) base (done m))

-- the first place behind its own
abbrev pub EndsAt : Setting → ℕ → Result Found Halt → Value Output → Type 0
EndsAt s base r v = IfOk r (λ x. x.next ≡ base + v.needs.room s.measures)
