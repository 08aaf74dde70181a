-- What is known of the function that runs calls by body.
use Rattle.std.specs.Prelude.{◌≡◌, ℕ, List, map, Some, Result, IfOk}
use Rattle.std.specs.declared.alloc.AllocError.{AllocError}
use Rattle.std.specs.declared.alloc.Global.{Global}
use denote.Ref.{Bor, MutBor}
use denote.Param.Members.{Shared}
use Rattle.c_machine.specs.declared.machine.Machine.{Machine}
use Rattle.c_machine.specs.declared.value.Value.{Value}
use Rattle.c_machine.specs.Worth.{worth}
use Rattle.core_tree.specs.States.{Output, plain, entered}
use Rattle.core_tree.specs.Callees.{body_call}
use Rattle.core_running.specs.Settings.{Setting, HasWorld}
use Rattle.core_running.specs.Running.{done, Low}

abbrev pub BodyCaller : Type 0 → Type 0 → Type 1
BodyCaller L F = Shared F
    (Global × (Bor L × (ℕ × (ℕ × (Bor (List Value) × (ℕ × (MutBor Machine × Unit {0})))))))
    (Result (Unit {0}) AllocError × (MutBor Machine × Unit {0}))

-- it runs the body of the function of a number, one level of depth below, with a machine on which a function begins;
-- where no level is left, the run leaves the bounds at the callee's name
pub record ReachesBody {L B : Type 0} (setting : L → Setting) (b : BodyCaller L B) (here : Bor L) (f : B) : Type 0 where
  pub callable : (alloc : Global) (function at : ℕ) (vs : Bor (List Value)) (base : ℕ) (m : MutBor Machine)
      → Low base ((setting here.now).measures.room function) → HasWorld (setting here.now) m.now
      → b.pre f (alloc, (here, (function, (at, (vs, (base, (m, tt)))))))
  pub runs : (alloc : Global) (function at : ℕ) (vs : Bor (List Value)) (base : ℕ) (m n : MutBor Machine)
      (r : Result (Unit {0}) AllocError)
      → b.post f (alloc, (here, (function, (at, (vs, (base, (m, tt))))))) (r, (n, tt))
      → (o : Output) → done m.now ≡ entered plain (done m.now).store o
      → IfOk r (λ _. body_call (setting here.now).call plain at function (map worth vs.now) base (done m.now).store o
      ≡ Some (done n.now))
  pub world : (alloc : Global) (function at : ℕ) (vs : Bor (List Value)) (base : ℕ) (m n : MutBor Machine)
      (r : Result (Unit {0}) AllocError)
      → b.post f (alloc, (here, (function, (at, (vs, (base, (m, tt))))))) (r, (n, tt))
      → n.now.world ≡ m.now.world
