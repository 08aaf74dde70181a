-- What is known of the functions that run the parts of a node.
use Rattle.std.specs.Prelude.{◌≡◌, ◌+◌, ℕ, ℤ, List, map, Option, Some, Result, IfOk}
use Rattle.std.specs.declared.alloc.AllocError.{AllocError}
use Rattle.std.specs.declared.alloc.Global.{Global}
use denote.Ref.{Bor, MutBor}
use denote.Param.Members.{Shared}
use Rattle.c_machine.specs.declared.halt.Halt.{Halt}
use Rattle.c_machine.specs.declared.machine.Machine.{Machine}
use Rattle.c_machine.specs.declared.value.Value.{Value}
use Rattle.c_machine.specs.Worth.{worth}
use Rattle.core_tree.specs.declared.code.Code.{Code}
use Rattle.core_tree.specs.declared.expr.Callee.{Callee}
use Rattle.core_tree.specs.declared.expr.Expr.{Expr}
use Rattle.core_tree.specs.declared.types.ValueType.{ValueType}
use Rattle.core_tree.specs.States.{Output, Done, plain, entered}
use Rattle.core_tree.specs.Callees.{callee_room, called}
use Rattle.core_tree.specs.Values.{value}
use Rattle.core_tree.specs.Codes.{code}
use Rattle.core_running.specs.declared.found.Found.{Found}
use Rattle.core_running.specs.declared.frame.Frame.{Frame}
use Rattle.core_running.specs.Frames.{env_of}
use Rattle.core_running.specs.Settings.{Setting, level, HasWorld}
use Rattle.core_running.specs.Running.{done, Low, RunsTo}

-- how many places a part takes
abbrev pub value_room : Setting → Expr → ℕ
value_room s e = (value {O = Output} e).needs.room s.measures

abbrev pub code_room : Setting → Code → ℕ
code_room s c = (code {O = Output} c).needs.room s.measures

-- ---- expressions

abbrev pub Evaluator : Type 0 → Type 0 → Type 1
Evaluator L F = Shared F (Global × (Bor L × (Bor Frame × (Bor Expr × (ℕ × (MutBor Machine × Unit {0}))))))
    (Result Found Halt × (MutBor Machine × Unit {0}))

-- it evaluates expressions
pub record ReachesValue {L V : Type 0} (setting : L → Setting) (v : Evaluator L V) (here : Bor L) (f : V) : Type 0
  where
    pub callable : (alloc : Global) (frame : Bor Frame) (e : Bor Expr) (base : ℕ) (m : MutBor Machine)
        → Low base (value_room (setting here.now) e.now) → HasWorld (setting here.now) m.now
        → v.pre f (alloc, (here, (frame, (e, (base, (m, tt))))))
    pub runs : (alloc : Global) (frame : Bor Frame) (e : Bor Expr) (base : ℕ) (m n : MutBor Machine)
        (r : Result Found Halt) → v.post f (alloc, (here, (frame, (e, (base, (m, tt)))))) (r, (n, tt))
        → RunsTo (λ x. worth x.value) r (done n.now)
        ((value e.now).run (level (setting here.now)) (env_of frame.now) base (done m.now))
    pub next : (alloc : Global) (frame : Bor Frame) (e : Bor Expr) (base : ℕ) (m n : MutBor Machine)
        (r : Result Found Halt) → v.post f (alloc, (here, (frame, (e, (base, (m, tt)))))) (r, (n, tt))
        → IfOk r (λ x. x.next ≡ base + value_room (setting here.now) e.now)
    pub world : (alloc : Global) (frame : Bor Frame) (e : Bor Expr) (base : ℕ) (m n : MutBor Machine)
        (r : Result Found Halt) → v.post f (alloc, (here, (frame, (e, (base, (m, tt)))))) (r, (n, tt))
        → n.now.world ≡ m.now.world

-- ---- calls

abbrev pub Caller : Type 0 → Type 0 → Type 1
Caller L F = Shared F
    (Global × (Bor L × (Bor Callee × (ℕ × (ValueType × (Bor Frame × (Bor (List Value) × (ℕ × (MutBor Machine × Unit {0})))))))))
    (Result (Unit {0}) AllocError × (MutBor Machine × Unit {0}))

-- it does what a callee does, with a machine on which a function begins
pub record ReachesCall {L K : Type 0} (setting : L → Setting) (k : Caller L K) (here : Bor L) (f : K) : Type 0 where
  pub callable : (alloc : Global) (c : Bor Callee) (at : ℕ) (t : ValueType) (frame : Bor Frame) (vs : Bor (List Value))
      (base : ℕ) (m : MutBor Machine)
      → Low base (callee_room c.now (setting here.now).measures) → HasWorld (setting here.now) m.now
      → k.pre f (alloc, (here, (c, (at, (t, (frame, (vs, (base, (m, tt)))))))))
  pub runs : (alloc : Global) (c : Bor Callee) (at : ℕ) (t : ValueType) (frame : Bor Frame) (vs : Bor (List Value))
      (base : ℕ) (m n : MutBor Machine) (r : Result (Unit {0}) AllocError)
      → k.post f (alloc, (here, (c, (at, (t, (frame, (vs, (base, (m, tt))))))))) (r, (n, tt))
      → (o : Output) → done m.now ≡ entered plain (done m.now).store o
      → IfOk r (λ _. called (level (setting here.now)) c.now at t (env_of frame.now) (map worth vs.now) base
      (done m.now).store o ≡ Some (done n.now))
  pub world : (alloc : Global) (c : Bor Callee) (at : ℕ) (t : ValueType) (frame : Bor Frame) (vs : Bor (List Value))
      (base : ℕ) (m n : MutBor Machine) (r : Result (Unit {0}) AllocError)
      → k.post f (alloc, (here, (c, (at, (t, (frame, (vs, (base, (m, tt))))))))) (r, (n, tt))
      → n.now.world ≡ m.now.world

-- ---- code

abbrev pub Executor : Type 0 → Type 0 → Type 1
Executor L F = Shared F (Global × (Bor L × (MutBor Frame × (Bor Code × (ℕ × (MutBor Machine × Unit {0}))))))
    (Result ℕ AllocError × (MutBor Frame × (MutBor Machine × Unit {0})))

-- it runs code: wherever the run stands it does what the code does, leaves the objects in force as they were, and
-- answers the first place behind the code's own
pub record ReachesCode {L X : Type 0} (setting : L → Setting) (x : Executor L X) (here : Bor L) (f : X) : Type 0
  where
    pub callable : (alloc : Global) (frame : MutBor Frame) (c : Bor Code) (base : ℕ) (m : MutBor Machine)
        → Low base (code_room (setting here.now) c.now) → HasWorld (setting here.now) m.now
        → x.pre f (alloc, (here, (frame, (c, (base, (m, tt))))))
    pub runs : (alloc : Global) (frame g : MutBor Frame) (c : Bor Code) (base : ℕ) (m n : MutBor Machine)
        (r : Result ℕ AllocError) → x.post f (alloc, (here, (frame, (c, (base, (m, tt)))))) (r, (g, (n, tt)))
        → IfOk r (λ _. (code c.now).run (level (setting here.now)) (env_of frame.now) base (done m.now) ≡ Some (done n.now))
    pub next : (alloc : Global) (frame g : MutBor Frame) (c : Bor Code) (base : ℕ) (m n : MutBor Machine)
        (r : Result ℕ AllocError) → x.post f (alloc, (here, (frame, (c, (base, (m, tt)))))) (r, (g, (n, tt)))
        → IfOk r (λ p. p ≡ base + code_room (setting here.now) c.now)
    pub env : (alloc : Global) (frame g : MutBor Frame) (c : Bor Code) (base : ℕ) (m n : MutBor Machine)
        (r : Result ℕ AllocError) → x.post f (alloc, (here, (frame, (c, (base, (m, tt)))))) (r, (g, (n, tt)))
        → IfOk r (λ _. env_of g.now ≡ env_of frame.now)
    pub world : (alloc : Global) (frame g : MutBor Frame) (c : Bor Code) (base : ℕ) (m n : MutBor Machine)
        (r : Result ℕ AllocError) → x.post f (alloc, (here, (frame, (c, (base, (m, tt)))))) (r, (g, (n, tt)))
        → n.now.world ≡ m.now.world
