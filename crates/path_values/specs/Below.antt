-- What is known of the function that walks the parts of an expression.
use Rattle.std.specs.Prelude.{◌≡◌, ℕ, List, Result, IfOk, OnOk}
use Rattle.std.specs.declared.alloc.Global.{Global}
use denote.Ref.{Bor, MutBor}
use denote.Param.Members.{Shared}
use Rattle.core_tree.specs.declared.expr.Expr.{Expr}
use Rattle.term_bank.specs.declared.shape.Shape.{Shape}
use Rattle.path_states.specs.declared.state.Walked.{Walked}
use Rattle.path_forms.specs.declared.fault.WalkFault.{WalkFault}
use Rattle.path_forms.specs.declared.frame.Placed.{Placed}
use Rattle.path_forms.specs.declared.sides.Waiting.{Waiting}
use Rattle.path_forms.specs.Around.{Around}
use Rattle.path_values.specs.declared.below.Below.{Below}
use Rattle.path_values.specs.Evaluations.{StartsIn, EvaluatedIn}

-- the bank, the states, and the sides that wait
abbrev pub Changed : Type 0
Changed = MutBor (List Shape) × (MutBor Walked × (MutBor (List Waiting) × Unit {0}))

-- what the function is handed: the height, and what its expression is walked in
abbrev pub Handed : Type 0 → Type 0
Handed C = Global × (Bor C × (ℕ × (Bor (List Placed) × (ℕ × (Bor Expr × (ℕ × Changed))))))

abbrev pub Walker : Type 0 → Type 0 → Type 1
Walker C V = Shared V (Handed C) (Result ℕ WalkFault × Changed)

-- it walks expressions of the height that is handed on
pub record ReachesValue {C V : Type 0} (around : C → Around) (ready : C → List Shape → Type 0) (v : Walker C V) (s : Below C V)
    : Type 0 where
  pub callable : (alloc : Global) (e : Bor Expr) (place : ℕ) (b : MutBor (List Shape)) (w : MutBor Walked)
      (waits : MutBor (List Waiting)) → StartsIn ready s b.now w.now
      → v.pre s.value (alloc, (s.scene, (s.height, (s.frame, (s.room, (e, (place, (b, (w, (waits, tt))))))))))
  pub evaluated : (alloc : Global) (e : Bor Expr) (place : ℕ) (b c : MutBor (List Shape)) (w u : MutBor Walked)
      (before now : MutBor (List Waiting)) (r : Result ℕ WalkFault)
      → v.post s.value (alloc, (s.scene, (s.height, (s.frame, (s.room, (e, (place, (b, (w, (before, tt))))))))))
      (r, (c, (u, (now, tt))))
      → IfOk r (λ n. EvaluatedIn around ready s e.now b.now c.now w.now u.now place n)
  pub same : (alloc : Global) (e : Bor Expr) (place : ℕ) (b c : MutBor (List Shape)) (w u : MutBor Walked)
      (before now : MutBor (List Waiting)) (r : Result ℕ WalkFault)
      → v.post s.value (alloc, (s.scene, (s.height, (s.frame, (s.room, (e, (place, (b, (w, (before, tt))))))))))
      (r, (c, (u, (now, tt))))
      → OnOk r (now.now ≡ before.now)
