-- What is known of the function that tells how many places an expression takes.
use Rattle.std.specs.Prelude.{◌≡◌, ◌-◌, ◌^◌, ℕ, min}
use denote.Ref.{Bor}
use denote.Param.Members.{Shared}
use Rattle.core_tree.specs.declared.expr.Expr.{Expr}
use Rattle.core_running.specs.Below.{value_room}
use Rattle.core_running.specs.Settings.{Setting}

-- or the greatest number of 64 bits where it is greater
abbrev pub capped : ℕ → ℕ
capped n = min n (2 ^ 64 - 1)

abbrev pub Measurer : Type 0 → Type 0 → Type 1
Measurer L F = Shared F (Bor L × (Bor Expr × Unit {0})) ℕ

-- it tells how many places an expression takes
pub record ReachesRoom {L R : Type 0} (setting : L → Setting) (r : Measurer L R) (here : Bor L) (f : R) : Type 0 where
  pub callable : (e : Bor Expr) → r.pre f (here, (e, tt))
  pub measures : (e : Bor Expr) (n : ℕ) → r.post f (here, (e, tt)) n
      → n ≡ capped (value_room (setting here.now) e.now)
