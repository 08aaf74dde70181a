-- Positions of a log at which a run may stand, by where it stands between two steps.
use Rattle.std.specs.Prelude.{◌≡◌, ℕ, Bool, true, false, List}
use Rattle.c_means.specs.declared.kind.Kind.{Kind}
use Rattle.c_means.specs.declared.kind.Kind.TheVariants as k
use Rattle.core_tree.specs.States.{Done}
use Rattle.positions.specs.Sets.{has}
use Rattle.log_expr.specs.declared.flow.Flow.{Flow}

-- each position of the one set is in the other
abbrev pub Wider : List ℕ → List ℕ → Type 0
Wider xs ys = (y : ℕ) → has xs y ≡ true → has ys y ≡ true

-- where a run of this kind may stand
abbrev pub place : Flow → Kind → List ℕ
place s k.Running = s.running
place s k.Breaking = s.breaking
place s k.Continuing = s.continuing
place s k.Returning = s.returning
place s (k.Going label) = s.going
place s (k.Choosing z) = s.choosing
place s k.Defaulting = s.choosing
place s (k.Ended f) = s.ended

-- a run may stand where this one does
abbrev pub Holds : Flow → Done ℕ → Type 0
Holds s d = has (place s d.kind) d.out ≡ true

-- wherever a run may stand, it may once its kind was changed so
abbrev pub Arrives : (Kind → Kind) → Flow → Flow → Type 0
Arrives f s t = (kind : Kind) → Wider (place s kind) (place t (f kind))

abbrev pub unchanged : Kind → Kind
unchanged kind = kind

abbrev pub is_ended : Kind → Bool
is_ended (k.Ended f) = true
is_ended _ = false
