-- What an answer says of code that was run: the first place behind its own, and what it did.
use Rattle.std.specs.Prelude.{◌≡◌, ◌+◌, ℕ, Bool, Option, Some, None, Result, Ok, Err, IfOk}
use Rattle.std.specs.declared.alloc.AllocError.{AllocError}
use Rattle.c_means.specs.Parts.{Env}
use Rattle.core_tree.specs.States.{Output, Done, Arrow}
use Rattle.core_tree.specs.Codes.{Item}
use Rattle.core_running.specs.Settings.{Setting, level}
use Rattle.code_steps.specs.Rooms.{room_in}

abbrev pub TakesAs : Result ℕ AllocError → Item Output → Setting → ℕ → Type 0
TakesAs r x s base = IfOk r (λ next. next ≡ base + room_in s x)

abbrev pub ActsAs : {A : Type 0} → Result A AllocError → Item Output → Setting → Env → ℕ → Done Output → Done Output → Type 0
ActsAs r x s env base d e = IfOk r (λ _. x.run (level s) env base d ≡ Some e)

-- the side that a test took, or that the run ended there
abbrev pub Sides : Result (Option Bool) AllocError → ((Bool → Arrow Output) → Option (Done Output)) → Done Output → Type 0
Sides (Ok (Some side)) tested d = (go : Bool → Arrow Output) → tested go ≡ go side d
Sides (Ok None) tested d = (go : Bool → Arrow Output) → tested go ≡ Some d
Sides (Err e) tested d = Unit {0}
