-- A statement of at most a height, by the height below.
use Rattle.std.proofs.Common.{◌≡◌, ℕ, suc, None, refl}
use Rattle.c_grammar.specs.Parts.{State}
use Rattle.c_grammar.specs.Reading.{rules}
use Rattle.c_grammar.specs.UnitReading.{stmt_at, stmt_by, initializer_at}

pub at_zero : (height rank : ℕ) (s : State) → height ≡ 0 → stmt_at height rank s ≡ None
unfolding stmt_at
at_zero height rank s e = rw e refl

pub above : (m height rank : ℕ) (s : State) → height ≡ suc m
    → stmt_at height rank s ≡ stmt_by (stmt_at m) (rules m) (initializer_at m) rank s
unfolding stmt_at
above m height rank s e = rw e refl
