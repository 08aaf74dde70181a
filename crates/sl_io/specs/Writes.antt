-- What a write says.
use Rattle.std.specs.Prelude.{◌≡◌, ◌≤◌, ◌++◌, ℕ, List, Option, Some, None, Result, OnOk, OnErr, ◌⊎◌}
use Rattle.sl_io.specs.Counts.{Rose}
use Rattle.sl_io.specs.SinkStates.{SinkState}

-- where bytes are told: they stay told, and the piece came behind them
abbrev pub Appended : Option (List ℕ) → Option (List ℕ) → List ℕ → Type 0
Appended old new piece = (before : List ℕ) → old ≡ Some before → new ≡ Some (before ++ piece)

-- where bytes are told: they stay told, and a prefix of the piece came behind them
abbrev pub AppendedPrefix : Option (List ℕ) → Option (List ℕ) → List ℕ → Type 0
AppendedPrefix old new piece = (before : List ℕ) → old ≡ Some before
    → (front rest : List ℕ) × (front ++ rest ≡ piece) × (new ≡ Some (before ++ front))

pub record Writes {T E : Type 0} (old new : SinkState) (piece : List ℕ) (result : Result T E) : Type 0 where
  -- the count doesn't fall
  pub later : old.faults ≤ new.faults
  pub untold : old.bytes ≡ None → new.bytes ≡ None
  pub appended : OnOk result (Appended old.bytes new.bytes piece)
  -- a failed write is counted, and a prefix of the piece was written
  pub failed : OnErr result (Rose old.faults new.faults)
  pub front : OnErr result (AppendedPrefix old.bytes new.bytes piece)

-- the piece was written, or a prefix of it where the count of faults rose
pub record Told (old new : SinkState) (piece : List ℕ) : Type 0 where
  pub later : old.faults ≤ new.faults
  pub untold : old.bytes ≡ None → new.bytes ≡ None
  pub written : Appended old.bytes new.bytes piece ⊎ (Rose old.faults new.faults × AppendedPrefix old.bytes new.bytes piece)
