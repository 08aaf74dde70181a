-- What a put says.
use Rattle.std.specs.Prelude.{◌≡◌, ◌≢◌, ℕ, List, Option, Some, None, Result, Err, OnOk}
use Rattle.sl_io.specs.Counts.{Rose}
use Rattle.sl_io.specs.ShelfStates.{Files, ShelfState, CountsOn, Holds}
use Rattle.sl_io.specs.declared.faults.PutFault.{PutFault}
use Rattle.sl_io.specs.declared.faults.PutFault.TheVariants.{Failed, Memory}

-- where files are told: they stay told, and every other name holds what it held
abbrev pub KeepsOthers : Option Files → Option Files → List ℕ → Type 0
KeepsOthers old new name = (files : Files) → old ≡ Some files
    → (after : Files) × (new ≡ Some after) × ((other : List ℕ) → other ≢ name → after other ≡ files other)

pub record Puts {T : Type 0} (old new : ShelfState) (name bytes : List ℕ) (result : Result T PutFault) : Type 0 where
  pub counts : CountsOn old new
  pub untold : old.files ≡ None → new.files ≡ None
  pub others : KeepsOthers old.files new.files name
  -- the file holds exactly the bytes
  pub stored : OnOk result (Holds new.files name bytes)
  -- a failed put is counted at its name
  pub failed : result ≡ Err Failed → Rose (old.put_faults name) (new.put_faults name)
  -- after want of memory no file has changed
  pub unchanged : result ≡ Err Memory → new.files ≡ old.files
