-- What a get says.
use Rattle.std.specs.Prelude.{◌≡◌, ◌≤◌, ◌<◌, ◌+◌, ◌⊎◌, ℕ, List, Some, None, Result, Err, length, IfOk}
use Rattle.sl_io.specs.Counts.{Rose, RoseBy}
use Rattle.sl_io.specs.ShelfStates.{Files, ShelfState, CountsOn, Holds}
use Rattle.sl_io.specs.declared.faults.GetFault.{GetFault}
use Rattle.sl_io.specs.declared.faults.GetFault.TheVariants.{Failed, TooLong, Memory}

-- this name holds a file of more than `limit` bytes
abbrev pub HoldsMore : Files → List ℕ → ℕ → Type 0
HoldsMore files name limit = (bytes : List ℕ) × (files name ≡ Some bytes) × (limit < length bytes)

-- what the answers tell where files are told
pub record GetsTold (files : Files) (old new : ShelfState) (name : List ℕ) (limit : ℕ) (result : Result (List ℕ) GetFault) : Type 0 where
  -- a name that isn't held is a fault
  pub missing : files name ≡ None → (result ≡ Err Failed) ⊎ (result ≡ Err Memory)
  -- TooLong comes for a longer file alone, where the count of faults at it didn't rise,
  pub long : result ≡ Err TooLong → HoldsMore files name limit × (new.get_faults name ≡ old.get_faults name)
  -- and always for such a file, but for a fault or want of memory
  pub longer : HoldsMore files name limit → (result ≡ Err TooLong) ⊎ ((result ≡ Err Memory) ⊎ Rose (old.get_faults name) (new.get_faults name))

pub record Gets (old new : ShelfState) (name : List ℕ) (limit : ℕ) (result : Result (List ℕ) GetFault) : Type 0 where
  pub counts : CountsOn old new
  -- it changes no file
  pub files : new.files ≡ old.files
  -- the answer is within the limit, all of it was taken, and it is the file's bytes where files are told
  pub within : IfOk result (λ bytes. length bytes ≤ limit)
  pub taken : IfOk result (λ bytes. RoseBy (length bytes) old.taken new.taken)
  pub held : IfOk result (λ bytes. Holds old.files name bytes)
  -- a failed get is counted at its name
  pub failed : result ≡ Err Failed → Rose (old.get_faults name) (new.get_faults name)
  -- TooLong: more than `limit` bytes were taken, and a long read is counted
  pub long : result ≡ Err TooLong → RoseBy (limit + 1) old.taken new.taken × Rose (old.long_reads name limit) (new.long_reads name limit)
  pub told : (files : Files) → old.files ≡ Some files → GetsTold files old new name limit result
