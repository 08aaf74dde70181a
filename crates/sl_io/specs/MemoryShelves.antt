-- What a shelf in memory holds, answers and counts.
use Rattle.std.specs.Prelude.{◌≡◌, ◌≢◌, ◌≤◌, ◌+◌, ◌⊎◌, if◌then◌else◌, ℕ, List, Option, Some, None, Result, Ok, Err, length, nat_le}
use Rattle.std.specs.BTreeMap.{get_by_text}
use Rattle.sl_io.specs.Counts.{capped_sum}
use Rattle.sl_io.specs.ShelfStates.{Files, ShelfState}
use Rattle.sl_io.specs.declared.faults.GetFault.{GetFault}
use Rattle.sl_io.specs.declared.faults.GetFault.TheVariants.{Failed, TooLong, Memory}
use Rattle.sl_io.specs.declared.faults.PutFault.{PutFault}
use Rattle.sl_io.specs.declared.faults.PutFault.TheVariants as put
use Rattle.sl_io.specs.declared.mem_shelf.MemShelf.{MemShelf}
use Rattle.sl_io.specs.declared.mem_shelf.ShelfCounts.{ShelfCounts}

-- the bytes under each name
abbrev pub held : MemShelf → Files
held shelf name = get_by_text shelf.files name

-- what it counted
abbrev pub counted : MemShelf → ShelfCounts
counted shelf = shelf.counts

-- the files are told, and one number of each kind stands for all names
abbrev pub told_state : Files → ShelfCounts → ShelfState
told_state files counts = record {
  files = Some files;
  taken = counts.taken;
  get_faults = λ _. counts.get_faults;
  put_faults = λ _. counts.put_faults;
  long_reads = λ _ _. counts.long_reads;
}

abbrev pub shelf_state : MemShelf → ShelfState
shelf_state shelf = told_state (held shelf) (counted shelf)

abbrev pub no_counts : ShelfCounts
no_counts = record { taken = 0; get_faults = 0; put_faults = 0; long_reads = 0 }

-- no count falls
pub record Later (old new : ShelfCounts) : Type 0 where
  pub taken : old.taken ≤ new.taken
  pub get_faults : old.get_faults ≤ new.get_faults
  pub put_faults : old.put_faults ≤ new.put_faults
  pub long_reads : old.long_reads ≤ new.long_reads

-- the counts after a get with this limit and this answer
abbrev pub got_count : ShelfCounts → ℕ → Result (List ℕ) GetFault → ShelfCounts
got_count counts limit (Ok bytes) = record counts { taken = capped_sum counts.taken (length bytes) }
got_count counts limit (Err Failed) = record counts { get_faults = capped_sum counts.get_faults 1 }
got_count counts limit (Err TooLong) = record counts { taken = capped_sum counts.taken (limit + 1); long_reads = capped_sum counts.long_reads 1 }
got_count counts limit (Err Memory) = counts

-- the counts after a put with this answer
abbrev pub put_count : ShelfCounts → Result (Unit {0}) PutFault → ShelfCounts
put_count counts (Ok done) = counts
put_count counts (Err put.Failed) = record counts { put_faults = capped_sum counts.put_faults 1 }
put_count counts (Err put.Memory) = counts

-- the answer to a get, where there is memory for it
abbrev pub answer_of : Option (List ℕ) → ℕ → Result (List ℕ) GetFault
answer_of None limit = Err Failed
answer_of (Some bytes) limit = if nat_le (length bytes) limit then Ok bytes else Err TooLong

-- a get's answer on this file: want of memory comes only where the file would fit
abbrev pub IsAnswer : Option (List ℕ) → ℕ → Result (List ℕ) GetFault → Type 0
IsAnswer file limit result = (result ≡ answer_of file limit)
    ⊎ ((result ≡ Err Memory) × (bytes : List ℕ) × (answer_of file limit ≡ Ok bytes))

-- this name now holds these bytes, and every other name what it held
pub record ChangesOnly (old new : MemShelf) (name bytes : List ℕ) : Type 0 where
  pub changed : held new name ≡ Some bytes
  pub others : (other : List ℕ) → other ≢ name → held new other ≡ held old other
