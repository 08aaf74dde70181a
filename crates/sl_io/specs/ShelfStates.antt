-- What can be said of a shelf at one moment.
use Rattle.std.specs.Prelude.{◌≡◌, ◌≤◌, ℕ, List, Option, Some}

-- what is held under each name, None where there is no such file
abbrev pub Files : Type 0
Files = List ℕ → Option (List ℕ)

pub record ShelfState : Type 0 where
  -- None: the shelf doesn't tell its files
  pub files : Option Files
  -- how many bytes were taken by gets
  pub taken : ℕ
  -- how many gets failed, by name
  pub get_faults : List ℕ → ℕ
  -- how many puts failed, by name
  pub put_faults : List ℕ → ℕ
  -- how many gets met a file that was longer than asked for, by name and limit
  pub long_reads : List ℕ → ℕ → ℕ

-- no count falls
pub record CountsOn (old new : ShelfState) : Type 0 where
  pub taken : old.taken ≤ new.taken
  pub get_faults : (name : List ℕ) → old.get_faults name ≤ new.get_faults name
  pub put_faults : (name : List ℕ) → old.put_faults name ≤ new.put_faults name
  pub long_reads : (name : List ℕ) (limit : ℕ) → old.long_reads name limit ≤ new.long_reads name limit

-- where files are told: this name holds these bytes
abbrev pub Holds : Option Files → List ℕ → List ℕ → Type 0
Holds files name bytes = (told : Files) → files ≡ Some told → told name ≡ Some bytes
