-- What the outside gives to a run: words by place, and initial bytes by address.
use Rattle.std.specs.Prelude.{◌≡◌, ◌≢◌, ℕ, List, Bool, not, ◌==◌, unwrap_or}
use Rattle.std.specs.List.{list_all}
use Rattle.std.specs.Map.{lookup}
use Rattle.std.specs.Ordering.{nat_cmp}
use Rattle.std.specs.BTreeMap.{is_at}

-- keys with what stands at them, by ascending key
abbrev pub Table : Type 0
Table = List (ℕ × ℕ)

-- what stands at a key: 0 where the table has nothing
abbrev pub value_at : Table → ℕ → ℕ
value_at table key = unwrap_or (lookup (is_at (nat_cmp key)) table) 0

-- no entry stands for what is 0 anyway
abbrev pub has_no_zero : Table → Bool
has_no_zero table = list_all (λ e. not (e.1 == 0)) table

-- the words and the initial bytes that aren't 0
pub record WorldTables : Type 0 where
  pub words : Table
  pub bytes : Table

-- one entry is set, and each other is as it was
pub record Sets (old new : Table) (key value : ℕ) : Type 0 where
  pub here : value_at new key ≡ value
  pub others : (other : ℕ) → other ≢ key → value_at new other ≡ value_at old other
