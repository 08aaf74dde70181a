-- The store that a memory is, over the initial bytes of a world.
use Rattle.std.specs.Prelude.{◌≡◌, ◌<◌, ◌+◌, ◌-◌, ℕ, List, length, cond, Option, Some, None, unwrap_or, slice_get, slice_index}
use Rattle.std.specs.BTreeMap.{BTreeMap, get}
use Rattle.std.specs.Ordering.{nat_cmp}
use Rattle.plain_data.specs.Worlds.{WorldTables, value_at}
use Rattle.c_store.specs.declared.object.Object.{Object}
use Rattle.c_store.specs.Store.{Store, object_of, offset_of, within}
use Rattle.c_memory.specs.declared.cell.Cell.{Cell}

-- the byte that a world has at an address
abbrev pub initial_bytes : WorldTables → ℕ → ℕ
initial_bytes world a = value_at world.bytes a

-- what an object has at an address of its own: what was laid there, or the world's byte
abbrev pub byte_in : (ℕ → ℕ) → Cell → ℕ → ℕ
byte_in world c a = unwrap_or (slice_get c.bytes (offset_of a)) (world a)

-- The later object has these bytes at n addresses from a on, by their distances from a, and its others as before.
pub record Lays (world : ℕ → ℕ) (c d : Cell) (a n : ℕ) (f : ℕ → ℕ) : Type 0 where
  pub object : d.object ≡ c.object
  pub bytes : (b : ℕ) → object_of b ≡ object_of a →
      byte_in world d b ≡ cond (within a n b) (f (b - a)) (byte_in world c b)

-- these are the n bytes that a function has from a on
pub record Holds (f : ℕ → ℕ) (a n : ℕ) (bytes : List ℕ) : Type 0 where
  pub count : length bytes ≡ n
  pub each : (i : ℕ) → i < n → slice_index bytes i ≡ f (a + i)
  pub small : (i : ℕ) → slice_index bytes i < 256

abbrev pub Cells : Type 0
Cells = BTreeMap ℕ Cell

abbrev pub byte_at : (ℕ → ℕ) → Option Cell → ℕ → ℕ
byte_at world None a = world a
byte_at world (Some c) a = byte_in world c a

abbrev pub object_at : Option Cell → Option Object
object_at None = None
object_at (Some c) = c.object

-- where no byte was laid, it is the world's
abbrev pub store_of : (ℕ → ℕ) → Cells → Store
store_of world cells = record {
  bytes = λ a. byte_at world (get nat_cmp cells (object_of a)) a;
  objects = λ p. object_at (get nat_cmp cells p);
}
