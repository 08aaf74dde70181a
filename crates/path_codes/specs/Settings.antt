-- Values stored in objects that are there.
use Rattle.std.specs.Prelude.{◌≡◌, ℕ, ◌+◌, ◌≤◌, ◌^◌, ℤ, Bool, List, [], ◌∷◌, Some}
use Rattle.plain_data.specs.declared.width.Width.TheVariants.{W64}
use Rattle.plain_data.specs.Words.{word}
use Rattle.c_store.specs.Store.{start, lay, zero_range}
use Rattle.core_tree.specs.declared.code.Setting.{Setting}
use Rattle.core_tree.specs.declared.types.ValueType.{ValueType}
use Rattle.core_tree.specs.Numbers.{size_of}
use Rattle.core_tree.specs.Memory.{stored}
use Rattle.core_tree.specs.States.{Arrow, running, with_store}
use Rattle.core_tree.specs.Codes.{sets, sets_all, zeroed_if}
use Rattle.term_bank.specs.declared.sort.Sort.TheVariants.{Memory}
use Rattle.term_bank.specs.declared.sort.Node.{Node}
use Rattle.term_bank.specs.declared.shape.Shape.{Shape}
use Rattle.term_bank.specs.Banks.{IsBank}
use Rattle.term_bank.specs.Memories as wrapping
use Rattle.term_bank.specs.Terms.{IsTerm}
use Rattle.term_bank.specs.Values.{Environment, Values, Models, Grows}
use Rattle.path_states.specs.declared.state.State.{State}
use Rattle.path_states.specs.States.{AreStates}
use Rattle.path_states.specs.Ways.{Way, Steps, Goes}
use Rattle.path_steps.specs.Memories.{IsScalar}
use Rattle.path_steps.specs.Operands.{top}
use Rattle.path_arrows.specs.Arrows.{bare, by_arrow}
use Rattle.path_forms.specs.declared.frame.Placed.{Placed}
use Rattle.path_forms.specs.Around.{Around, level_at, env_at}
use Rattle.path_rooms.specs.Rooms.{setting_room, settings_room}
use Rattle.path_codes.specs.declared.below.Coded.{Coded}
use Rattle.path_codes.specs.Courses.{on_top, Toward}
use Rattle.path_codes.specs.Walks.{WalksTo}
use Rattle.path_forms.specs.Calling.{Stays}

-- a scalar, so many bytes behind the start of an object, ends within 2^32 bytes of it
pub record Storable (t : ValueType) (bytes : ℕ) : Type 0 where
  pub scalar : IsScalar t
  pub near : bytes + size_of t ≤ 2 ^ 32

-- the value on top is stored in the object of a place behind the base
abbrev pub stores : ℕ → ℕ → ValueType → Environment → ℤ → Arrow ℕ
stores object bytes t e z d = Some (stored t (start (e.base + object) + bytes) z d)

pub record Stores (room object bytes : ℕ) (t : ValueType) (a b : List Shape) (ss ts : List State) : Type 0 where
  pub grows : Grows a b
  pub states : AreStates b ts
  pub goes : Goes room a b ss ts (on_top (stores object bytes t))

-- ---- settings of the object of a place behind the base, by runs that are running

abbrev pub set_arrow : Around → List Placed → ℕ → Setting → ℕ → Environment → Arrow ℕ
set_arrow x frame object s place e =
    running (sets s (start (e.base + object)) (level_at x e) (env_at frame e) (e.base + place))

abbrev pub settings_arrow : Around → List Placed → ℕ → List Setting → ℕ → Environment → Arrow ℕ
settings_arrow x frame object all place e =
    running (sets_all all (start (e.base + object)) (level_at x e) (env_at frame e) (e.base + place))

abbrev pub WalksSet : Around → List Placed → ℕ → ℕ → Setting → List Shape → List Shape → List State → ℕ → Coded → Type 0
WalksSet x frame room object s a b ss place y =
    WalksTo room (set_arrow x frame object s place) (setting_room x.measures s) a b ss place y

abbrev pub WalksSettings :
    Around → List Placed → ℕ → ℕ → List Setting → List Shape → List Shape → List State → ℕ → Coded → Type 0
WalksSettings x frame room object all a b ss place y =
    WalksTo room (settings_arrow x frame object all place) (settings_room x.measures all) a b ss place y

-- of these settings those are left that stand behind
pub record SettingsOn (x : Around) (frame : List Placed) (room object : ℕ) (start : List Shape → Type 0) (all rest : List Setting)
    (a b : List Shape) (ss ts : List State) (place next : ℕ) : Type 0 where
  pub begun : Stays start b
  pub states : AreStates b ts
  pub rooms : next + settings_room x.measures rest ≡ place + settings_room x.measures all
  pub toward : Toward room a b ss ts (settings_arrow x frame object rest next) (settings_arrow x frame object all place)

-- ---- bytes that are laid

-- a byte written so many bytes behind the address that a node is
pub record WritesByte (a b : List Shape) (m from n : Node) (at byte : ℕ) : Type 0 where
  pub grows : Grows a b
  pub bank : IsBank b
  pub term : IsTerm b Memory n
  pub is : (e : Environment) (v : Values) → Models b e v
      → (v n.index).store ≡ wrapping.write 1 (wrapping.behind (v from.index).word at) byte (v m.index).store

-- other bytes from there on, each by its distance
pub record Lays (a b : List Shape) (m from n : Node) (size : ℕ) (f : ℕ → ℕ) : Type 0 where
  pub grows : Grows a b
  pub term : IsTerm b Memory n
  pub is : (e : Environment) (v : Values) → Models b e v
      → (v n.index).store ≡ wrapping.lay (v from.index).word size f (v m.index).store

-- from the address on top on
abbrev pub laying : ℕ → (ℕ → ℕ) → Way
laying size f e v h = Some (bare (with_store (wrapping.lay (word W64 (top h.operands)) size f h.done.store) h.done))

pub record LaysOne (a b : List Shape) (size : ℕ) (f : ℕ → ℕ) (s t : State) : Type 0 where
  pub steps : (room : ℕ) → Steps room a b s (t ∷ []) (laying size f)

pub record LaysAll (a b : List Shape) (size : ℕ) (f : ℕ → ℕ) (ss ts : List State) : Type 0 where
  pub grows : Grows a b
  pub states : AreStates b ts
  pub goes : (room : ℕ) → Goes room a b ss ts (laying size f)

-- in the object of a place behind the base, so many bytes behind its start
abbrev pub lays : ℕ → ℕ → ℕ → (ℕ → ℕ) → Environment → Arrow ℕ
lays object bytes size f e d = Some (with_store (lay (start (e.base + object) + bytes) size f d.store) d)

pub record LaysAt (room object bytes size : ℕ) (f : ℕ → ℕ) (a b : List Shape) (ss ts : List State) : Type 0 where
  pub grows : Grows a b
  pub states : AreStates b ts
  pub goes : Goes room a b ss ts (by_arrow (lays object bytes size f))

-- ---- objects set to 0

pub record Zeroes (room object size : ℕ) (a b : List Shape) (ss ts : List State) : Type 0 where
  pub grows : Grows a b
  pub states : AreStates b ts
  pub goes : Goes room a b ss ts (by_arrow (λ e d. Some (with_store (zero_range (start (e.base + object)) size d.store) d)))

-- by runs that are running, where an initializer asks for it
abbrev pub zeroed_arrow : Bool → ℕ → ℕ → Environment → Arrow ℕ
zeroed_arrow is_zeroed object size e = running (λ d. Some (zeroed_if is_zeroed (start (e.base + object)) size d))

pub record ZeroesIf (room : ℕ) (is_zeroed : Bool) (object size : ℕ) (a b : List Shape) (ss ts : List State) : Type 0 where
  pub grows : Grows a b
  pub states : AreStates b ts
  pub goes : Goes room a b ss ts (by_arrow (zeroed_arrow is_zeroed object size))
