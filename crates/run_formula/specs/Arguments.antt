-- What `main` is given (C99 5.1.2.2.1): the count of its arguments, the array of pointers to them, and their strings.
use Rattle.std.specs.Prelude.{◌≡◌, ℕ, zero, suc, ◌+◌, ◌*◌, ◌%◌, ◌<◌, ◌^◌, ℤ, Bool, true, false, cond, nat_lt, List, [], ◌∷◌, map}
use Rattle.plain_data.specs.declared.width.Width.TheVariants.{W64}
use Rattle.c_store.specs.declared.object.ObjectKind.TheVariants.{Outside}
use Rattle.c_store.specs.Store.{Store, start, make, write, zero_range}
use Rattle.c_means.specs.Parts.{World, Limits}
use Rattle.core_tree.specs.declared.types.ValueType.{ValueType}
use Rattle.core_tree.specs.declared.types.ValueType.TheVariants as vt
use Rattle.core_tree.specs.Numbers.{int}
use Rattle.core_tree.specs.Programs.{argument_count}
use Rattle.term_bank.specs.declared.binding.Binding.{Binding}
use Rattle.term_bank.specs.declared.sort.Sort.TheVariants.{Memory, Word}
use Rattle.term_bank.specs.declared.sort.Node.{Node}
use Rattle.term_bank.specs.declared.shape.Shape.{Shape}
use Rattle.term_bank.specs.Banks.{IsBank}
use Rattle.term_bank.specs.Bindings.{IsBinding}
use Rattle.term_bank.specs.Terms.{IsTerm}
use Rattle.term_bank.specs.Values.{Environment, Values, Models, Grows}
use Rattle.path_states.specs.States.{IsSized}
use Rattle.summary_compose.specs.Summaries.{world_in}
use Rattle.run_formula.specs.declared.arguments.Furnished.{Furnished}

-- ---- the store that the entry of `main` finds

abbrev pub outside_in : ℕ → ℕ → Store → Store
outside_in place n s = make place (record { kind = Outside; size = n }) s

-- a string of the world's bytes, which ends with 0
abbrev pub string_in : ℕ → ℕ → Store → Store
string_in outside place s = zero_range (start place + outside) 1 (outside_in place (suc outside) s)

abbrev pub strings_in : ℕ → ℕ → ℕ → Store → Store
strings_in outside place zero s = s
strings_in outside place (suc n) s = strings_in outside (suc place) n (string_in outside place s)

-- so many pointers from an address on, to the objects of places from one on
abbrev pub pointers_in : ℕ → ℕ → ℕ → Store → Store
pointers_in a place zero s = s
pointers_in a place (suc n) s = pointers_in (a + 8) (suc place) n (write 8 a (start place) s)

-- the pointer of an index is chosen: to the object of its place where it is one of the count, else null
abbrev pub points_at : ℕ → ℕ → ℕ → ℕ → Store → Store
points_at a place k count s = write 8 (a + 8 * k) (cond (nat_lt k count) (start (place + k)) 0) s

abbrev pub chosen_in : ℕ → ℕ → ℕ → ℕ → Store → Store
chosen_in a place zero count s = s
chosen_in a place (suc k) count s = points_at a place k count (chosen_in a place k count s)

abbrev pub array_in : ℕ → ℕ → ℕ → Store → Store
array_in most outside p s =
    zero_range (start (suc p)) (8 * suc most)
    (outside_in (suc p) (8 * suc most) (strings_in outside (suc (suc p)) most s))

abbrev pub arguments_in : ℕ → ℕ → ℕ → ℕ → Store → Store
arguments_in most outside p count s = pointers_in (start (suc p)) (suc (suc p)) count (array_in most outside p s)

abbrev pub given_in : Bool → World → Limits → ℕ → Store → Store
given_in true w l p s = arguments_in l.arguments l.outside p (argument_count w l p) s
given_in false w l p s = s

-- ---- as terms

abbrev pub count_in : ℕ → Environment → ℕ → ℕ
count_in most e p = suc ((e.words p % 2 ^ 64) % most)

-- how many arguments there are, by the world's word at a place
pub record Counts (a b : List Shape) (n : Node) (place most : ℕ) : Type 0 where
  pub grows : Grows a b
  pub term : IsTerm b (Word W64) n
  pub is : (e : Environment) (v : Values) → Models b e v → (v n.index).word ≡ count_in most e place

-- an address where an index is below the word of a node, else null
pub record Chooses (a b : List Shape) (count n : Node) (index at : ℕ) : Type 0 where
  pub grows : Grows a b
  pub term : IsTerm b (Word W64) n
  pub is : (e : Environment) (v : Values) → Models b e v → (v n.index).word ≡ cond (nat_lt index (v count.index).word) at 0

-- a memory of what a function makes of another memory's store, by the word that a node has; it keeps a store sized
pub record BecomesBy (a b : List Shape) (count m n : Node) (f : ℕ → Store → Store) : Type 0 where
  pub grows : Grows a b
  pub term : IsTerm b Memory n
  pub is : (e : Environment) (v : Values) → Models b e v
      → (v n.index).store ≡ f (v count.index).word (v m.index).store
  pub sized : (k : ℕ) (s : Store) → IsSized s → IsSized (f k s)

-- a memory in which the arguments stand, and the node of their count
pub record Furnishes (a b : List Shape) (m : Node) (most outside p : ℕ) (x : Furnished) : Type 0 where
  pub grows : Grows a b
  pub term : IsTerm b Memory x.memory
  pub counted : IsTerm b (Word W64) x.count
  pub is : (e : Environment) (v : Values) → Models b e v
      → (v x.memory.index).store ≡ arguments_in most outside p (count_in most e p) (v m.index).store
  pub count_is : (e : Environment) (v : Values) → Models b e v → (v x.count.index).word ≡ count_in most e p
  pub sized : (k : ℕ) (s : Store) → IsSized s → IsSized (arguments_in most outside p k s)

-- ---- what is put in for the entry of `main`

-- the words of the arguments: their count, and where the array begins
abbrev pub words_given : Bool → World → Limits → ℕ → List ℕ
words_given true w l p = argument_count w l p ∷ start (suc p) ∷ []
words_given false w l p = []

-- how many places stand before those of `main`
abbrev pub places_given : Bool → Limits → ℕ
places_given given l = cond given (2 + l.arguments) 0

pub record Binds (given : Bool) (l : Limits) (p : ℕ) (a b : List Shape) (m : Node) (put : Binding) : Type 0 where
  pub grows : Grows a b
  pub bank : IsBank b
  pub low : suc p < 2 ^ 32
  pub stands : IsBinding b put
  pub entry : (e : Environment) (v : Values) → Models b e v
      → (v put.entry.index).store ≡ given_in given (world_in e) l p (v m.index).store
  pub parameters : (e : Environment) (v : Values) → Models b e v
      → map (λ n. (v n.index).word) put.parameters ≡ words_given given (world_in e) l p
  pub base : (e : Environment) (v : Values) → Models b e v → (v put.base.index).word ≡ p + places_given given l
  pub sized : (w : World) (s : Store) → IsSized s → IsSized (given_in given w l p s)

-- `int` and a pointer, or none
abbrev pub TakesGiven : Bool → List ValueType → Type 0
TakesGiven true ts = ts ≡ vt.Word int ∷ vt.Pointer ∷ []
TakesGiven false ts = ts ≡ []
