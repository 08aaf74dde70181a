-- What a summary stands for: the ends of a function's body, for every entry memory, arguments, base and world at once.
use Rattle.std.specs.Prelude.{◌≡◌, ℕ, suc, ◌+◌, ◌≤◌, ◌%◌, ◌^◌, ℤ, false, List, [], ◌∷◌, length, Some, slice_index}
use Rattle.plain_data.specs.declared.width.Width.TheVariants.{W64}
use Rattle.plain_data.specs.Words.{bits}
use Rattle.c_store.specs.Store.{Store}
use Rattle.c_means.specs.Parts.{World}
use Rattle.core_tree.specs.declared.types.ValueType.{ValueType}
use Rattle.core_tree.specs.declared.types.ValueType.TheVariants as v
use Rattle.core_tree.specs.declared.types.WordType.{WordType}
use Rattle.core_tree.specs.Numbers.{int, value_of_word, converted_to}
use Rattle.core_tree.specs.States.{Calls}
use Rattle.term_bank.specs.declared.shape.Shape.{Shape}
use Rattle.term_bank.specs.Values.{Environment, Values, Models, Grows}
use Rattle.path_states.specs.declared.state.State.{State}
use Rattle.path_states.specs.States.{AreStates, IsRoomy, IsSized, AllSized, standing}
use Rattle.path_states.specs.Ways.{to_list}
use Rattle.path_arrows.specs.Arrows.{bared}
use Rattle.path_forms.specs.declared.calling.CallSite.{CallSite}
use Rattle.path_forms.specs.Around.{Around}
use Rattle.summary_compose.specs.declared.summary.Summary.{Summary}

-- ---- parameters

-- the integer type of the words of a parameter
abbrev pub word_of : ValueType → WordType
word_of v.Void = int
word_of v.Truth = int
word_of (v.Word t) = t
word_of v.Pointer = record { width = W64; is_signed = false }
word_of (v.Block bytes) = int

-- the number that a word is in a parameter
abbrev pub read_as : ValueType → ℕ → ℤ
read_as t n = value_of_word (word_of t) (n % 2 ^ bits (word_of t).width)

-- the values of an environment's parameters, from the one of this number on
abbrev pub entry_values : Environment → ℕ → List ValueType → List ℤ
entry_values e k [] = []
entry_values e k (t ∷ ts) = read_as t (slice_index e.parameters k) ∷ entry_values e (suc k) ts

-- each value is converted to the type of its parameter (C99 6.5.2.2p7)
abbrev pub given : List ValueType → List ℤ → List ℤ
given [] vs = []
given (t ∷ ts) [] = []
given (t ∷ ts) (v ∷ vs) = converted_to t v ∷ given ts vs

-- ---- summaries

abbrev pub world_in : Environment → World
world_in e = record { word = e.words; byte = e.bytes }

-- What calls of a function do is what they do with the converted values, and with as many as there are parameters they
-- keep a store sized, where so many places from the base on have numbers.
pub record IsFunction (calls : World → Calls ℕ) (ts : List ValueType) (room f : ℕ) : Type 0 where
  pub converts : (w : World) (vs : List ℤ) (base : ℕ) (s : Store) (o : ℕ)
      → calls w f (given ts vs) base s o ≡ calls w f vs base s o
  pub sized : (e : Environment) → IsRoomy room e → (vs : List ℤ) (s : Store) (o : ℕ) → length vs ≡ length ts → IsSized s
      → AllSized (bared (calls (world_in e) f vs e.base s o))

-- From a position in the log on, at most one of the states stands in an environment: one does exactly where the body's
-- run prints on along the log, and says how it ends.
pub record Stands (calls : World → Calls ℕ) (ts : List ValueType) (room f start : ℕ) (b : List Shape) (ss : List State) : Type 0 where
  pub states : AreStates b ss
  pub stands : (e : Environment) (v : Values) → Models b e v → IsRoomy room e → IsSized e.entry
      → standing v ss ≡ to_list (bared (calls (world_in e) f (entry_values e 0 ts) e.base e.entry start))

-- ---- where a summary is put in

-- A call of a function in a part of the core, whose own places are within the room, has this summary at a position.
pub record Answers (x : Around) (room : ℕ) (site : CallSite) (f start : ℕ) (b : List Shape) (summary : Summary) : Type 0 where
  pub calls : World → Calls ℕ
  pub are : (e : Environment) → x.calls e ≡ Some (calls (world_in e))
  pub own : ℕ
  pub fits : site.place + own ≤ room
  pub is_function : IsFunction calls summary.parameters own f
  pub begun : List Shape
  pub grown : Grows begun b
  pub stands : Stands calls summary.parameters own f start begun summary.states
