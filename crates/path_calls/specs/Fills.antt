-- Buffers that functions outside fill.
use Rattle.std.specs.Prelude.{◌≡◌, ℕ, ◌+◌, ◌<◌, ◌^◌, ℤ, pos, negsuc, min, List, Bool, true, false, cond, not, ◌&&◌}
use Rattle.plain_data.specs.declared.bounds.Bounds.{Bounds}
use Rattle.plain_data.specs.declared.width.Width.TheVariants.{W64}
use Rattle.c_store.specs.Store.{Store, start, initial, lay}
use Rattle.c_store.specs.Access.{can_access, can_write}
use Rattle.c_means.specs.Values.{address}
use Rattle.core_tree.specs.declared.expr.Fill.{Fill}
use Rattle.core_tree.specs.declared.expr.OutsideAnswer.{OutsideAnswer}
use Rattle.core_tree.specs.Callees.{value_or_zero, is_odd}
use Rattle.term_bank.specs.Memories as wrapping
use Rattle.term_bank.specs.declared.sort.Sort.TheVariants.{Truth, Word, Memory}
use Rattle.term_bank.specs.declared.sort.Node.{Node}
use Rattle.term_bank.specs.declared.shape.Shape.{Shape}
use Rattle.term_bank.specs.Terms.{IsTerm}
use Rattle.term_bank.specs.Values.{Environment, Values, Models, Grows}
use Rattle.path_states.specs.declared.state.Number.{Number}
use Rattle.path_states.specs.States.{IsNumber, IsRoomy, IsSized, number_in, numbers_in}
use Rattle.path_calls.specs.declared.outside_pointers.Reply.{Reply}
use Rattle.path_calls.specs.declared.fills.Filling.{Filling}
use Rattle.path_calls.specs.declared.fills.FillReply.{FillReply}
use Rattle.path_calls.specs.Replies.{word_in, value_by, store_by, IsSmall}

-- ---- words

-- the world's word at the place that is so many places behind the base
pub record Asks (a b : List Shape) (place : ℕ) (n : Node) : Type 0 where
  pub grows : Grows a b
  pub term : IsTerm b (Word W64) n
  pub is : (room : ℕ) → place < room → (e : Environment) (v : Values) → Models b e v → IsRoomy room e
      → (v n.index).word ≡ word_in e (e.base + place)

pub record IsOdd (a b : List Shape) (place : ℕ) (n : Node) : Type 0 where
  pub grows : Grows a b
  pub term : IsTerm b Truth n
  pub is : (room : ℕ) → place < room → (e : Environment) (v : Values) → Models b e v → IsRoomy room e
      → (v n.index).truth ≡ is_odd (word_in e (e.base + place))

-- the least of that word, a length and the bound
pub record Counts (a b : List Shape) (most place : ℕ) (length n : Node) : Type 0 where
  pub grows : Grows a b
  pub term : IsTerm b (Word W64) n
  pub is : (room : ℕ) → place < room → (e : Environment) (v : Values) → Models b e v → IsRoomy room e
      → (v n.index).word ≡ min (word_in e (e.base + place)) (min (v length.index).word most)

-- ---- memories

-- so many bytes of the world's at an address
pub record Lays (a b : List Shape) (place : ℕ) (m to count n : Node) : Type 0 where
  pub grows : Grows a b
  pub term : IsTerm b Memory n
  pub is : (room : ℕ) → place < room → (e : Environment) (v : Values) → Models b e v → IsRoomy room e
      → (v n.index).store
      ≡ wrapping.copy_range (v to.index).word (initial e.bytes) (start (e.base + place)) (v count.index).word (v m.index).store

-- ---- what is filled: by the arguments, in a call with this first place

abbrev pub buffer_by : Fill → List ℤ → ℕ
buffer_by f zs = address (value_or_zero zs f.buffer)

abbrev pub count_by : ℕ → Fill → Environment → ℕ → List ℤ → ℕ
count_by most f e q zs = min (word_in e (q + 1)) (min (address (value_or_zero zs f.length)) most)

abbrev pub laid_by : ℕ → Fill → Environment → ℕ → List ℤ → Store → Store
laid_by most f e q zs s = lay (buffer_by f zs) (count_by most f e q zs) (λ i. e.bytes (start (q + 2) + i)) s

-- in one environment
pub record FillsIn (most : ℕ) (f : Fill) (e : Environment) (q : ℕ) (zs : List ℤ) (s : Store) (v : Values) (r : Filling) : Type 0 where
  pub count : (v r.count.index).word ≡ count_by most f e q zs
  pub accessible : (v r.accessible.index).truth ≡ can_access s (buffer_by f zs) (count_by most f e q zs)
  pub writable : (v r.writable.index).truth ≡ can_write s (buffer_by f zs) (count_by most f e q zs)
  pub store : IsSized s → can_access s (buffer_by f zs) (count_by most f e q zs) ≡ true → (v r.memory.index).store ≡ laid_by most f e q zs s

pub record Fills (a b : List Shape) (most : ℕ) (f : Fill) (place : ℕ) (xs : List Number) (m : Node) (r : Filling) : Type 0 where
  pub grows : Grows a b
  pub count_term : IsTerm b (Word W64) r.count
  pub accessible_term : IsTerm b Truth r.accessible
  pub writable_term : IsTerm b Truth r.writable
  pub memory_term : IsTerm b Memory r.memory
  pub is : (room : ℕ) → place + 3 < room → (e : Environment) (v : Values) → Models b e v → IsRoomy room e
      → FillsIn most f e (e.base + place) (numbers_in v xs) (v m.index).store v r

-- ---- answers

-- whether nothing is filled
abbrev pub fails_by : Fill → Environment → ℕ → Bool
fails_by f e q = f.counts && is_odd (word_in e (q + 3))

abbrev pub fill_value : ℕ → Fill → OutsideAnswer → Environment → ℕ → List ℤ → ℤ
fill_value most f x e q zs =
    cond f.counts (cond (is_odd (word_in e (q + 3))) (negsuc 0) (pos (count_by most f e q zs))) (value_by x (word_in e q) q)

abbrev pub fill_store : ℕ → ℕ → Fill → OutsideAnswer → Environment → ℕ → List ℤ → Store → Store
fill_store heap outside f x e q zs s =
    cond f.counts (cond (is_odd (word_in e (q + 3))) s (laid_by heap f e q zs s))
    (store_by outside x (word_in e q) q (laid_by heap f e q zs s))

-- the first where the condition is true, -1 and the memory from before, else the count and the memory that is filled
pub record CountsOrFails (a b : List Shape) (fails : Node) (g : Filling) (m : Node) (r : Reply) : Type 0 where
  pub grows : Grows a b
  pub number : IsNumber b r.number
  pub term : IsTerm b Memory r.memory
  pub value : (e : Environment) (v : Values) → Models b e v → (v g.count.index).word < 2 ^ 63
      → number_in v r.number ≡ cond (v fails.index).truth (negsuc 0) (pos (v g.count.index).word)
  pub store : (e : Environment) (v : Values) → Models b e v
      → (v r.memory.index).store ≡ cond (v fails.index).truth (v m.index).store (v g.memory.index).store

-- in one environment
pub record RepliesIn (b : Bounds) (f : Fill) (x : OutsideAnswer) (e : Environment) (q : ℕ) (zs : List ℤ) (s : Store) (v : Values)
    (r : FillReply) : Type 0 where
  pub access : (v r.no_access.index).truth
      ≡ cond (fails_by f e q) false (not (can_access s (buffer_by f zs) (count_by b.heap f e q zs)))
  pub write : (v r.no_write.index).truth
      ≡ cond (fails_by f e q) false (not (can_write s (buffer_by f zs) (count_by b.heap f e q zs)))
  pub value : number_in v r.reply.number ≡ fill_value b.heap f x e q zs
  pub store : IsSized s → cond (fails_by f e q) true (can_access s (buffer_by f zs) (count_by b.heap f e q zs)) ≡ true
      → (v r.reply.memory.index).store ≡ fill_store b.heap b.outside f x e q zs s

pub record RepliesFilled (a c : List Shape) (b : Bounds) (f : Fill) (x : OutsideAnswer) (place : ℕ) (xs : List Number) (m : Node)
    (r : FillReply) : Type 0 where
  pub grows : Grows a c
  pub number : IsNumber c r.reply.number
  pub term : IsTerm c Memory r.reply.memory
  pub access_term : IsTerm c Truth r.no_access
  pub write_term : IsTerm c Truth r.no_write
  pub small : f.counts ≡ false → IsSmall b.outside x
  pub is : (room : ℕ) → place + 3 < room → (e : Environment) (v : Values) → Models c e v → IsRoomy room e
      → RepliesIn b f x e (e.base + place) (numbers_in v xs) (v m.index).store v r
