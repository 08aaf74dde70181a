-- Bodies of functions along a log.
use Rattle.std.specs.Prelude.{◌≡◌, ℕ, ◌+◌, ℤ, List, [], ◌∷◌, ◌++◌, length, Some}
use Rattle.c_store.specs.Store.{start}
use Rattle.c_store.specs.Store.{Store}
use Rattle.c_means.specs.Items.{known}
use Rattle.c_means.specs.Statements.{no_env}
use Rattle.core_tree.specs.declared.program.Function.{Function}
use Rattle.core_tree.specs.declared.program.Parameter.{Parameter}
use Rattle.core_tree.specs.declared.types.ValueType.{ValueType}
use Rattle.core_tree.specs.Memory.{stored}
use Rattle.core_tree.specs.States.{Arrow, along, born, dead, onward}
use Rattle.core_tree.specs.Codes.{lived}
use Rattle.core_tree.specs.Programs.{body_of, by_body, frame, passed, back}
use Rattle.term_bank.specs.declared.sort.Node.{Node}
use Rattle.term_bank.specs.declared.shape.Shape.{Shape}
use Rattle.term_bank.specs.Values.{Environment, Values, Models, Grows}
use Rattle.path_states.specs.declared.state.Number.{Number}
use Rattle.path_states.specs.declared.state.State.{State}
use Rattle.path_states.specs.States.{AreStates, AreNumbers, IsRoomy, IsSized, AllSized, number_in, numbers_in, standing}
use Rattle.path_states.specs.Ways.{Way, Goes, to_list}
use Rattle.path_arrows.specs.declared.objects.Object.{Object}
use Rattle.path_arrows.specs.Objects.{made_at}
use Rattle.path_arrows.specs.Arrows.{bare, bared}
use Rattle.path_forms.specs.Around.{Around, level_at}
use Rattle.path_rooms.specs.Rooms.{item_of}

-- these objects and, behind them, those of parameters, the first of which has its place so many behind the base
pub record Frames (ps : List Parameter) (offset : ℕ) (old now : List Object) : Type 0 where
  pub is : (base : ℕ) → made_at base now ≡ made_at base old ++ frame (base + offset) ps

-- with a number as the only operand
abbrev pub holding : Number → Way
holding x e v h = Some (record { operands = number_in v x ∷ []; done = h.done })

-- arguments are stored in the objects of parameters
abbrev pub passing : List Parameter → List Number → ℕ → Way
passing ps xs offset e v h = Some (bare (passed (e.base + offset) ps (numbers_in v xs) h.done))

-- one argument; the others stay numbers of the bank
pub record PassesOne (room : ℕ) (t : ValueType) (x : Number) (offset : ℕ) (more : List Number) (a b : List Shape) (ss ts : List State)
    : Type 0 where
  pub grows : Grows a b
  pub states : AreStates b ts
  pub others : AreNumbers b more
  pub goes : Goes room a b ss ts
      (λ e v h. Some (bare (stored t (start (e.base + offset)) (number_in v x) h.done)))

pub record Passes (room : ℕ) (ps : List Parameter) (xs : List Number) (offset : ℕ) (a b : List Shape) (ss ts : List State) : Type 0 where
  pub grows : Grows a b
  pub states : AreStates b ts
  pub goes : Goes room a b ss ts (passing ps xs offset)

-- what a body does from where a function begins
abbrev pub does : Around → Function → List ℤ → Environment → Arrow ℕ
does x f vs e d =
    let ms = frame e.base f.parameters in
    onward (lived (item_of f.items) (level_at x e) (known ms no_env) (e.base + length f.parameters)
    (passed e.base f.parameters vs (born (along x.log) ms d)))
    (λ r. Some (back (dead ms r)))

abbrev pub body_way : Around → Function → List Number → Way
body_way x f xs e v h = bared (does x f (numbers_in v xs) e h.done)

pub record WalksBody (x : Around) (room : ℕ) (f : Function) (xs : List Number) (a b : List Shape) (ss ts : List State) : Type 0 where
  pub grows : Grows a b
  pub states : AreStates b ts
  pub goes : Goes room a b ss ts (body_way x f xs)

-- The states of a function's end: in each environment with the room at most one stands, and it says how the core's run of
-- the body ends along the log, from the store of a memory and a position; none does where that run leaves the log.
pub record Embodies (x : Around) (room : ℕ) (f : Function) (xs : List Number) (memory : Node) (position : ℕ) (a b : List Shape)
    (ts : List State) : Type 0 where
  pub grows : Grows a b
  pub states : AreStates b ts
  pub stands : (e : Environment) (v : Values) → Models b e v → IsRoomy room e → IsSized (v memory.index).store
      → standing v ts
      ≡ to_list (bared (by_body (level_at x e) (body_of f) (numbers_in v xs) e.base (v memory.index).store position))
  pub sized : (e : Environment) (v : Values) → Models b e v → IsRoomy room e → (q : Store) (o : ℕ) → IsSized q
      → AllSized (bared (by_body (level_at x e) (body_of f) (numbers_in v xs) e.base q o))
