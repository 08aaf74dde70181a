-- What code makes of states along a log.
use Rattle.std.specs.Prelude.{◌≡◌, ℕ, suc, ◌+◌, ℤ, List, Option, option_map}
use Rattle.core_tree.specs.declared.code.Code.{Code}
use Rattle.core_tree.specs.declared.expr.Expr.{Expr}
use Rattle.core_tree.specs.States.{Arrow, running, with_value, stay, one_of}
use Rattle.core_tree.specs.Values.{value}
use Rattle.core_tree.specs.Codes.{Item, code, lived, tested, turns_from, rounds_from, maybe_evaluated}
use Rattle.term_bank.specs.declared.shape.Shape.{Shape}
use Rattle.term_bank.specs.Values.{Environment, Grows}
use Rattle.path_states.specs.declared.state.State.{State}
use Rattle.path_states.specs.States.{AreStates}
use Rattle.path_states.specs.Ways.{Way, Goes}
use Rattle.path_arrows.specs.Arrows.{by_arrow}
use Rattle.path_forms.specs.declared.frame.Placed.{Placed}
use Rattle.path_forms.specs.Around.{Around, level_at, env_at}
use Rattle.path_rooms.specs.Rooms.{value_room, option_room, items_room, item_of}
use Rattle.path_codes.specs.declared.below.Coded.{Coded}
use Rattle.path_codes.specs.declared.below.Evaluated.{Evaluated}
use Rattle.path_codes.specs.Courses.{Splits, on_top}

-- ---- what the core does, from places so many behind the base

abbrev pub item_arrow : Around → List Placed → ℕ → Item ℕ → Environment → Arrow ℕ
item_arrow x frame place i e = i.run (level_at x e) (env_at frame e) (e.base + place)

abbrev pub code_way : Around → List Placed → ℕ → Code → Way
code_way x frame place c = by_arrow (item_arrow x frame place (code c))

-- the items of a block, whose objects live while they run
abbrev pub lived_arrow : Around → List Placed → ℕ → List Code → Environment → Arrow ℕ
lived_arrow x frame place cs e = lived (item_of cs) (level_at x e) (env_at frame e) (e.base + place)

-- with the value of an expression
abbrev pub value_arrow : Around → List Placed → ℕ → Expr → (Environment → ℤ → Arrow ℕ) → Environment → Arrow ℕ
value_arrow x frame place t f e d =
    with_value ((value t).run (level_at x e) (env_at frame e) (e.base + place) d) (f e)

-- a loop's test, behind which a run goes on or is over
abbrev pub test_arrow : Around → List Placed → ℕ → ℕ → Option Expr → (Environment → Arrow ℕ) → Environment → Arrow ℕ
test_arrow x frame place at test go e d =
    tested at (option_map value test) (level_at x e) (env_at frame e) (e.base + place) (λ b. one_of b (go e) stay) d

abbrev pub step_of : Option Expr → Item ℕ
step_of e = maybe_evaluated (option_map value e)

-- with so many turns left
abbrev pub turns_arrow :
    Around → List Placed → ℕ → Option Expr → Code → Option Expr → ℕ → ℕ → Environment → Arrow ℕ
turns_arrow x frame at test body step left place e =
    turns_from at (option_map value test) (code body) (step_of step) (level_at x e) (env_at frame e) left (e.base + place)

abbrev pub rounds_arrow : Around → List Placed → ℕ → Code → Expr → ℕ → ℕ → Environment → Arrow ℕ
rounds_arrow x frame at body test left place e =
    rounds_from at (code body) (value test) (level_at x e) (env_at frame e) left (e.base + place)

-- ---- what is promised

-- the states behind an arrow that takes so many places
pub record WalksTo (room : ℕ) (f : Environment → Arrow ℕ) (places : ℕ) (a b : List Shape) (ss : List State) (place : ℕ)
    (y : Coded) : Type 0 where
  pub grows : Grows a b
  pub states : AreStates b y.states
  pub after : y.next ≡ place + places
  pub goes : Goes room a b ss y.states (by_arrow f)

abbrev pub WalksItem :
    Around → List Placed → ℕ → Item ℕ → List Shape → List Shape → List State → ℕ → Coded → Type 0
WalksItem x frame room i a b ss place y =
    WalksTo room (item_arrow x frame place i) (i.needs.room x.measures) a b ss place y

abbrev pub WalksLived :
    Around → List Placed → ℕ → List Code → List Shape → List Shape → List State → ℕ → Coded → Type 0
WalksLived x frame room cs a b ss place y =
    WalksTo room (lived_arrow x frame place cs) (items_room x.measures cs) a b ss place y

-- An expression is evaluated by the states that are running; whatever follows for its value is left to do.
pub record EvaluatesTo (x : Around) (frame : List Placed) (room : ℕ) (t : Expr) (a b : List Shape) (ss : List State)
    (place : ℕ) (y : Evaluated) : Type 0 where
  pub grows : Grows a b
  pub over : AreStates b y.over
  pub on : AreStates b y.on
  pub after : y.next ≡ place + value_room x.measures t
  pub splits : (f : Environment → ℤ → Arrow ℕ) → Splits room a b ss y.over y.on (on_top f)
      (by_arrow (λ e. running (value_arrow x frame place t f e)))

-- A loop's test is evaluated by the states that are running; whatever follows where it is true is left to do.
pub record TestsTo (x : Around) (frame : List Placed) (room at : ℕ) (test : Option Expr) (a b : List Shape)
    (ss : List State) (place : ℕ) (y : Evaluated) : Type 0 where
  pub grows : Grows a b
  pub over : AreStates b y.over
  pub on : AreStates b y.on
  pub after : y.next ≡ place + option_room x.measures test
  pub splits : (go : Environment → Arrow ℕ) → Splits room a b ss y.over y.on (by_arrow go)
      (by_arrow (λ e. running (test_arrow x frame place at test go e)))

-- a turn of a `while` or `for`: the turns that are left are to do
pub record TurnsTo (x : Around) (frame : List Placed) (room at : ℕ) (test : Option Expr) (body : Code)
    (step : Option Expr) (a b : List Shape) (ss : List State) (place : ℕ) (y : Evaluated) : Type 0 where
  pub grows : Grows a b
  pub over : AreStates b y.over
  pub on : AreStates b y.on
  pub splits : (left : ℕ) → Splits room a b ss y.over y.on
      (by_arrow (λ e. running (turns_arrow x frame at test body step left y.next e)))
      (by_arrow (λ e. running (turns_arrow x frame at test body step (suc left) place e)))

-- a turn of a `do`
pub record RoundsTo (x : Around) (frame : List Placed) (room at : ℕ) (body : Code) (test : Expr) (a b : List Shape)
    (ss : List State) (place : ℕ) (y : Evaluated) : Type 0 where
  pub grows : Grows a b
  pub over : AreStates b y.over
  pub on : AreStates b y.on
  pub splits : (left : ℕ) → Splits room a b ss y.over y.on
      (by_arrow (rounds_arrow x frame at body test left y.next))
      (by_arrow (rounds_arrow x frame at body test (suc left) place))
