-- What an expression makes of runs, behind whatever led to them.
use Rattle.std.specs.Prelude.{◌≡◌, ℕ, ◌+◌, ℤ, List, [], ◌∷◌, ◌++◌, cond, Option, Some, None, Result, Ok, Err, map}
use Rattle.plain_data.specs.declared.run.Side.TheVariants as side
use Rattle.c_language.specs.Integers.{is_zero}
use Rattle.core_tree.specs.declared.expr.Expr.{Expr}
use Rattle.core_tree.specs.declared.types.Operator.{Operator}
use Rattle.core_tree.specs.Memory.{operated}
use Rattle.core_tree.specs.States.{Done, Outcome}
use Rattle.core_tree.specs.Values.{Value, value, arguments, all_rooms}
use Rattle.term_bank.specs.declared.shape.Shape.{Shape}
use Rattle.term_bank.specs.Values.{Environment, Values, Grows}
use Rattle.path_states.specs.declared.state.State.{State}
use Rattle.path_states.specs.declared.state.Walked.{Walked}
use Rattle.path_states.specs.States.{Held, AreStates}
use Rattle.path_states.specs.Ways.{Way, Trial, Goes, Walks, going, ending, tried, stay, to_list}
use Rattle.path_steps.specs.Branches.{noted_at, takes, skips}
use Rattle.path_steps.specs.Operands.{pushed, on_two, top}
use Rattle.path_forms.specs.declared.frame.Placed.{Placed}
use Rattle.path_forms.specs.declared.sides.Sides.{Sides}
use Rattle.path_forms.specs.Around.{Around, level_at, env_at}

-- ---- what the core does, as trials

-- what a value of the core makes of a run, its places so many behind the base
abbrev pub worth_way : Around → List Placed → ℕ → Value ℕ → Trial
worth_way x frame place y e v h = pushed h.operands (y.run (level_at x e) (env_at frame e) (e.base + place) h.done)

abbrev pub value_way : Around → List Placed → ℕ → Expr → Trial
value_way x frame place t = worth_way x frame place (value t)

-- values on top of others, the last one on top
abbrev pub put_on : List ℤ → List ℤ → List ℤ
put_on zs [] = zs
put_on zs (y ∷ ys) = put_on (y ∷ zs) ys

abbrev pub pushed_all : List ℤ → Outcome ℕ (List ℤ) → Option (Result Held (Done ℕ))
pushed_all zs None = None
pushed_all zs (Some (Ok x)) = Some (Ok (record { operands = put_on zs x.0; done = x.1 }))
pushed_all zs (Some (Err d)) = Some (Err d)

abbrev pub values_of : List Expr → List (Value ℕ)
values_of ts = map (value {O = ℕ}) ts

abbrev pub arguments_way : Around → List Placed → ℕ → List Expr → Trial
arguments_way x frame place ts e v h =
    pushed_all h.operands (arguments (values_of ts) (level_at x e) (env_at frame e) (e.base + place) h.done)

abbrev pub operated_way : ℕ → Operator → Trial
operated_way at operator = on_two (λ e x y d. operated at operator x y d)

-- ---- the trial behind others

pub record Ready (b : List Shape) (w : Walked) : Type 0 where
  pub going : AreStates b w.going

-- whatever trial led to the first states, this one behind it leads to the others
pub record Reaches (room : ℕ) (a b : List Shape) (w u : Walked) (g : Trial) : Type 0 where
  pub grows : Grows a b
  pub ready : Ready b u
  pub reaches : (c : List Shape) (ss : List State) (f : Trial) → Walks room c a ss w f
      → Walks room c b ss u (λ e v h. tried (f e v h) (g e v))

-- an expression is walked, from a place behind the base to the next free one
pub record Evaluates (x : Around) (frame : List Placed) (room : ℕ) (t : Expr) (a b : List Shape) (w u : Walked)
    (place next : ℕ) : Type 0 where
  pub ready : Ready b u
  pub after : next ≡ place + (value {O = ℕ} t).needs.room x.measures
  pub reach : Reaches room a b w u (value_way x frame place t)

pub record EvaluatesAll (x : Around) (frame : List Placed) (room : ℕ) (ts : List Expr) (a b : List Shape) (w u : Walked)
    (place next : ℕ) : Type 0 where
  pub ready : Ready b u
  pub after : next ≡ place + all_rooms (values_of ts) x.measures
  pub reach : Reaches room a b w u (arguments_way x frame place ts)

-- the same from states of which one stands at most
pub record WalksValue (x : Around) (frame : List Placed) (room : ℕ) (t : Expr) (a b : List Shape) (ss : List State)
    (u : Walked) (place next : ℕ) : Type 0 where
  pub grows : Grows a b
  pub going : AreStates b u.going
  pub ended : AreStates b u.ended
  pub after : next ≡ place + (value {O = ℕ} t).needs.room x.measures
  pub walks : Walks room a b ss u (value_way x frame place t)

-- ---- two sides

-- a way as a trial that ends no run
abbrev pub passing : Option Held → Option (Result Held (Done ℕ))
passing None = None
passing (Some h) = Some (Ok h)

abbrev pub by_way : Way → Trial
by_way f e v h = passing (f e v h)

-- a run goes on by the side that it takes at a token, where the value on top is the condition
abbrev pub by_sides : ℕ → Trial → Trial → Trial
by_sides at f g e v h =
    cond (is_zero (top h.operands)) (g e v (noted_at at side.No h)) (f e v (noted_at at side.Yes h))

-- the states that go on by either side, and those that had ended before
pub record Branches (a b : List Shape) (w : Walked) (at : ℕ) (p : Sides) : Type 0 where
  pub grows : Grows a b
  pub ready : Ready b p.yes
  pub other : Ready b p.no
  pub yes : (room : ℕ) → Walks room a b w.going p.yes (by_way (takes at))
  pub no : (room : ℕ) → Walks room a b w.going p.no (by_way (skips at))
  pub ended : p.ended ≡ w.ended

-- both sides as one, the states that go on joined
pub record Meets (a b : List Shape) (p : Sides) (u : Walked) : Type 0 where
  pub grows : Grows a b
  pub ready : Ready b u
  pub joined : (room : ℕ) → Goes room a b (p.yes.going ++ p.no.going) u.going stay
  pub ended : u.ended ≡ p.ended ++ (p.yes.ended ++ p.no.ended)

-- the same sides, the states joined that go on by the first
pub record TurnsTo (a b : List Shape) (p q : Sides) : Type 0 where
  pub grows : Grows a b
  pub ready : Ready b q.no
  pub first : Ready b q.yes
  pub joined : (room : ℕ) → Goes room a b p.yes.going q.yes.going stay
  pub yes_ended : q.yes.ended ≡ p.yes.ended
  pub no : q.no ≡ p.no
  pub ended : q.ended ≡ p.ended

-- of a run that one of two ways follows, which of them does is another way
pub record Beside (f g k : Trial) : Type 0 where
  pub going : (e : Environment) (v : Values) (h : Held)
      → to_list (going (f e v h)) ++ to_list (going (g e v h)) ≡ to_list (going (k e v h))
  pub ended : (e : Environment) (v : Values) (h : Held)
      → to_list (ending (f e v h)) ++ to_list (ending (g e v h)) ≡ to_list (ending (k e v h))

-- a trial behind each side, and the sides met
pub record Closes (room : ℕ) (a b : List Shape) (p : Sides) (u : Walked) (f g : Trial) : Type 0 where
  pub grows : Grows a b
  pub ready : Ready b u
  pub rest : List State
  pub ended : u.ended ≡ p.ended ++ rest
  pub closes : (c : List Shape) (ss : List State) (h i k : Trial)
      → Beside (λ e v x. tried (h e v x) (f e v)) (λ e v x. tried (i e v x) (g e v)) k
      → Walks room c a ss p.yes h → Walks room c a ss p.no i
      → Walks room c b ss (record { going = u.going; ended = rest }) k
