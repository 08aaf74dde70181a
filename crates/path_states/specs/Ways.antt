-- What becomes of states: at most one of them stands, and its run goes on.
use Rattle.std.specs.Prelude.{◌≡◌, ℕ, List, [], ◌∷◌, ◌++◌, Bool, true, false, cond, not, Option, Some, None, Result, Ok, Err}
use Rattle.plain_data.specs.declared.run.Event.{Event}
use Rattle.core_tree.specs.States.{Done}
use Rattle.term_bank.specs.declared.sort.Sort.{Sort}
use Rattle.term_bank.specs.declared.sort.Sort.TheVariants.{Truth, Events}
use Rattle.term_bank.specs.declared.sort.Node.{Node}
use Rattle.term_bank.specs.declared.shape.Shape.{Shape}
use Rattle.term_bank.specs.Terms.{IsTerm}
use Rattle.term_bank.specs.Values.{Environment, Worth, Values, Models, Grows}
use Rattle.path_states.specs.declared.state.State.{State}
use Rattle.path_states.specs.declared.state.Walked.{Walked}
use Rattle.path_states.specs.States.{Held, AreStates, IsRoomy, IsSized, AllSized, run_in, standing}

abbrev pub to_list : {A : Type 0} → Option A → List A
to_list None = []
to_list (Some x) = x ∷ []

infixl 10 ◌>>=◌
abbrev pub ◌>>=◌ : {A B : Type 0} → Option A → (A → Option B) → Option B
None >>= f = None
(Some x) >>= f = f x

-- what becomes of a run; none where what it prints isn't in the log
abbrev pub Way : Type 0
Way = Environment → Values → Held → Option Held

abbrev pub stay : Way
stay e v h = Some h

-- What one state becomes: of these states at most one stands, and one does exactly where the state does and its run
-- goes on along the log.
pub record Steps (room : ℕ) (a b : List Shape) (s : State) (ts : List State) (f : Way) : Type 0 where
  pub grows : Grows a b
  pub states : AreStates b ts
  pub stands : (e : Environment) (v : Values) → Models b e v → IsRoomy room e
      → ((v s.guard.index).truth ≡ true → IsSized (run_in v s).done.store)
      → standing v ts ≡ cond (v s.guard.index).truth (to_list (f e v (run_in v s))) []
  pub sized : (e : Environment) (v : Values) → Models b e v → IsRoomy room e → (h : Held) → IsSized h.done.store
      → AllSized (f e v h)

-- What some states become, of which at most one stands: then at most one of these does, and says what becomes of the
-- run.
pub record Goes (room : ℕ) (a b : List Shape) (ss ts : List State) (f : Way) : Type 0 where
  pub grows : Grows a b
  pub states : AreStates b ts
  pub stands : (e : Environment) (v : Values) → Models b e v → IsRoomy room e → (o : Option Held)
      → standing v ss ≡ to_list o → AllSized o → standing v ts ≡ to_list (o >>= f e v)
  pub sized : (e : Environment) (v : Values) → Models b e v → IsRoomy room e → (h : Held) → IsSized h.done.store
      → AllSized (f e v h)

-- ---- expressions: a run goes on with its operands, or has ended

abbrev pub Trial : Type 0
Trial = Environment → Values → Held → Option (Result Held (Done ℕ))

-- where it goes on
abbrev pub going : Option (Result Held (Done ℕ)) → Option Held
going None = None
going (Some (Ok h)) = Some h
going (Some (Err d)) = None

-- where it has ended, without operands
abbrev pub ending : Option (Result Held (Done ℕ)) → Option Held
ending None = None
ending (Some (Ok h)) = None
ending (Some (Err d)) = Some (record { operands = []; done = d })

-- one behind the other
abbrev pub tried : Option (Result Held (Done ℕ)) → (Held → Option (Result Held (Done ℕ))) → Option (Result Held (Done ℕ))
tried None g = None
tried (Some (Ok h)) g = g h
tried (Some (Err d)) g = Some (Err d)

pub record Tries (room : ℕ) (a b : List Shape) (s : State) (w : Walked) (f : Trial) : Type 0 where
  pub going : Steps room a b s w.going (λ e v h. going (f e v h))
  pub ended : Steps room a b s w.ended (λ e v h. ending (f e v h))

pub record Walks (room : ℕ) (a b : List Shape) (ss : List State) (w : Walked) (f : Trial) : Type 0 where
  pub going : Goes room a b ss w.going (λ e v h. going (f e v h))
  pub ended : Goes room a b ss w.ended (λ e v h. ending (f e v h))

-- ---- nodes

-- a node of this sort in the grown bank, that has this worth
pub record Made (a b : List Shape) (sort : Sort) (n : Node) (x : Environment → Values → Worth) : Type 0 where
  pub grows : Grows a b
  pub term : IsTerm b sort n
  pub is : (e : Environment) (v : Values) → Models b e v → v n.index ≡ x e v

-- a guard where a truth holds, and where it doesn't
pub record Halves (a b : List Shape) (guard truth yes no : Node) : Type 0 where
  pub grows : Grows a b
  pub yes_term : IsTerm b Truth yes
  pub no_term : IsTerm b Truth no
  pub yes_is : (e : Environment) (v : Values) → Models b e v
      → (v yes.index).truth ≡ cond (v guard.index).truth (v truth.index).truth false
  pub no_is : (e : Environment) (v : Values) → Models b e v
      → (v no.index).truth ≡ cond (v guard.index).truth (not (v truth.index).truth) false

-- events, and behind them one more
pub record Happened (a b : List Shape) (before after : Node) (x : Event) : Type 0 where
  pub grows : Grows a b
  pub term : IsTerm b Events after
  pub is : (e : Environment) (v : Values) → Models b e v → (v after.index).events ≡ (v before.index).events ++ x ∷ []
