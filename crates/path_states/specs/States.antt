-- What states made of terms say of runs along a log.
use Rattle.std.specs.Prelude.{◌≡◌, ◌+◌, ◌≤◌, ◌<◌, ◌^◌, ℕ, ℤ, List, [], ◌∷◌, cond, Option, Some, None}
use Rattle.plain_data.specs.declared.run.Finish.TheVariants as finish
use Rattle.c_store.specs.declared.object.Object.{Object}
use Rattle.c_store.specs.Store.{Store}
use Rattle.c_means.specs.declared.kind.Kind.{Kind}
use Rattle.c_means.specs.declared.kind.Kind.TheVariants as kind
use Rattle.core_tree.specs.Numbers.{value_of_word}
use Rattle.core_tree.specs.States.{Done}
use Rattle.term_bank.specs.declared.sort.Sort.TheVariants.{Truth, Word, Memory, Events}
use Rattle.term_bank.specs.declared.sort.Node.{Node}
use Rattle.term_bank.specs.declared.shape.Shape.{Shape}
use Rattle.term_bank.specs.Terms.{IsTerm}
use Rattle.term_bank.specs.Values.{Environment, Values}
use Rattle.path_states.specs.declared.kinds.StateKind.{StateKind}
use Rattle.path_states.specs.declared.kinds.StateKind.TheVariants.{Known, Exited}
use Rattle.path_states.specs.declared.state.Number.{Number}
use Rattle.path_states.specs.declared.state.State.{State}

-- ---- what nodes say, by their values

-- the number that a word is in its type
abbrev pub number_in : Values → Number → ℤ
number_in v x = value_of_word x.word (v x.node.index).word

abbrev pub numbers_in : Values → List Number → List ℤ
numbers_in v [] = []
numbers_in v (x ∷ xs) = number_in v x ∷ numbers_in v xs

abbrev pub maybe_number : Values → Option Number → Option ℤ
maybe_number v None = None
maybe_number v (Some x) = Some (number_in v x)

-- numbers put on a stack, one behind the other
abbrev pub onto : Values → List ℤ → List Number → List ℤ
onto v zs [] = zs
onto v zs (x ∷ xs) = onto v (number_in v x ∷ zs) xs

-- ---- runs

-- A run along a log that is inside an expression: the operands that wait, the last one on top, and the state.
pub record Held : Type 0 where
  pub operands : List ℤ
  pub done : Done ℕ

abbrev pub kind_in : Values → StateKind → Kind
kind_in v (Known k) = k
kind_in v (Exited status) = kind.Ended (finish.Exit (number_in v status))

abbrev pub done_in : Values → State → Done ℕ
done_in v s = record {
  kind = kind_in v s.kind;
  value = maybe_number v s.value;
  store = (v s.memory.index).store;
  events = (v s.events.index).events;
  out = s.position;
}

-- what a state says of a run
abbrev pub run_in : Values → State → Held
run_in v s = record { operands = onto v [] s.operands; done = done_in v s }

-- what the states with a true guard say
abbrev pub standing : Values → List State → List Held
standing v [] = []
standing v (s ∷ ss) = cond (v s.guard.index).truth (run_in v s ∷ standing v ss) (standing v ss)

-- ---- what states are made of

pub record IsNumber (b : List Shape) (x : Number) : Type 0 where
  pub term : IsTerm b (Word x.word.width) x.node

abbrev pub AreNumbers : List Shape → List Number → Type 0
AreNumbers b [] = Unit {0}
AreNumbers b (x ∷ xs) = IsNumber b x × AreNumbers b xs

abbrev pub IsMaybeNumber : List Shape → Option Number → Type 0
IsMaybeNumber b None = Unit {0}
IsMaybeNumber b (Some x) = IsNumber b x

abbrev pub IsStateKind : List Shape → StateKind → Type 0
IsStateKind b (Known k) = Unit {0}
IsStateKind b (Exited status) = IsNumber b status

-- the state's nodes stand in the bank, each under its sort
pub record IsState (b : List Shape) (s : State) : Type 0 where
  pub guard : IsTerm b Truth s.guard
  pub kind : IsStateKind b s.kind
  pub memory : IsTerm b Memory s.memory
  pub value : IsMaybeNumber b s.value
  pub events : IsTerm b Events s.events
  pub operands : AreNumbers b s.operands

abbrev pub AreStates : List Shape → List State → Type 0
AreStates b [] = Unit {0}
AreStates b (s ∷ ss) = IsState b s × AreStates b ss

-- ---- of which environments and runs is spoken

-- so many places from the base on have numbers below 2^32, as object numbers have
pub record IsRoomy (room : ℕ) (e : Environment) : Type 0 where
  pub places : e.base + room ≤ 2 ^ 32

-- each live object has fewer than 2^32 bytes, so that none reaches into the next one's addresses
pub record IsSized (s : Store) : Type 0 where
  pub sizes : (p : ℕ) (o : Object) → s.objects p ≡ Some o → o.size < 2 ^ 32

abbrev pub AllSized : Option Held → Type 0
AllSized None = Unit {0}
AllSized (Some h) = IsSized h.done.store
