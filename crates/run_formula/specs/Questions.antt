-- What is asked of a run along a log.
use Rattle.std.specs.Prelude.{◌≡◌, ◌↔◌, ◌⊎◌, ℕ, List, [], ◌∷◌, length, take, Bool, true, cond, nat_eq, Option, Some, None}
use Rattle.std.specs.HashMap.{get}
use Rattle.plain_data.specs.declared.fact.Fact.{Fact}
use Rattle.plain_data.specs.declared.fact.Fact.TheVariants as fact
use Rattle.plain_data.specs.declared.run.Event.{Event}
use Rattle.plain_data.specs.declared.run.Finish.{Finish}
use Rattle.plain_data.specs.declared.run.Finish.TheVariants as finish
use Rattle.plain_data.specs.declared.run.Run.{Run}
use Rattle.log_text.specs.Shown.{StaysIn, BeginsIn, IsBranch, IsCall, IsPrint, Returns, Exits, StopsBy, Holds}
use Rattle.c_means.specs.Runs.{finish_of}
use Rattle.core_tree.specs.States.{Done}
use Rattle.term_bank.specs.declared.sort.Sort.TheVariants.{Truth}
use Rattle.term_bank.specs.declared.sort.Node.{Node}
use Rattle.term_bank.specs.declared.shape.Shape.{Shape}
use Rattle.term_bank.specs.Terms.{IsTerm}
use Rattle.term_bank.specs.Values.{Environment, Values, Models, Grows, worth}
use Rattle.term_bank.specs.Images.{Images}
use Rattle.path_states.specs.declared.state.State.{State}
use Rattle.path_states.specs.States.{Held, done_in, standing}
use Rattle.run_formula.specs.declared.questions.Question.{Question}
use Rattle.run_formula.specs.declared.questions.Question.TheVariants as question

-- P holds of one of them at least
abbrev pub OneOf : {A : Type 0} → (A → Type 0) → List A → Type 0
OneOf P [] = ⊥
OneOf P (x ∷ xs) = P x ⊎ OneOf P xs

-- ---- what a fact speaks of

-- the events on which a fact holds
abbrev pub IsMeant : List ℕ → Fact → Event → Type 0
IsMeant log (fact.Branch at side) e = IsBranch at side e.what
IsMeant log (fact.BranchIn at side line) e = IsBranch at side e.what × BeginsIn log line e
IsMeant log (fact.Call at) e = IsCall at e.what
IsMeant log (fact.CallIn at line) e = IsCall at e.what × BeginsIn log line e
IsMeant log (fact.Print at line) e = IsPrint at e.what × BeginsIn log line e
IsMeant log _ e = ⊥

-- the events of which a question asks whether there is one
abbrev pub IsSought : List ℕ → Question → Event → Type 0
IsSought log question.Fits e = ⊥
IsSought log question.Left e = ⊥
IsSought log (question.Holds f) e = IsMeant log f e

-- the ends of a run on which a fact holds
abbrev pub EndsSo : Fact → Finish → Type 0
EndsSo (fact.StopAt kind at) f = f ≡ finish.Stopped kind at
EndsSo fact.Returned f = Returns f
EndsSo fact.Exited f = Exits f
EndsSo fact.Aborted f = f ≡ finish.Abort
EndsSo (fact.StopOf kind) f = StopsBy kind f
EndsSo _ f = ⊥

-- two ends that are the same, but for the value that `main` returns or the status of `exit`
abbrev pub SameEnd : Finish → Finish → Type 0
SameEnd (finish.Return x) (finish.Return y) = Unit {0}
SameEnd (finish.Exit x) (finish.Exit y) = Unit {0}
SameEnd f g = f ≡ g

-- ---- runs

-- what a run along a log has shown
abbrev pub shown : List ℕ → Done ℕ → Run
shown log d = record { printed = take d.out log; events = d.events; finish = finish_of d.kind d.value }

-- the answer is yes
abbrev pub Meets : List ℕ → Question → Done ℕ → Type 0
Meets log question.Fits d = StaysIn (shown log d).finish × (d.out ≡ length log)
Meets log question.Left d = StaysIn (shown log d).finish → ⊥
Meets log (question.Holds f) d = Holds log (shown log d) f

-- of a run that goes on along the log
abbrev pub MeetsOn : List ℕ → Question → Option (Done ℕ) → Type 0
MeetsOn log q None = ⊥
MeetsOn log q (Some d) = Meets log q d

-- ---- nodes

-- true where one of a node's events is sought
pub record TellsAt (b : List Shape) (log : List ℕ) (q : Question) (events : ℕ) (n : Node) : Type 0 where
  pub term : IsTerm b Truth n
  pub is : (e : Environment) (v : Values) → Models b e v
      → ((v n.index).truth ≡ true) ↔ OneOf (IsSought log q) (v events).events

-- the same of a shape's
pub record TellsShape (a b : List Shape) (log : List ℕ) (q : Question) (shape : Shape) (n : Node) : Type 0 where
  pub grows : Grows a b
  pub term : IsTerm b Truth n
  pub is : (e : Environment) (v : Values) → Models b e v
      → ((v n.index).truth ≡ true) ↔ OneOf (IsSought log q) (worth e v shape).events

-- the same of each node that has an entry
pub record AllTell (b : List Shape) (log : List ℕ) (q : Question) (told : Images) : Type 0 where
  pub tell : (n : ℕ) (node : Node) → get nat_eq told n ≡ Some node → TellsAt b log q n node

pub record TellsAll (a b : List Shape) (log : List ℕ) (q : Question) (told : Images) : Type 0 where
  pub grows : Grows a b
  pub all : AllTell b log q told

-- the first truth, or this
pub record OrMeant (a b : List Shape) (before : Node) (meant : Bool) (n : Node) : Type 0 where
  pub grows : Grows a b
  pub term : IsTerm b Truth n
  pub is : (e : Environment) (v : Values) → Models b e v → (v n.index).truth ≡ cond meant true (v before.index).truth

-- true where the answer is yes on what a state says of a run
pub record TellsState (a b : List Shape) (log : List ℕ) (q : Question) (s : State) (n : Node) : Type 0 where
  pub grows : Grows a b
  pub term : IsTerm b Truth n
  pub is : (e : Environment) (v : Values) → Models b e v → ((v n.index).truth ≡ true) ↔ Meets log q (done_in v s)

-- true where the answer is yes on one of those that stand
pub record TellsStates (a b : List Shape) (log : List ℕ) (q : Question) (ss : List State) (n : Node) : Type 0 where
  pub grows : Grows a b
  pub term : IsTerm b Truth n
  pub is : (e : Environment) (v : Values) → Models b e v
      → ((v n.index).truth ≡ true) ↔ OneOf (λ (h : Held). Meets log q h.done) (standing v ss)

-- the same, of a bank that has grown since
pub record IsAnswer (b : List Shape) (log : List ℕ) (q : Question) (ss : List State) (n : Node) : Type 0 where
  pub term : IsTerm b Truth n
  pub is : (e : Environment) (v : Values) → Models b e v
      → ((v n.index).truth ≡ true) ↔ OneOf (λ (h : Held). Meets log q h.done) (standing v ss)

-- of each fact, in order
abbrev pub AnswerAll : List Shape → List ℕ → List State → List Fact → List Node → Type 0
AnswerAll b log ss [] [] = Unit {0}
AnswerAll b log ss [] (n ∷ ns) = ⊥
AnswerAll b log ss (f ∷ fs) [] = ⊥
AnswerAll b log ss (f ∷ fs) (n ∷ ns) = IsAnswer b log (question.Holds f) ss n × AnswerAll b log ss fs ns

pub record AsksAll (a b : List Shape) (log : List ℕ) (ss : List State) (fs : List Fact) (ns : List Node) : Type 0 where
  pub grows : Grows a b
  pub answers : AnswerAll b log ss fs ns
