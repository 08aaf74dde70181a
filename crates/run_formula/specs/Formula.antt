-- What the formula of a program's runs says of each world.
use Rattle.std.specs.Prelude.{◌≡◌, ◌↔◌, ℤ, List, [], ◌∷◌, true, nat_eq, Option, Some, None}
use Rattle.std.specs.List.{starts_with}
use Rattle.plain_data.specs.declared.fact.Fact.{Fact}
use Rattle.plain_data.specs.declared.run.Run.{Run}
use Rattle.log_text.specs.Shown.{StaysIn, Fits, Holds}
use Rattle.core_tree.specs.Programs.{run_of}
use Rattle.term_bank.specs.declared.sort.Sort.TheVariants.{Truth}
use Rattle.term_bank.specs.declared.sort.Node.{Node}
use Rattle.term_bank.specs.declared.shape.Shape.{Shape}
use Rattle.term_bank.specs.Terms.{IsTerm}
use Rattle.term_bank.specs.Values.{Environment, Values, Models, Grows}
use Rattle.summary_compose.specs.Summaries.{world_in}
use Rattle.log_expr.specs.Tours.{Tour}
use Rattle.path_states.specs.declared.state.State.{State}
use Rattle.run_formula.specs.Watched.{IsSeen, SawOther, SawThis}
use Rattle.run_formula.specs.Questions.{OneOf}
use Rattle.run_formula.specs.Sighted.{observed_in}
use Rattle.run_formula.specs.declared.observing.Observation.{Observation}
use Rattle.run_formula.specs.declared.seen.Seen.{Seen}
use Rattle.run_formula.specs.Whole.{RunsAll}
use Rattle.run_formula.specs.declared.watches.Watch.{Watch}
use Rattle.run_formula.specs.declared.formula.RunFormula.{RunFormula}

-- ---- the program's run in the world of an environment

-- P holds of the run
abbrev pub OfRun : (Run → Type 0) → Option Run → Type 0
OfRun P None = ⊥
OfRun P (Some r) = P r

abbrev pub the_run : Tour → Environment → Option Run
the_run t e = run_of t.core (world_in e) t.limits t.depth

-- it prints exactly the log and stays within the bounds
abbrev pub FitsIn : Tour → Environment → Type 0
FitsIn t e = OfRun (Fits t.log) (the_run t e)

-- it leaves the bounds, and what it has printed begins the log
abbrev pub LeavesIn : Tour → Environment → Type 0
LeavesIn t e = OfRun (λ r. (StaysIn r.finish → ⊥) × (starts_with nat_eq t.log r.printed ≡ true)) (the_run t e)

abbrev pub HoldsIn : Tour → Environment → Fact → Type 0
HoldsIn t e f = OfRun (λ r. Holds t.log r f) (the_run t e)

-- some print of the watched variable saw this, or shows no number in its place
abbrev pub SawIn : Tour → Environment → Watch → Option ℤ → Type 0
SawIn t e w x = OfRun (λ r. SawThis t.log r w x) (the_run t e)

-- some print of the watched variable saw another value than this
abbrev pub SawOtherIn : Tour → Environment → Watch → ℤ → Type 0
SawOtherIn t e w x = OfRun (λ r. SawOther t.log r w x) (the_run t e)

-- ---- truths over the world

-- a truth that says so in each world
pub record SaysWhere (b : List Shape) (P : Environment → Type 0) (n : Node) : Type 0 where
  pub term : IsTerm b Truth n
  pub is : (e : Environment) (v : Values) → Models b e v → ((v n.index).truth ≡ true) ↔ P e

-- a truth that says of each world whose run fits whether the fact holds on it
pub record SaysFact (t : Tour) (b : List Shape) (f : Fact) (n : Node) : Type 0 where
  pub term : IsTerm b Truth n
  pub is : (e : Environment) (v : Values) → Models b e v → FitsIn t e → ((v n.index).truth ≡ true) ↔ HoldsIn t e f

-- of each fact, in order
abbrev pub SayFacts : Tour → List Shape → List Fact → List Node → Type 0
SayFacts t b [] [] = Unit {0}
SayFacts t b [] (n ∷ ns) = ⊥
SayFacts t b (f ∷ fs) [] = ⊥
SayFacts t b (f ∷ fs) (n ∷ ns) = SaysFact t b f n × SayFacts t b fs ns

-- a truth that says of each world whose run fits whether some print of the watched variable saw another value than this
pub record SaysOther (t : Tour) (b : List Shape) (w : Watch) (x : ℤ) (n : Node) : Type 0 where
  pub term : IsTerm b Truth n
  pub is : (e : Environment) (v : Values) → Models b e v → FitsIn t e → ((v n.index).truth ≡ true) ↔ SawOtherIn t e w x

-- ---- what is observed of a watched variable

abbrev pub IsSeenIf : List Shape → Option Seen → Type 0
IsSeenIf b None = Unit {0}
IsSeenIf b (Some x) = IsSeen b x

-- the truth and the word stand in the bank
abbrev pub AreObservations : List Shape → List Observation → Type 0
AreObservations b [] = Unit {0}
AreObservations b (o ∷ os) = IsTerm b Truth o.happens × (IsSeenIf b o.seen × AreObservations b os)

-- the observation's truth holds, and this is what is seen
abbrev pub IsObserved : Values → Option ℤ → Observation → Type 0
IsObserved v x o = ((v o.happens.index).truth ≡ true) × (observed_in v o.seen ≡ x)

-- in each world whose run fits, some print of the watched variable sees exactly what is observed
pub record SaysSeen (t : Tour) (b : List Shape) (w : Watch) (os : List Observation) : Type 0 where
  pub is : (e : Environment) (v : Values) → Models b e v → FitsIn t e → (x : Option ℤ)
      → SawIn t e w x ↔ OneOf (IsObserved v x) os

-- the ends of all runs, in a bank that has grown since
pub record HasEnds (t : Tour) (b : List Shape) (ss : List State) : Type 0 where
  pub start : List Shape
  pub ended : List Shape
  pub runs : RunsAll t start ended ss
  pub grown : Grows ended b

pub record IsFormula (t : Tour) (a b : List Shape) (fs : List Fact) (r : RunFormula) : Type 0 where
  pub grows : Grows a b
  pub fits : SaysWhere b (FitsIn t) r.fits
  pub left : SaysWhere b (LeavesIn t) r.left
  pub facts : SayFacts t b fs r.facts
  pub ends : HasEnds t b r.states
  pub log : r.log ≡ t.log

-- The answer to a question on the ends of a run formula: whatever the formula's program and bank, it says of each world
-- whose run fits whether some print of the watched variable saw another value.
pub record AnswersOther (a b : List Shape) (r : RunFormula) (w : Watch) (x : ℤ) (n : Node) : Type 0 where
  pub grows : Grows a b
  pub term : IsTerm b Truth n
  pub says : (t : Tour) (c d : List Shape) (fs : List Fact) → IsFormula t c d fs r → Grows d a → SaysOther t b w x n

-- What is observed on the ends of a run formula, whatever the formula's program and bank.
pub record Observes (a b : List Shape) (r : RunFormula) (w : Watch) (os : List Observation) : Type 0 where
  pub grows : Grows a b
  pub terms : AreObservations b os
  pub says : (t : Tour) (c d : List Shape) (fs : List Fact) → IsFormula t c d fs r → Grows d a → SaysSeen t b w os
