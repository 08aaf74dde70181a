-- What is asked of a program's runs along a log, as clauses.
use Rattle.std.specs.Prelude.{◌≡◌, ◌↔◌, ◌≤◌, ◌<◌, ◌+◌, ◌++◌, ◌&&◌, ℕ, zero, suc, ℤ, Bool, true, false, cond, nat_eq}
use Rattle.std.specs.Prelude.{List, [], ◌∷◌, length, Option, Some, None, slice_get, unwrap_or, IfSome}
use Rattle.std.specs.Ordering.{int_eq}
use Rattle.plain_data.specs.declared.fact.Fact.{Fact}
use Rattle.plain_data.specs.Worlds.{WorldTables}
use Rattle.cnf_core.specs.Literal.{Literal}
use Rattle.cnf_core.specs.Truth.{Valuation, formula_holds}
use Rattle.proof_check.specs.Steps.{Step}
use Rattle.cdcl.specs.Stores.{Store}
use Rattle.gates.specs.declared.bit.Bit.{Bit}
use Rattle.gates.specs.declared.bit.Bit.TheVariants.{Known, Unknown}
use Rattle.gates.specs.Nets.{bit_holds, opposite}
use Rattle.term_bank.specs.declared.sort.Node.{Node}
use Rattle.term_bank.specs.declared.shape.Shape.{Shape}
use Rattle.term_bank.specs.Banks.{IsBank}
use Rattle.term_bank.specs.Values.{Environment, Grows}
use Rattle.flat_reads.specs.Flats.{IsHonest}
use Rattle.bitvectors.specs.declared.blasting.Blasted.{Blasted}
use Rattle.bitvectors.specs.Blasts.{HasWidth, IsBlasted, IsMore, IsOfWorld, IsReady, Shows, joined}
use Rattle.bitvectors.specs.Reads.{IsNotPlain}
use Rattle.path_states.specs.States.{AreStates}
use Rattle.log_expr.specs.Tours.{Tour}
use Rattle.run_formula.specs.declared.formula.RunFormula.{RunFormula}
use Rattle.run_formula.specs.declared.watches.Watch.{Watch}
use Rattle.run_formula.specs.Formula.{AnswersOther, FitsIn, HoldsIn, IsFormula, SawOtherIn}
use Rattle.query_core.specs.declared.others.Other.{Other as OtherLiteral}
use Rattle.query_core.specs.declared.others.Made.{Made}
use Rattle.query_core.specs.declared.query.Query.{Query}
use Rattle.query_core.specs.declared.target.Target.{Target}
use Rattle.query_core.specs.declared.target.Target.TheVariants.{Fits, Having, Lacking, Other}

-- ---- facts by number

-- the fact of a number, from 1 on
abbrev pub fact_at : List Fact → ℕ → Option Fact
fact_at fs zero = None
fact_at fs (suc n) = slice_get fs n

-- there is a fact, and P holds of it
abbrev pub OfFact : (Fact → Type 0) → Option Fact → Type 0
OfFact P None = ⊥
OfFact P (Some f) = P f

-- the watched variable of a number, from 1 on
abbrev pub watch_at : List Watch → ℕ → Option Watch
watch_at ws zero = None
watch_at ws (suc n) = slice_get ws n

-- there is one, and P holds of it
abbrev pub OfWatch : (Watch → Type 0) → Option Watch → Type 0
OfWatch P None = ⊥
OfWatch P (Some w) = P w

-- in the world of an environment the run fits, and is as the target asks
abbrev pub IsMet : Tour → List Fact → List Watch → Environment → Target → Type 0
IsMet t fs ws e Fits = FitsIn t e
IsMet t fs ws e (Having k) = FitsIn t e × OfFact (HoldsIn t e) (fact_at fs k)
IsMet t fs ws e (Lacking k) = FitsIn t e × OfFact (λ f. HoldsIn t e f → ⊥) (fact_at fs k)
IsMet t fs ws e (Other k x) = FitsIn t e × OfWatch (λ w. SawOtherIn t e w x) (watch_at ws k)

-- ---- bits and clauses

-- A query's roots: that the run fits, at index 0, and each fact at its number.
abbrev pub asked_nodes : RunFormula → List Node
asked_nodes r = r.fits ∷ r.facts

-- the lowest bit of a truth's word, which has the truth's value: 1 is the greatest number that the word spells
abbrev pub first_bit : List Bit → Bit
first_bit [] = Known false
first_bit (b ∷ bs) = b

abbrev pub root_bit : List (List Bit) → ℕ → Bit
root_bit roots n = first_bit (unwrap_or (slice_get roots n) [])

-- The clauses that say that a bit is true: the one of its literal alone; none where it is known to be true, and the
-- empty one where it is known not to be.
abbrev pub claimed : Bit → List (List Literal)
claimed (Known true) = []
claimed (Known false) = [] ∷ []
claimed (Unknown l) = (l ∷ []) ∷ []

-- the clauses that say that the run fits
abbrev pub run_clauses : Blasted → List (List Literal)
run_clauses b = b.formula ++ claimed (root_bit b.roots 0)

-- the bit that says what a target asks of a run that fits; a question on a value has none among the roots
abbrev pub asked_bit : List (List Bit) → Target → Bit
asked_bit roots Fits = Known true
asked_bit roots (Having k) = root_bit roots k
asked_bit roots (Lacking k) = opposite (root_bit roots k)
asked_bit roots (Other k x) = Known false

-- ---- literals of questions on values

-- the literal is that of a watched variable and a value
abbrev pub is_of : OtherLiteral → ℕ → ℤ → Bool
is_of o k x = nat_eq o.watch k && int_eq o.value x

-- the first that is
abbrev pub other_at : List OtherLiteral → ℕ → ℤ → Option OtherLiteral
other_at [] k x = None
other_at (o ∷ os) k x = cond (is_of o k x) (Some o) (other_at os k x)

-- it stands at this index
pub record IsFoundAt (os : List OtherLiteral) (k : ℕ) (x : ℤ) (i : ℕ) : Type 0 where
  pub other : OtherLiteral
  pub at : slice_get os i ≡ Some other
  pub is : other_at os k x ≡ Some other

-- its clauses, and its bit; where there is none it is known to be false
abbrev pub other_clauses : Option OtherLiteral → List (List Literal)
other_clauses None = []
other_clauses (Some o) = o.more.formula

abbrev pub other_bit : Option OtherLiteral → Bit
other_bit None = Known false
other_bit (Some o) = root_bit o.more.roots 0

-- ---- claims

-- what a claim's last clause stands behind: the clauses that say that the run fits, and those that define a value's literal
abbrev pub premises : Query → Target → List (List Literal)
premises q Fits = q.solver.clauses
premises q (Having k) = q.solver.clauses
premises q (Lacking k) = q.solver.clauses
premises q (Other k x) = q.solver.clauses ++ other_clauses (other_at q.others k x)

-- the bit that is to be true
abbrev pub wanted_bit : Query → Target → Bit
wanted_bit q Fits = Known true
wanted_bit q (Having k) = root_bit q.blasted.roots k
wanted_bit q (Lacking k) = opposite (root_bit q.blasted.roots k)
wanted_bit q (Other k x) = other_bit (other_at q.others k x)

-- the clauses that say that the run fits and is as the target asks
abbrev pub claim : Query → Target → List (List Literal)
claim q x = premises q x ++ claimed (wanted_bit q x)

-- those of a literal
abbrev pub other_claim : Query → OtherLiteral → List (List Literal)
other_claim q o = (q.solver.clauses ++ o.more.formula) ++ claimed (root_bit o.more.roots 0)

-- the target's literal was made, if it has one of its own
abbrev pub IsDefined : Query → Target → Type 0
IsDefined q Fits = Unit {0}
IsDefined q (Having k) = Unit {0}
IsDefined q (Lacking k) = Unit {0}
IsDefined q (Other k x) = (o : OtherLiteral) × (other_at q.others k x ≡ Some o)

-- the target asks of no value
abbrev pub IsOfRun : Target → Type 0
IsOfRun Fits = Unit {0}
IsOfRun (Having k) = Unit {0}
IsOfRun (Lacking k) = Unit {0}
IsOfRun (Other k x) = ⊥

-- the one step that reads the empty clause of this number
abbrev pub refuting : ℕ → List Step
refuting n = (record { clause = []; hints = n ∷ [] }) ∷ []

-- nothing is kept, where nothing was
abbrev pub KeepsNone : Store → Store → Type 0
KeepsNone old new = old.kept ≡ [] → new.kept ≡ []

-- ---- queries

-- a query over these clauses
pub record IsMade (b : Blasted) (r : RunFormula) (shapes : List Shape) (q : Query) : Type 0 where
  pub same : q.blasted ≡ b
  pub clauses : q.solver.clauses ≡ run_clauses b
  pub number : q.last ≡ length (run_clauses b) + 1
  pub formula : q.formula ≡ r
  pub bank : q.bank ≡ Some shapes
  pub others : q.others ≡ []

-- a bank that has grown since the clauses were made, in which more terms can be made
pub record IsBankOf (first : List Shape) (b : Blasted) (r : RunFormula) (bank : List Shape) : Type 0 where
  pub stands : IsBank bank
  pub grows : Grows first bank
  pub ready : IsReady bank b
  pub ends : AreStates bank r.states

-- The literal of a watched variable and a value: a term that is true where some print saw another value, and clauses that
-- define it behind the query's.
pub record IsMadeOf (old bank : List Shape) (r : RunFormula) (b : Blasted) (k : ℕ) (x : ℤ) (o : OtherLiteral) : Type 0 where
  pub watch : o.watch ≡ k
  pub value : o.value ≡ x
  pub seen : Watch
  pub numbered : watch_at r.watches k ≡ Some seen
  pub node : Node
  pub told : List Shape
  pub answers : AnswersOther old told r seen x node
  pub grows : Grows told bank
  pub stands : IsBank bank
  pub more : IsMore bank (node ∷ []) b o.more

-- what was made of a bank
pub record HasMade (old : List Shape) (r : RunFormula) (b : Blasted) (k : ℕ) (x : ℤ) (m : Made) : Type 0 where
  pub grows : Grows old m.bank
  pub stands : IsBank m.bank
  pub is : IfSome m.other (IsMadeOf old m.bank r b k x)

-- it was made at some time since the query was
pub record IsLiteral (first : List Shape) (r : RunFormula) (b : Blasted) (k : ℕ) (x : ℤ) (o : OtherLiteral) : Type 0 where
  pub old : List Shape
  pub bank : List Shape
  pub since : Grows first old
  pub made : IsMadeOf old bank r b k x o

-- The solver has the clauses that say that the run fits, of whose models a world can be decoded; the bank has grown since
-- they were made, unless it was lost; and each literal that was made is that of its watched variable and value.
pub record IsWhole (q : Query) : Type 0 where
  pub words : HasWidth 64 q.blasted.inputs.words
  pub bytes : HasWidth 8 q.blasted.inputs.bytes
  pub clauses : q.solver.clauses ≡ run_clauses q.blasted
  pub number : q.last ≡ length q.solver.clauses + 1
  pub first : List Shape
  pub blasted : IsBlasted first (asked_nodes q.formula) q.blasted
  pub bank : IfSome q.bank (IsBankOf first q.blasted q.formula)
  pub literals : (k : ℕ) (x : ℤ) (o : OtherLiteral) → other_at q.others k x ≡ Some o → IsLiteral first q.formula q.blasted k x o

-- a number that the target names is that of a fact, or of a watched variable
abbrev pub IsWatched : Query → ℕ → Type 0
IsWatched q k = (1 ≤ k) × (k ≤ length q.formula.watches)

abbrev pub IsAbout : Query → Target → Type 0
IsAbout q Fits = Unit {0}
IsAbout q (Having k) = (1 ≤ k) × (k < length q.blasted.roots)
IsAbout q (Lacking k) = (1 ≤ k) × (k < length q.blasted.roots)
IsAbout q (Other k x) = IsWatched q k

-- the world is decoded from a valuation: where this is a model of the terms' clauses, the terms have on the world the
-- values that their bits spell
pub record IsDecoded (b : Blasted) (v : Valuation) (world : WorldTables) : Type 0 where
  pub shows : (shapes : List Shape) (roots : List Node) → IsBlasted shapes roots b
      → formula_holds v b.formula ≡ true → Shows shapes roots b v world

-- each fact's bit is true exactly where the fact holds on the run
pub record TellsFacts (t : Tour) (fs : List Fact) (roots : List (List Bit)) (v : Valuation) (e : Environment)
    : Type 0 where
  pub is : (k : ℕ) (f : Fact) → fact_at fs k ≡ Some f → (bit_holds v (root_bit roots k) ≡ true) ↔ HoldsIn t e f

-- a model of the query's clauses that tells the facts of the run
pub record HasRun (t : Tour) (fs : List Fact) (q : Query) (e : Environment) : Type 0 where
  pub model : Valuation
  pub holds : formula_holds model q.solver.clauses ≡ true
  pub tells : TellsFacts t fs q.blasted.roots model e

-- the run fits, and the valuation tells its facts
pub record FitsAs (t : Tour) (fs : List Fact) (q : Query) (v : Valuation) (e : Environment) : Type 0 where
  pub fits : FitsIn t e
  pub tells : TellsFacts t fs q.blasted.roots v e

-- the formula of a program's runs, in a bank that has grown until the clauses were made
pub record HasFormula (t : Tour) (fs : List Fact) (r : RunFormula) (first : List Shape) : Type 0 where
  pub begun : List Shape
  pub given : List Shape
  pub is : IsFormula t begun given fs r
  pub grows : Grows given first

-- The models of a query's clauses are the runs that fit. For each honest environment whose run fits there is a model
-- that tells its facts. On the world that is decoded from a model the run fits, and the model tells its facts.
pub record IsQuery (t : Tour) (fs : List Fact) (q : Query) : Type 0 where
  pub whole : IsWhole q
  pub run : HasFormula t fs q.formula whole.first
  pub count : length q.blasted.roots ≡ suc (length fs)
  pub models : (e : Environment) → IsHonest e → FitsIn t e → HasRun t fs q e
  pub worlds : (v : Valuation) (world : WorldTables) → formula_holds v q.solver.clauses ≡ true
      → IsDecoded q.blasted v world → (e : Environment) → IsOfWorld world e → FitsAs t fs q v e

-- what stands for a formula's truths without reads isn't plain, in a bank that has grown
pub record IsUnwalked (bank : List Shape) (r : RunFormula) : Type 0 where
  pub grown : List Shape
  pub grows : Grows bank grown
  pub not_plain : IsNotPlain grown (asked_nodes r)

-- ---- queries that go on

abbrev pub OfSome : {A : Type 0} → Option A → (A → Type 0) → Type 0
OfSome None P = ⊥
OfSome (Some x) P = P x

-- with this bank, and these literals
abbrev pub with_others : Query → Option (List Shape) → List OtherLiteral → Query
with_others q bank others = record {
  blasted = q.blasted;
  solver = q.solver;
  last = q.last;
  formula = q.formula;
  bank = bank;
  others = others;
}

-- It is a query of the same runs over the same clauses and watched variables, and each claim whose literal was made has
-- the same clauses.
pub record Keeps (old new : Query) : Type 0 where
  pub solver : new.solver ≡ old.solver
  pub watches : new.formula.watches ≡ old.formula.watches
  pub about : (x : Target) → IsAbout old x → IsAbout new x
  pub whole : IsWhole old → IsWhole new
  pub query : (t : Tour) (fs : List Fact) → IsQuery t fs old → IsQuery t fs new
  pub claims : (x : Target) → IsDefined old x → IsDefined new x × (claim new x ≡ claim old x)

-- whose solver keeps these steps
abbrev pub with_kept : Query → List Step → Query
with_kept q steps = record {
  blasted = q.blasted;
  solver = record { clauses = q.solver.clauses; kept = steps };
  last = q.last;
  formula = q.formula;
  bank = q.bank;
  others = q.others;
}

-- It is the same query of the same runs, but for the steps that its solver keeps.
pub record GoesOn (old new : Query) : Type 0 where
  pub same : new ≡ with_kept old new.solver.kept
  pub whole : IsWhole old → IsWhole new
  pub query : (t : Tour) (fs : List Fact) → IsQuery t fs old → IsQuery t fs new

-- what is asked for without a search leaves a query as it was, unless a literal is made
abbrev pub StaysFor : Target → Query → Query → Type 0
StaysFor Fits old new = new ≡ old
StaysFor (Having k) old new = new ≡ old
StaysFor (Lacking k) old new = new ≡ old
StaysFor (Other k x) old new = Keeps old new

-- a question on facts leaves the query as it was, but for the steps that are kept
abbrev pub KeepsFor : Target → Query → Query → Type 0
KeepsFor Fits old new = GoesOn old new
KeepsFor (Having k) old new = GoesOn old new
KeepsFor (Lacking k) old new = GoesOn old new
KeepsFor (Other k x) old new = Keeps old new

-- the query of which the answer to a target speaks: behind a question on a value it has its literal
abbrev pub replying : Target → Query → Query → Query
replying Fits old new = old
replying (Having k) old new = old
replying (Lacking k) old new = old
replying (Other k x) old new = new
