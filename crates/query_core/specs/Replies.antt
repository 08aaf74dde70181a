-- What the answers to questions mean.
use Rattle.std.specs.Prelude.{◌≡◌, ◌++◌, ℕ, true, List, [], length}
use Rattle.plain_data.specs.declared.fact.Fact.{Fact}
use Rattle.plain_data.specs.Worlds.{WorldTables}
use Rattle.cnf_core.specs.Literal.{Literal}
use Rattle.cnf_core.specs.Truth.{Valuation, formula_holds}
use Rattle.proof_check.specs.Steps.{Step}
use Rattle.proof_check.specs.declared.steps.Trail.{Trail}
use Rattle.proof_check.specs.Refutations.{IsRefutation, IsTrail}
use Rattle.cdcl.specs.Tidy.{AreTidy, units}
use Rattle.cdcl.specs.Stores.{Store, KeepsMore}
use Rattle.gates.specs.declared.bit.Bit.{Bit}
use Rattle.term_bank.specs.Values.{Environment}
use Rattle.flat_reads.specs.Flats.{IsHonest}
use Rattle.bitvectors.specs.declared.blasting.Blasted.{Blasted}
use Rattle.bitvectors.specs.Blasts.{IsOfWorld}
use Rattle.log_expr.specs.Tours.{Tour}
use Rattle.query_core.specs.declared.query.Query.{Query}
use Rattle.query_core.specs.declared.target.Target.{Target}
use Rattle.query_core.specs.declared.target.Target.TheVariants.{Fits, Having, Lacking, Other}
use Rattle.query_core.specs.declared.reply.Reply.{Reply}
use Rattle.query_core.specs.declared.reply.Reply.TheVariants.{World, Refuted, Spent}
use Rattle.query_core.specs.Claims.{IsMet, IsDecoded, IsQuery, claim, claimed, premises}

-- on the world the run fits and is as the target asks
pub record IsWitness (q : Query) (x : Target) (world : WorldTables) : Type 0 where
  pub met : (t : Tour) (fs : List Fact) → IsQuery t fs q → (e : Environment) → IsOfWorld world e → IsMet t fs q.formula.watches e x

-- the claim's clauses are refuted, so the target is met in no honest environment
pub record Refutes (q : Query) (x : Target) (steps : List Step) : Type 0 where
  pub refutes : IsRefutation (claim q x) steps
  pub never : (t : Tour) (fs : List Fact) → IsQuery t fs q → (e : Environment) → IsHonest e → IsMet t fs q.formula.watches e x → ⊥

-- exactly so many steps over clauses
pub record SpendsOver (clauses : List (List Literal)) (n : ℕ) (trail : Trail) : Type 0 where
  pub is_trail : IsTrail clauses trail.kept trail.steps
  pub kept_tidy : AreTidy clauses trail.kept
  pub steps_tidy : AreTidy clauses trail.steps
  pub count : length trail.steps ≡ n

-- over the clauses that say that the run fits
abbrev pub Spends : Query → ℕ → Trail → Type 0
Spends q n trail = SpendsOver q.solver.clauses n trail

-- behind these steps, which were kept from the questions before
pub record SpendsBehind (before : List Step) (clauses : List (List Literal)) (n : ℕ) (trail : Trail) : Type 0 where
  pub spends : SpendsOver clauses n trail
  pub kept : trail.kept ≡ before

-- the steps that are kept for a question: none for one on a value, which has a solver of its own
abbrev pub kept_for : Query → Target → List Step
kept_for q Fits = q.solver.kept
kept_for q (Having k) = q.solver.kept
kept_for q (Lacking k) = q.solver.kept
kept_for q (Other k x) = []

-- A trail is over the claim's clauses without its last one.
abbrev pub IsReply : Query → Target → ℕ → Reply → Type 0
IsReply q x n (World world) = IsWitness q x world
IsReply q x n (Refuted steps) = Refutes q x steps
IsReply q x n (Spent trail) = SpendsBehind (kept_for q x) (premises q x) n trail

-- the steps that are kept behind a question on facts: those of its trail too, where it has one
abbrev pub KeepsBehind : List Step → List Step → Reply → Type 0
KeepsBehind old new (World world) = KeepsMore old new
KeepsBehind old new (Refuted steps) = KeepsMore old new
KeepsBehind old new (Spent trail) = new ≡ trail.kept ++ trail.steps

abbrev pub KeepsBehindFor : Target → Query → Query → Reply → Type 0
KeepsBehindFor Fits old new reply = KeepsBehind old.solver.kept new.solver.kept reply
KeepsBehindFor (Having k) old new reply = KeepsBehind old.solver.kept new.solver.kept reply
KeepsBehindFor (Lacking k) old new reply = KeepsBehind old.solver.kept new.solver.kept reply
KeepsBehindFor (Other k x) old new reply = Unit {0}

-- ---- of a solver

-- a world that is decoded from a model of the clauses, and of more
pub record IsFound (clauses more : List (List Literal)) (b : Blasted) (world : WorldTables) : Type 0 where
  pub model : Valuation
  pub holds : formula_holds model (clauses ++ more) ≡ true
  pub decoded : IsDecoded b model world

-- under assumptions
abbrev pub IsSought : Store → Blasted → List Literal → ℕ → Reply → Type 0
IsSought s b assume n (World world) = IsFound s.clauses (units assume) b world
IsSought s b assume n (Refuted steps) = IsRefutation (s.clauses ++ units assume) steps
IsSought s b assume n (Spent trail) = SpendsBehind s.kept s.clauses n trail

-- where a bit is to be true
abbrev pub Seeks : Store → Blasted → Bit → ℕ → Reply → Type 0
Seeks s b bit n (World world) = IsFound s.clauses (claimed bit) b world
Seeks s b bit n (Refuted steps) = IsRefutation (s.clauses ++ claimed bit) steps
Seeks s b bit n (Spent trail) = SpendsBehind s.kept s.clauses n trail
