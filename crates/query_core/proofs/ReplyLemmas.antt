-- What the answers to questions mean.
use Rattle.std.proofs.Common.{◌≡◌, ◌<◌, ◌≤◌, ◌+◌, ◌++◌, ◌∷◌, [], ℕ, zero, suc, List, Option, Some, None, Bool, true, false, not, length, refl, sym, ap, ◌∙◌, subst, arith, append-nil}
use Rattle.std.specs.List.{slice_get}
use Rattle.plain_data.specs.declared.fact.Fact.{Fact}
use Rattle.plain_data.specs.Worlds.{WorldTables}
use Rattle.cnf_core.specs.Literal.{Literal}
use Rattle.cnf_core.specs.Truth.{Valuation, formula_holds}
use Rattle.proof_check.specs.Steps.{Step}
use Rattle.proof_check.specs.Refutations.{IsRefutation}
use Rattle.proof_check.proofs.Soundness.{refutation-sound}
use Rattle.cdcl.specs.Tidy.{units}
use Rattle.cdcl.specs.Stores.{Store, KeepsMore}
use Rattle.gates.specs.declared.bit.Bit.{Bit}
use Rattle.gates.specs.declared.bit.Bit.TheVariants.{Known}
use Rattle.gates.specs.Nets.{bit_holds, opposite}
use Rattle.gates.proofs.BitLemmas.{opposite-holds}
use Rattle.term_bank.specs.Values.{Environment}
use Rattle.flat_reads.specs.Flats.{IsHonest}
use Rattle.bitvectors.specs.declared.blasting.Blasted.{Blasted}
use Rattle.log_expr.specs.Tours.{Tour}
use Rattle.run_formula.specs.declared.watches.Watch.{Watch}
use Rattle.run_formula.specs.Formula.{FitsIn, HoldsIn}
use Rattle.query_core.specs.declared.query.Query.{Query}
use Rattle.query_core.specs.declared.target.Target.{Target}
use Rattle.query_core.specs.declared.target.Target.TheVariants.{Fits, Having, Lacking, Other}
use Rattle.query_core.specs.declared.reply.Reply.{Reply}
use Rattle.query_core.specs.declared.reply.Reply.TheVariants.{World, Refuted, Spent}
use Rattle.query_core.specs.Claims.{fact_at, OfFact, IsMet, root_bit, claimed, asked_bit, wanted_bit, premises, claim, refuting, IsOfRun, IsAbout, IsDecoded, TellsFacts, IsQuery}
use Rattle.query_core.specs.Replies.{IsWitness, Refutes, SpendsBehind, kept_for, IsReply, IsSought, Seeks}
use Rattle.query_core.proofs.BitLemmas.{holds-both, holds-parts, empty-refuted}

-- ---- facts by number

get-fact : (fs : List Fact) (n : ℕ) → n < length fs → (f : Fact) × (slice_get fs n ≡ Some f)
get-fact [] n h = absurd (omega (arith, h))
get-fact (f ∷ fs) zero h = (f, refl)
get-fact (f ∷ fs) (suc n) h = get-fact fs n (omega (arith, h))

found-fact : (fs : List Fact) (k : ℕ) → 1 ≤ k → k < suc (length fs) → (f : Fact) × (fact_at fs k ≡ Some f)
found-fact fs zero h less = absurd (omega (arith, h))
found-fact fs (suc n) h less = get-fact fs n (omega (arith, less))

of-fact : (P : Fact → Type 0) (o : Option Fact) (f : Fact) → o ≡ Some f → P f → OfFact P o
of-fact P o f e p = subst (OfFact P) (sym e) p

record IsOne (P : Fact → Type 0) (o : Option Fact) : Type 0 where
  one : Fact
  is : o ≡ Some one
  holds : P one

one-of : (P : Fact → Type 0) (o : Option Fact) → OfFact P o → IsOne P o
one-of P None h = absurd h
one-of P (Some f) h = record { one = f; is = refl; holds = h }

-- ---- bits

not-both : (v : Valuation) (x : Bit) → bit_holds v (opposite x) ≡ true → bit_holds v x ≡ true → ⊥
not-both v x h k =
    let both : not (bit_holds v x) ≡ true = sym (opposite-holds v x) ∙ h in
    let wrong : false ≡ true = sym (ap (λ b. not b) k) ∙ both in absurd (cc)

other-holds : (v : Valuation) (x : Bit) → (bit_holds v x ≡ true → ⊥) → bit_holds v (opposite x) ≡ true
other-holds v x h = opposite-holds v x ∙ turned (bit_holds v x) h
  where
    turned : (b : Bool) → (b ≡ true → ⊥) → not b ≡ true
    turned true no_more = absurd (no_more refl)
    turned false no_more = refl

-- ---- the laws

having : (t : Tour) (fs : List Fact) (roots : List (List Bit)) (v : Valuation) (e : Environment) (k : ℕ)
    → length roots ≡ suc (length fs) → 1 ≤ k → k < length roots
    → TellsFacts t fs roots v e → bit_holds v (root_bit roots k) ≡ true → OfFact (HoldsIn t e) (fact_at fs k)
having t fs roots v e k count one within tells h =
    let found = found-fact fs k one (omega (arith, count, within)) in
    of-fact (HoldsIn t e) (fact_at fs k) found.0 found.1 ((tells.is k found.0 found.1).0 h)

lacking : (t : Tour) (fs : List Fact) (roots : List (List Bit)) (v : Valuation) (e : Environment) (k : ℕ)
    → length roots ≡ suc (length fs) → 1 ≤ k → k < length roots
    → TellsFacts t fs roots v e → bit_holds v (opposite (root_bit roots k)) ≡ true
    → OfFact (λ f. HoldsIn t e f → ⊥) (fact_at fs k)
lacking t fs roots v e k count one within tells h =
    let found = found-fact fs k one (omega (arith, count, within)) in
    of-fact (λ f. HoldsIn t e f → ⊥) (fact_at fs k) found.0 found.1
    (λ holds. not-both v (root_bit roots k) h ((tells.is k found.0 found.1).1 holds))

-- where the wanted bit is true in a valuation that tells the facts of a run that fits, the target is met
met : (t : Tour) (fs : List Fact) (q : Query) (v : Valuation) (e : Environment) (x : Target) → IsOfRun x
    → length q.blasted.roots ≡ suc (length fs) → IsAbout q x
    → FitsIn t e → TellsFacts t fs q.blasted.roots v e → bit_holds v (wanted_bit q x) ≡ true
    → IsMet t fs q.formula.watches e x
met t fs q v e Fits run count about fits tells h = fits
met t fs q v e (Having k) run count about fits tells h =
    (fits, having t fs q.blasted.roots v e k count about.0 about.1 tells h)
met t fs q v e (Lacking k) run count about fits tells h =
    (fits, lacking t fs q.blasted.roots v e k count about.0 about.1 tells h)
met t fs q v e (Other k x) run count about fits tells h = absurd run

fits-of : (t : Tour) (fs : List Fact) (ws : List Watch) (e : Environment) (x : Target) → IsMet t fs ws e x → FitsIn t e
fits-of t fs ws e Fits h = h
fits-of t fs ws e (Having k) h = h.0
fits-of t fs ws e (Lacking k) h = h.0
fits-of t fs ws e (Other k x) h = h.0

-- where the target is met, the wanted bit is true in a valuation that tells the run's facts
told : (t : Tour) (fs : List Fact) (q : Query) (v : Valuation) (e : Environment) (x : Target) → IsOfRun x
    → TellsFacts t fs q.blasted.roots v e → IsMet t fs q.formula.watches e x
    → bit_holds v (wanted_bit q x) ≡ true
told t fs q v e Fits run tells h = refl
told t fs q v e (Having k) run tells h =
    let f = one-of (HoldsIn t e) (fact_at fs k) h.1 in (tells.is k f.one f.is).1 f.holds
told t fs q v e (Lacking k) run tells h =
    let f = one-of (λ f. HoldsIn t e f → ⊥) (fact_at fs k) h.1 in
    other-holds v (root_bit q.blasted.roots k) (λ b. f.holds ((tells.is k f.one f.is).0 b))
told t fs q v e (Other k x) run tells h = absurd run

-- the clauses of a claim that is no value's
run-premises : (q : Query) (x : Target) → IsOfRun x → premises q x ≡ q.solver.clauses
run-premises q Fits run = refl
run-premises q (Having k) run = refl
run-premises q (Lacking k) run = refl
run-premises q (Other k x) run = absurd run

run-kept : (q : Query) (x : Target) → IsOfRun x → kept_for q x ≡ q.solver.kept
run-kept q Fits run = refl
run-kept q (Having k) run = refl
run-kept q (Lacking k) run = refl
run-kept q (Other k x) run = absurd run

asked-wanted : (q : Query) (x : Target) → IsOfRun x → asked_bit q.blasted.roots x ≡ wanted_bit q x
asked-wanted q Fits run = refl
asked-wanted q (Having k) run = refl
asked-wanted q (Lacking k) run = refl
asked-wanted q (Other k x) run = absurd run

-- the claim of a target that is no value's
pub run-claim : (q : Query) (x : Target) → IsOfRun x → claim q x ≡ q.solver.clauses ++ claimed (asked_bit q.blasted.roots x)
run-claim q x run = λ i. run-premises q x run i ++ claimed (sym (asked-wanted q x run) i)

-- where a claim's clauses are refuted, the target is met in no honest environment
never-met : (t : Tour) (fs : List Fact) (q : Query) (x : Target) (steps : List Step) → IsOfRun x → IsQuery t fs q
    → IsRefutation (q.solver.clauses ++ claimed (wanted_bit q x)) steps → (e : Environment) → IsHonest e
    → IsMet t fs q.formula.watches e x → ⊥
never-met t fs q x steps of h refutes e honest is =
    let run = h.models e honest (fits-of t fs q.formula.watches e x is) in
    refutation-sound (q.solver.clauses ++ claimed (wanted_bit q x)) steps refutes run.model
    (holds-both run.model q.solver.clauses (wanted_bit q x) run.holds (told t fs q run.model e x of run.tells is))

-- ---- replies

-- what a solver over the query's clauses answers where the asked bit is to be true
pub run-replies : (q : Query) (x : Target) (bit : Bit) (n : ℕ) (reply : Reply) → IsOfRun x → IsAbout q x
    → bit ≡ asked_bit q.blasted.roots x → Seeks q.solver q.blasted bit n reply → IsReply q x n reply
run-replies q x bit n (World world) run about is h = record {
  met = λ t fs isq e of.
      let same : bit ≡ wanted_bit q x = is ∙ asked-wanted q x run in
      let parts = holds-parts h.model q.solver.clauses (wanted_bit q x)
      (subst (λ b. formula_holds h.model (q.solver.clauses ++ claimed b) ≡ true) same h.holds) in
      let there = isq.worlds h.model world parts.0 h.decoded e of in
      met t fs q h.model e x run isq.count about there.fits there.tells parts.1;
}
run-replies q x bit n (Refuted steps) run about is h =
    let same : bit ≡ wanted_bit q x = is ∙ asked-wanted q x run in
    let refuted = subst (λ b. IsRefutation (q.solver.clauses ++ claimed b) steps) same h in
    record {
      refutes = subst (λ cs. IsRefutation (cs ++ claimed (wanted_bit q x)) steps) (sym (run-premises q x run)) refuted;
      never = λ t fs isq e honest is_met. never-met t fs q x steps run isq refuted e honest is_met;
    }
run-replies q x bit n (Spent trail) run about is h =
    subst (λ ss. SpendsBehind ss (premises q x) n trail) (sym (run-kept q x run))
    (subst (λ cs. SpendsBehind q.solver.kept cs n trail) (sym (run-premises q x run)) h)

-- ---- a bit that is to be true

pub seeks-sought : (s : Store) (b : Blasted) (bit : Bit) (assume : List Literal) (n : ℕ) (reply : Reply)
    → claimed bit ≡ units assume → IsSought s b assume n reply → Seeks s b bit n reply
seeks-sought s b bit assume n (World world) same h = record {
  model = h.model;
  holds = subst (λ c. formula_holds h.model (s.clauses ++ c) ≡ true) (sym same) h.holds;
  decoded = h.decoded;
}
seeks-sought s b bit assume n (Refuted steps) same h = subst (λ c. IsRefutation (s.clauses ++ c) steps) (sym same) h
seeks-sought s b bit assume n (Spent trail) same h = h

-- the bit is known to be false
pub seeks-false : (s : Store) (b : Blasted) (bit : Bit) (n number : ℕ) (steps : List Step)
    → bit ≡ Known false → number ≡ length s.clauses + 1 → steps ≡ refuting number → Seeks s b bit n (Refuted steps)
seeks-false s b bit n number steps is last e =
    let made : IsRefutation (s.clauses ++ [] ∷ []) (refuting number) = empty-refuted s.clauses number last in
    subst (λ x. IsRefutation (s.clauses ++ claimed x) steps) (sym is)
    (subst (λ t. IsRefutation (s.clauses ++ [] ∷ []) t) (sym e) made)

-- nothing was sought
pub keeps-all : (steps : List Step) → KeepsMore steps steps
keeps-all steps = record { more = []; kept = sym (append-nil steps) }
