-- What replies of a query say of the runs of an accepted source.
use Rattle.std.proofs.Common.{◌≡◌, ℕ, List, [], Some, Bool, true, false, refl, sym, subst}
use Rattle.std.specs.Prelude.{◌↔◌}
use Rattle.plain_data.specs.declared.fact.Fact.{Fact}
use Rattle.plain_data.specs.declared.run.Run.{Run}
use Rattle.plain_data.specs.Worlds.{WorldTables, value_at}
use Rattle.c_store.specs.Store.{initial}
use Rattle.gates.specs.Nets.{bit_holds}
use Rattle.log_text.specs.Shown.{Fits, Holds}
use Rattle.proof_check.specs.Steps.{Step}
use Rattle.term_bank.specs.Values.{Environment}
use Rattle.flat_reads.specs.Flats.{IsHonest}
use Rattle.bitvectors.specs.Blasts.{IsOfWorld}
use Rattle.log_expr.specs.Tours.{Tour, tour_of}
use Rattle.run_formula.specs.Formula.{OfRun, HoldsIn, the_run}
use Rattle.query_core.specs.declared.query.Query.{Query}
use Rattle.query_core.specs.declared.target.Target.TheVariants.{Fits as Fitting, Having, Lacking}
use Rattle.query_core.specs.Claims.{OfFact, fact_at, root_bit}
use Rattle.query_core.specs.Replies.{IsWitness, Refutes}
use Rattle.must_facts.specs.declared.inquiry.Inquiry.{Inquiry}
use Rattle.must_facts.specs.Inquiries.{IsQueryOf, matter_of, run_in}
use Rattle.must_facts.specs.Verdicts.{FailsOn, FitsOn, HoldsOn, IsMust, IsMustNot, IsNothing}

-- ---- the environment of a world

abbrev env_of : WorldTables → Environment
env_of w = record {
  entry = initial (λ a. 0);
  parameters = [];
  base = 0;
  words = value_at w.words;
  bytes = value_at w.bytes;
  rows = λ row a. value_at w.bytes a;
}

honest : (w : WorldTables) → IsHonest (env_of w)
honest w = record { same = λ row a. refl }

of_world : (w : WorldTables) → IsOfWorld w (env_of w)
of_world w = record { words = λ p. refl; bytes = λ a. refl; honest = honest w }

module _ (x : Inquiry) (q : Query) (h : IsQueryOf x q) where
  abbrev tour : Tour
  tour = tour_of x.program.now.core x.log.now x.bounds.now h.ends

  abbrev facts : List Fact
  facts = x.facts.now

  ran : (w : WorldTables) → the_run tour (env_of w) ≡ Some (run_in x w)
  ran w = x.program.now.has_its_runs.run w x.bounds.now

  out : (P : Run → Type 0) (w : WorldTables) → OfRun P (the_run tour (env_of w)) → P (run_in x w)
  out P w p = subst (OfRun P) (ran w) p

  into : (P : Run → Type 0) (w : WorldTables) → P (run_in x w) → OfRun P (the_run tour (env_of w))
  into P w p = subst (OfRun P) (sym (ran w)) p

  -- ---- worlds

  pub fits_there : (w : WorldTables) → IsWitness q Fitting w → FitsOn (matter_of x q) w
  fits_there w is = out (Fits x.log.now) w (is.met tour facts h.is (env_of w) (of_world w))

  pub has_there : (w : WorldTables) (k : ℕ) (f : Fact) → fact_at facts k ≡ Some f → IsWitness q (Having k) w
      → FitsOn (matter_of x q) w × HoldsOn (matter_of x q) f w
  has_there w k f e is =
      let met = is.met tour facts h.is (env_of w) (of_world w) in (
        out (Fits x.log.now) w met.0,
        out (λ r. Holds x.log.now r f) w (subst (OfFact (HoldsIn tour (env_of w))) e met.1),
      )

  pub lacks_there : (w : WorldTables) (k : ℕ) (f : Fact) → fact_at facts k ≡ Some f → IsWitness q (Lacking k) w
      → FitsOn (matter_of x q) w × FailsOn (matter_of x q) f w
  lacks_there w k f e is =
      let met = is.met tour facts h.is (env_of w) (of_world w) in
      let fails = subst (OfFact (λ g. HoldsIn tour (env_of w) g → ⊥)) e met.1 in
      (out (Fits x.log.now) w met.0, λ holds. fails (into (λ r. Holds x.log.now r f) w holds))

  -- ---- refutations

  pub nothing_fits : (steps : List Step) → Refutes q Fitting steps → IsNothing (matter_of x q) steps
  nothing_fits steps r = record {
    never = λ w fits. r.never tour facts h.is (env_of w) (honest w) (into (Fits x.log.now) w fits);
    refutes = r.refutes;
  }

  pub none_has : (k : ℕ) (f : Fact) (steps : List Step) → fact_at facts k ≡ Some f → Refutes q (Having k) steps
      → IsMustNot (matter_of x q) k f steps
  none_has k f steps e r = record {
    never = λ w fits holds. r.never tour facts h.is (env_of w) (honest w) (
      into (Fits x.log.now) w fits,
      subst (OfFact (HoldsIn tour (env_of w))) (sym e) (into (λ r. Holds x.log.now r f) w holds),
    );
    refutes = r.refutes;
  }

  -- of a run that fits a bit tells whether the fact holds
  told : {P : Type 0} (b : Bool) → (b ≡ true) ↔ P → ((P → ⊥) → ⊥) → P
  told true both never = both.0 refl
  told false both never = absurd (never (λ p. let e : false ≡ true = both.1 p in absurd (cc)))

  pub all_have : (k : ℕ) (f : Fact) (steps : List Step) → fact_at facts k ≡ Some f → Refutes q (Lacking k) steps
      → IsMust (matter_of x q) k f steps
  all_have k f steps e r = record {
    always = λ w fits.
        let inside = into (Fits x.log.now) w fits in
        let run = h.is.models (env_of w) (honest w) inside in
        out (λ r. Holds x.log.now r f) w
        (told (bit_holds run.model (root_bit q.blasted.roots k)) (run.tells.is k f e)
        (λ fails. r.never tour facts h.is (env_of w) (honest w)
        (inside, subst (OfFact (λ g. HoldsIn tour (env_of w) g → ⊥)) (sym e) fails)));
    refutes = r.refutes;
  }
